-- What a crash leaves of each log of a set.
use Rattle.std.proofs.Common.{◌≡◌, ℕ, zero, suc, true, List, [], ◌∷◌, ◌++◌, length, take, drop, map, Option, Some, None, IfSome, refl, sym, ◌∙◌, ap, subst, arith, append_assoc, append-nil, length-append, add-zero}
use Rattle.std.proofs.lemmas.List.{take-append-le, take-append-drop}
use Rattle.std.specs.List.{AllByRecursion}
use Rattle.base_devices.specs.Disk.{Disk, IsImage, put_at, Told}
use Rattle.base_devices.specs.declared.disk.Disk.{Ghosts}
use Rattle.model_base.specs.Log.{new_log}
use Rattle.log_laws.specs.Fronts.{plain_text}
use Rattle.log_writer.specs.declared.writer.LogWriter.{LogWriter}
use Rattle.log_writer.specs.Words.{disk_of, len_of}
use Rattle.log_writer.specs.Crashes.{KeepsWhatWasSafe}
use Rattle.log_writer.specs.Puts.{StandPut, StaysInFront}
use Rattle.log_writer.specs.Opening.{HasOpened}
use Rattle.log_writer.specs.Adding.{GroupCall, record_of_call, answer_of}
use Rattle.log_writer.specs.Written.{Wrote, no_call, one_more, read, IsWritten, if_worked, first_fault, written_by, begun_by, HoldsCalls, IsTextOver, Stands}
use Rattle.log_writer.specs.SetSplits.{IsFilled, AreFilled}
use Rattle.log_writer.proofs.Beginning.{opened_begins}
use Rattle.log_writer.proofs.Calls.{begun_front, begun_written}
use Rattle.log_writer.proofs.Keeping.{only_image, image_keeps}
use Rattle.log_writer.proofs.Standing.{stands_so, text_over}
use Rattle.log_writer.proofs.Surviving.{Laws, Survives, survives, survives_put, survives_read, survives_more, safe_before, safe_begins}
use Rattle.log_writer.proofs.SetFronts.{BeginsBetween, BeginsNow, IsWholeNow, IsFresh, FromCurrent, filled, last}

-- what calls wrote, and then others
pub written_append : (calls more : List GroupCall) → first_fault calls ≡ None → written_by (calls ++ more) ≡ written_by calls ++ written_by more
written_append [] more none = refl
written_append (d ∷ calls) more none = with_failed d.failed none (written_append calls more)
  where
    with_failed : (f : Option ℕ) → if_worked f (first_fault calls) f ≡ None → (first_fault calls ≡ None → written_by (calls ++ more) ≡ written_by calls ++ written_by more)
        → if_worked f (record_of_call d ∷ written_by (calls ++ more)) [] ≡ if_worked f (record_of_call d ∷ written_by calls) [] ++ written_by more
    with_failed None none later = ap (λ (l : List (List ℕ)). record_of_call d ∷ l) (later none)
    with_failed (Some n) none later = absurd (cc)

-- where the set's sync puts no bytes, the content is as before
no_put : (place : ℕ) (content : List ℕ) → put_at place [] content ≡ content
no_put place content = (λ i. append-nil (take place content) i ++ drop (add-zero place i) content) ∙ take-append-drop place content

-- where a log began with no bytes, and was synced after its text was written, its text is the only image
whole_image : (t image : List ℕ) (begun written synced : Option Disk) (d : Disk) → written ≡ Some d → Told begun written (IsTextOver t) → IfSome begun (λ x. x.content ≡ []) → Told written synced (λ x y. StandPut x y [] true) → IfSome synced (λ y. IsImage y image) → image ≡ t
whole_image t image begun None synced d tells over bare put left = absurd (let wrong : ◌≡◌ {A = Option Disk} None (Some d) = tells in cc)
whole_image t image None (Some x) synced d tells over bare put left = absurd over
whole_image t image (Some b) (Some x) None d tells over bare put left = absurd put
whole_image t image (Some b) (Some x) (Some y) d tells over bare put left =
    let nothing : drop (length t) b.content ≡ [] = ap (drop (length t)) bare ∙ drop_none (length t) in
    only_image y image put.synced left ∙ (put.content ∙ (no_put x.place x.content ∙ (over ∙ (ap (λ (l : List ℕ). t ++ l) nothing ∙ append-nil t))))
  where
    drop_none : (n : ℕ) → ◌≡◌ {A = List ℕ} (drop n []) []
    drop_none zero = refl
    drop_none (suc n) = refl

-- where a log began with no bytes, what was written over them is its content
over_nothing : (t : List ℕ) (begun now : Option Disk) → Told begun now (IsTextOver t) → IfSome begun (λ x. x.content ≡ []) → IfSome now (λ x. x.content ≡ t)
over_nothing t begun None over bare = tt
over_nothing t None (Some x) over bare = absurd over
over_nothing t (Some b) (Some x) over bare =
    let nothing : drop (length t) b.content ≡ [] = ap (drop (length t)) bare ∙ drop_none (length t) in
    over ∙ (ap (λ (l : List ℕ). t ++ l) nothing ∙ append-nil t)
  where
    drop_none : (n : ℕ) → ◌≡◌ {A = List ℕ} (drop n []) []
    drop_none zero = refl
    drop_none (suc n) = refl

-- and a sync leaves it
synced_content : (t : List ℕ) (written synced : Option Disk) → IfSome written (λ x. x.content ≡ t) → Told written synced (λ x y. StandPut x y [] true) → IfSome synced (λ y. y.content ≡ t)
synced_content t written None holds put = tt
synced_content t None (Some y) holds put = absurd put
synced_content t (Some x) (Some y) holds put = put.content ∙ (no_put x.place x.content ∙ holds)

module _ {D : Type 0} {ghosts : Ghosts D} (laws : Laws ghosts) where
  pub wrote_append : (a b c : LogWriter D ghosts) (calls more : List GroupCall) → Wrote a calls b → Wrote b more c → Wrote a (calls ++ more) c
  wrote_append a b c calls more first no_call = subst (λ (l : List GroupCall). Wrote a l b) (sym (append-nil calls)) first
  wrote_append a b c calls more first (one_more {calls = before} {now = now} call wrote adds) =
      subst (λ (l : List GroupCall). Wrote a l c) (append_assoc calls before (call ∷ [])) (one_more call (wrote_append a b now calls before first wrote) adds)
  wrote_append a b c calls more first (read {now = now} wrote r) = read (wrote_append a b now calls more first wrote) r

  -- the log began on an empty disk, which tells what it is, and was written by these calls
  pub record IsAt (calls : List GroupCall) (log : LogWriter D ghosts) : Type 0 where
    pub disk : D
    pub is : IsWritten new_log disk calls log
    pub d : Disk
    pub tells : ghosts.told (disk_of log) ≡ Some d
    pub bare : IfSome (ghosts.told (disk_of is.begun)) (λ x. x.content ≡ [])

  -- nothing was written to the log
  pub record IsUnused (log : LogWriter D ghosts) : Type 0 where
    pub at : IsAt [] log
    pub fresh : IsFresh log

  -- a disk that tells now told before, and will
  told_still : (a b : Option Disk) (d : Disk) (R : Disk → Disk → Type 0) → Told a b R → a ≡ Some d → (e : Disk) × (b ≡ Some e)
  told_still None b d R told tells = absurd (let wrong : ◌≡◌ {A = Option Disk} None (Some d) = tells in cc)
  told_still (Some x) None d R told tells = absurd told
  told_still (Some x) (Some y) d R told tells = (y, refl)

  -- with more calls
  pub is_on : (calls more : List GroupCall) (old new : LogWriter D ghosts) → IsAt calls old → Wrote old more new → IsAt (calls ++ more) new
  is_on calls more old new at wrote =
      let tells = told_still (ghosts.told (disk_of old)) (ghosts.told (disk_of new)) at.d StaysInFront (survives laws old more new wrote).stays at.tells in
      record {
        disk = at.disk;
        is = record { begun = at.is.begun; has_begun = at.is.has_begun; wrote = wrote_append at.is.begun old new calls more at.is.wrote wrote };
        d = tells.0;
        tells = tells.1;
        bare = at.bare;
      }

  module _ (calls : List GroupCall) (old : LogWriter D ghosts) (at : IsAt calls old) where
    standing : Stands new_log calls old
    standing = stands_so laws.is_disk new_log at.disk calls old at.is

    pub holds : (safe : ℕ) × HoldsCalls new_log at.d calls safe
    holds = subst (λ (t : Option Disk). IfSome t (λ d. (safe : ℕ) × HoldsCalls new_log d calls safe)) at.tells standing.told

    -- Once the log is filled, its text is all that a crash leaves of it.
    module _ (own : List GroupCall) (new : LogWriter D ghosts) (is : IsFilled old own new) where
      no_fault : first_fault (calls ++ own) ≡ None
      no_fault =
          sym (stands_so laws.is_disk new_log at.disk (calls ++ own) is.written (record { begun = at.is.begun; has_begun = at.is.has_begun; wrote = wrote_append at.is.begun old is.written calls own at.is.wrote is.wrote })).fault ∙ is.alive

      now_whole : IsWholeNow new (written_by (calls ++ own))
      now_whole image left =
          let tells = told_still (ghosts.told (disk_of old)) (ghosts.told (disk_of is.written)) at.d StaysInFront (survives laws old own is.written is.wrote).stays at.tells in
          let synced = subst (λ (t : Option Disk). IfSome t (λ d. IsImage d image)) is.was_read.disk.same left in
          whole_image (plain_text (written_by (calls ++ own))) image (ghosts.told (disk_of at.is.begun)) (ghosts.told (disk_of is.written)) (ghosts.told (disk_of is.synced)) tells.0 tells.1
          (text_over laws.is_disk new_log at.disk at.is.begun (calls ++ own) is.written at.is.has_begun (wrote_append at.is.begun old is.written calls own at.is.wrote is.wrote) no_fault) at.bare is.syncs.put.are_put synced

    module _ (safe : ℕ) (held : HoldsCalls new_log at.d calls safe) where
      begins_now : BeginsNow old (take safe (written_by calls))
      begins_now image left = safe_begins new_log at.d calls safe image held (subst (λ (t : Option Disk). KeepsWhatWasSafe t image) at.tells (image_keeps (ghosts.told (disk_of old)) image left))

      module _ (new : LogWriter D ghosts) (s : Survives laws old new) where
        begins_between : BeginsBetween old new (take safe (written_by calls))
        begins_between image left = safe_begins new_log at.d calls safe image held (subst (λ (t : Option Disk). KeepsWhatWasSafe t image) at.tells (s.leaves.each image left.0 left.1))

        begins_after : BeginsNow new (take safe (written_by calls))
        begins_after image left =
            safe_begins new_log at.d calls safe image held
            (subst (λ (t : Option Disk). KeepsWhatWasSafe t image) at.tells (safe_before (ghosts.told (disk_of old)) (ghosts.told (disk_of new)) image s.stays (image_keeps (ghosts.told (disk_of new)) image left)))

      -- the log that is the current one at the end
      pub current_last : (own : List GroupCall) (new : LogWriter D ghosts) (later : List (LogWriter D ghosts)) (logs : List (List (List ℕ))) → Wrote old own new → AllByRecursion IsFresh later → FromCurrent safe (old ∷ later) (new ∷ later) (begun_by (calls ++ own) ∷ logs)
      current_last own new later logs wrote fresh =
          let s : Survives laws old new = survives laws old own new wrote in
          let all = begun_by (calls ++ own) in
          let front = begun_front calls own in
          let same : take safe all ≡ take safe (written_by calls) = ap (take safe) front.1 ∙ take-append-le safe (written_by calls) front.0 held.some in
          last all (omega (arith, held.some, ap length front.1, length-append (written_by calls) front.0))
          (subst (BeginsNow old) (sym same) begins_now)
          (subst (BeginsBetween old new) (sym same) (begins_between new s))
          (subst (BeginsNow new) (sym same) (begins_after new s))
          fresh

      -- a log that was filled
      pub current_filled : (own : List GroupCall) (new : LogWriter D ghosts) (olds news : List (LogWriter D ghosts)) (logs : List (List (List ℕ))) → IsFilled old own new → AllByRecursion IsFresh olds → FromCurrent 0 olds news logs
          → FromCurrent safe (old ∷ olds) (new ∷ news) (written_by (calls ++ own) ∷ logs)
      current_filled own new olds news logs is fresh on =
          let mid : LogWriter D ghosts = is.written in
          let first : Survives laws old mid = survives laws old own mid is.wrote in
          let second : Survives laws mid is.synced = survives_put laws mid is.synced [] true (answer_of None) is.syncs.put in
          let third : Survives laws is.synced new = survives_read laws is.synced new is.was_read in
          let s : Survives laws old new = survives_more laws old is.synced new (survives_more laws old mid is.synced first second) third in
          let all = written_by (calls ++ own) in
          let begun : begun_by (calls ++ own) ≡ all = begun_written (calls ++ own) (no_fault own new is) in
          let front = begun_front calls own in
          let same : take safe all ≡ take safe (written_by calls) = ap (take safe) (sym begun ∙ front.1) ∙ take-append-le safe (written_by calls) front.0 held.some in
          filled all (omega (arith, held.some, ap length (sym begun ∙ front.1), length-append (written_by calls) front.0))
          (subst (BeginsNow old) (sym same) begins_now)
          (subst (BeginsBetween old new) (sym same) (begins_between new s))
          (now_whole own new is)
          fresh
          on

  pub all_fresh : (logs : List (LogWriter D ghosts)) → AllByRecursion IsUnused logs → AllByRecursion IsFresh logs
  all_fresh [] all = tt
  all_fresh (log ∷ logs) all = (all.0.fresh, all_fresh logs all.1)

  -- what is in each log, from one that nothing was written to on
  unfoldable pub logs_of_parts : List (List GroupCall) → List GroupCall → List (LogWriter D ghosts) → List (List (List ℕ))
  logs_of_parts [] own later = begun_by own ∷ map (λ (log : LogWriter D ghosts). []) later
  logs_of_parts (calls ∷ parts) own later = written_by calls ∷ logs_of_parts parts own later

  unused_holds : (log : LogWriter D ghosts) (unused : IsUnused log) → HoldsCalls new_log unused.at.d [] 0
  unused_holds log unused =
      let h = holds [] log unused.at in
      let none : h.0 ≡ 0 = omega (arith, h.1.some) in
      subst (λ (n : ℕ). HoldsCalls new_log unused.at.d [] n) none h.1

  pub from_unused : (started : List (LogWriter D ghosts)) (parts : List (List GroupCall)) (news : List (LogWriter D ghosts)) (log : LogWriter D ghosts) (own : List GroupCall) (new : LogWriter D ghosts) (later : List (LogWriter D ghosts)) → AreFilled started parts news → Wrote log own new
      → AllByRecursion IsUnused (started ++ log ∷ later) → FromCurrent 0 (started ++ log ∷ later) (news ++ new ∷ later) (logs_of_parts parts own later)
  unfolding logs_of_parts
  from_unused [] [] [] log own new later are wrote unused = current_last [] log unused.0.at 0 (unused_holds log unused.0) own new later (map (λ (l : LogWriter D ghosts). []) later) wrote (all_fresh later unused.1)
  from_unused [] [] (n ∷ news) log own new later are wrote unused = absurd are
  from_unused [] (p ∷ parts) news log own new later are wrote unused = absurd are
  from_unused (s ∷ started) [] news log own new later are wrote unused = absurd are
  from_unused (s ∷ started) (p ∷ parts) [] log own new later are wrote unused = absurd are
  from_unused (s ∷ started) (p ∷ parts) (n ∷ news) log own new later are wrote unused =
      current_filled [] s unused.0.at 0 (unused_holds s unused.0) p n (started ++ log ∷ later) (news ++ new ∷ later) (logs_of_parts parts own later) are.0 (all_fresh (started ++ log ∷ later) unused.1) (from_unused started parts news log own new later are.1 wrote unused.1)

  -- The same, where calls had written to the first of these logs before.
  unfoldable pub logs_from : List GroupCall → List (List GroupCall) → List GroupCall → List (LogWriter D ghosts) → List (List (List ℕ))
  logs_from before [] own later = begun_by (before ++ own) ∷ map (λ (log : LogWriter D ghosts). []) later
  logs_from before (calls ∷ parts) own later = written_by (before ++ calls) ∷ logs_of_parts parts own later

  pub from_current : (before : List GroupCall) (safe : ℕ) (old : LogWriter D ghosts) (olds started : List (LogWriter D ghosts)) (parts : List (List GroupCall)) (news : List (LogWriter D ghosts)) (log : LogWriter D ghosts) (own : List GroupCall) (new : LogWriter D ghosts) (later : List (LogWriter D ghosts))
      → old ∷ olds ≡ started ++ log ∷ later → (at : IsAt before old) → HoldsCalls new_log at.d before safe → AllByRecursion IsUnused olds → AreFilled started parts news → Wrote log own new
      → FromCurrent safe (old ∷ olds) (news ++ new ∷ later) (logs_from before parts own later)
  unfolding logs_from
  from_current before safe old olds [] [] [] log own new later e at held unused are wrote =
      let head : old ≡ log = cc in
      let tail : olds ≡ later = cc in
      subst (λ (l : List (LogWriter D ghosts)). FromCurrent safe (old ∷ olds) (new ∷ l) (begun_by (before ++ own) ∷ map (λ (x : LogWriter D ghosts). []) l)) tail
      (current_last before old at safe held own new olds (map (λ (x : LogWriter D ghosts). []) olds) (subst (λ (l : LogWriter D ghosts). Wrote l own new) (sym head) wrote) (all_fresh olds unused))
  from_current before safe old olds [] [] (n ∷ news) log own new later e at held unused are wrote = absurd are
  from_current before safe old olds [] (p ∷ parts) news log own new later e at held unused are wrote = absurd are
  from_current before safe old olds (s ∷ started) [] news log own new later e at held unused are wrote = absurd are
  from_current before safe old olds (s ∷ started) (p ∷ parts) [] log own new later e at held unused are wrote = absurd are
  from_current before safe old olds (s ∷ started) (p ∷ parts) (n ∷ news) log own new later e at held unused are wrote =
      let head : old ≡ s = cc in
      let tail : olds ≡ started ++ log ∷ later = cc in
      current_filled before old at safe held p n olds (news ++ new ∷ later) (logs_of_parts parts own later) (subst (λ (l : LogWriter D ghosts). IsFilled l p n) (sym head) are.0) (all_fresh olds unused)
      (subst (λ (l : List (LogWriter D ghosts)). FromCurrent 0 l (news ++ new ∷ later) (logs_of_parts parts own later)) (sym tail) (from_unused started parts news log own new later are.1 wrote (subst (AllByRecursion IsUnused) tail unused)))

  pub filled_whole : (log : LogWriter D ghosts) → IsAt [] log → (calls : List GroupCall) (new : LogWriter D ghosts) → IsFilled log calls new → IsWholeNow new (written_by calls)
  filled_whole log at calls new is = now_whole [] log at calls new is

  -- The log began on an empty disk, and was written by these calls, whether its disk tells what it is or not.
  pub record IsOn (calls : List GroupCall) (log : LogWriter D ghosts) : Type 0 where
    pub disk : D
    pub is : IsWritten new_log disk calls log
    pub bare : IfSome (ghosts.told (disk_of is.begun)) (λ x. x.content ≡ [])

  pub on_opened : (disk : D) (log : LogWriter D ghosts) → HasOpened disk log → IsOn [] log
  on_opened disk log opened = record {
    disk = disk;
    is = record { begun = log; has_begun = opened_begins laws disk log opened; wrote = no_call };
    bare = subst (λ (t : Option Disk). IfSome t (λ x. x.content ≡ [])) (sym (opened.looked_at).same) opened.empty;
  }

  pub on_more : (calls more : List GroupCall) (old new : LogWriter D ghosts) → IsOn calls old → Wrote old more new → IsOn (calls ++ more) new
  on_more calls more old new on wrote = record {
    disk = on.disk;
    is = record { begun = on.is.begun; has_begun = on.is.has_begun; wrote = wrote_append on.is.begun old new calls more on.is.wrote wrote };
    bare = on.bare;
  }

  pub on_stands : (calls : List GroupCall) (log : LogWriter D ghosts) → IsOn calls log → Stands new_log calls log
  on_stands calls log on = stands_so laws.is_disk new_log on.disk calls log on.is

  -- what it holds if no call failed
  pub on_content : (calls : List GroupCall) (log : LogWriter D ghosts) → IsOn calls log → first_fault calls ≡ None → IfSome (ghosts.told (disk_of log)) (λ x. x.content ≡ plain_text (written_by calls))
  on_content calls log on none =
      over_nothing (plain_text (written_by calls)) (ghosts.told (disk_of on.is.begun)) (ghosts.told (disk_of log)) (text_over laws.is_disk new_log on.disk on.is.begun calls log on.is.has_begun on.is.wrote none) on.bare

  -- a log that was filled
  module _ (log : LogWriter D ghosts) (on : IsOn [] log) (calls : List GroupCall) (new : LogWriter D ghosts) (is : IsFilled log calls new) where
    on_written : IsOn calls is.written
    on_written = on_more [] calls log is.written on is.wrote

    pub filled_content : IfSome (ghosts.told (disk_of new)) (λ y. y.content ≡ plain_text (written_by calls))
    filled_content =
        subst (λ (t : Option Disk). IfSome t (λ y. y.content ≡ plain_text (written_by calls))) (sym is.was_read.disk.same)
        (synced_content (plain_text (written_by calls)) (ghosts.told (disk_of is.written)) (ghosts.told (disk_of is.synced))
        (on_content calls is.written on_written (sym (on_stands calls is.written on_written).fault ∙ is.alive)) is.syncs.put.are_put)

    pub filled_len : len_of new ≡ length (plain_text (written_by calls))
    filled_len = is.was_read.len ∙ (is.syncs.len ∙ (on_stands calls is.written on_written).len)
