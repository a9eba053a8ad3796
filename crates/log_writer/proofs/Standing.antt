-- What a log is after calls of `add_group`.
use Rattle.std.proofs.Common.{◌≡◌, ℕ, ◌+◌, ◌≤◌, Bool, true, false, List, [], ◌∷◌, ◌++◌, length, take, drop, Option, Some, None, IfSome, MatchOption, refl, sym, ◌∙◌, ap, subst, arith, length-append, length-take}
use Rattle.std.proofs.Math.Seq.{drop-append-add, take-append_seam}
use Rattle.std.proofs.lemmas.List.{take-append-le, take-append-drop, take_all, append-nil, drop-drop}
use lib.Seq.{take-append-add}
use Rattle.base_devices.specs.Disk.{Disk, IsDisk, put_at, Told}
use Rattle.base_devices.specs.declared.disk.Disk.{Ghosts}
use Rattle.model_base.specs.Log.{record_text, Beginning, text_after}
use Rattle.log_laws.specs.Prefixes.{BeginsWith, HoldsFront}
use Rattle.log_writer.specs.declared.writer.LogWriter.{LogWriter}
use Rattle.log_writer.specs.Crashes.{safe_len}
use Rattle.log_writer.specs.Puts.{IsSynced, StandPut, StaysInFront, IsPutInPart, ArePut}
use Rattle.log_writer.specs.Words.{disk_of, number_of, len_of, fault_of}
use Rattle.log_writer.specs.Opening.{HasKeptBytes, HasBegun}
use Rattle.log_writer.specs.Adding.{GroupCall, record_of_call, answer_of, Grows, Stops, Adds}
use Rattle.log_writer.specs.Reads.{WasRead}
use Rattle.log_writer.specs.Written.{Wrote, no_call, one_more, read, IsWritten, if_worked, first_fault, written_by, HaveSynced, HoldsCalls, IsTextOver, Stands}
use Rattle.log_writer.proofs.Calls.{first_more, written_more, begun_more, written_len, none_more, synced_more, synced_all}
use Rattle.log_writer.proofs.Keeping.{after_more, after_none, after_shorter}
use Rattle.log_writer.proofs.Putting.{put_len, put_there}

pub len_after : (b : Beginning) (xs ys : List (List ℕ)) → xs ≡ ys → length (text_after b xs) ≡ length (text_after b ys)
len_after b xs ys e = ap (λ (l : List (List ℕ)). length (text_after b l)) e

-- content that begins with a whole text, at whose end the place is
front_of_whole : (t : List ℕ) (place : ℕ) (content : List ℕ) → place ≡ length t → BeginsWith t content → HoldsFront t place content
front_of_whole t place content end begins = record {
  within = omega (arith, end);
  same = ap (λ (n : ℕ). take n content) end ∙ (begins.1 ∙ sym (take_all place t (omega (arith, end))));
}

-- A record is put where the text of what was written ends.
module _ (b : Beginning) (x y : Disk) (calls : List GroupCall) (c : GroupCall) (len safe : ℕ) (is : IsDisk x) (is_none : first_fault calls ≡ None) (len_is : len ≡ length (text_after b (written_by calls))) (holds : HoldsCalls b x calls safe) where
  abbrev records : List (List ℕ)
  records = written_by calls ++ record_of_call c ∷ []

  abbrev bytes : List ℕ
  bytes = record_text b.number len (record_of_call c)

  records_len : length records ≡ length (written_by calls) + 1
  records_len = omega (arith, length-append (written_by calls) (record_of_call c ∷ []))

  front : take x.place x.content ≡ text_after b (written_by calls)
  front = ap (λ (n : ℕ). take n x.content) (holds.place is_none) ∙ (holds.content).1

  text_is : text_after b records ≡ take x.place x.content ++ bytes
  text_is = after_more b (written_by calls) (record_of_call c) ∙ (ap (λ (n : ℕ). text_after b (written_by calls) ++ record_text b.number n (record_of_call c)) (sym len_is) ∙ ap (λ (l : List ℕ). l ++ bytes) (sym front))

  text_len : length (text_after b records) ≡ x.place + length bytes
  text_len = omega (arith, ap length text_is, length-append (take x.place x.content) bytes, length-take x.place x.content, is.placed)

  -- what was safe is still safe
  still_safe : safe_len x ≤ y.synced → length (text_after b (take safe (written_by calls))) ≤ y.synced
  still_safe synced = omega (arith, synced, holds.synced, holds.place is_none, after_shorter b (written_by calls) safe)

  -- what holds with the call that put the record
  module _ (worked : c.failed ≡ None) (put : StandPut x y bytes c.sync) where
    written : written_by (calls ++ c ∷ []) ≡ records
    written = written_more calls c is_none ∙ ap (λ (f : Option ℕ). written_by calls ++ if_worked f (record_of_call c ∷ []) []) worked

    in_content : x.place + length bytes ≤ length y.content
    in_content = omega (arith, ap length put.content, put_len x.place bytes x.content is.placed)

    begins : BeginsWith (text_after b records) y.content
    begins = (
      omega (arith, text_len, in_content),
      ap (λ (n : ℕ). take n y.content) text_len ∙ (ap (take (x.place + length bytes)) put.content ∙ (put_there x.place bytes x.content is.placed ∙ sym text_is)),
    )

    holds_with : (n : ℕ) → n ≤ length records → length (text_after b (take n records)) ≤ y.synced → HaveSynced (calls ++ c ∷ []) n → HoldsCalls b y (calls ++ c ∷ []) n
    holds_with n some synced have = record {
      content = subst (λ (l : List (List ℕ)). BeginsWith (text_after b l) y.content) (sym written) begins;
      behind = omega (arith, put.place, text_len, len_after b (written_by (calls ++ c ∷ [])) records written);
      place = λ none. put.place ∙ (sym text_len ∙ sym (len_after b (written_by (calls ++ c ∷ [])) records written));
      front = subst (λ (l : List (List ℕ)). HoldsFront (text_after b l) y.place y.content) (sym (begun_more calls c is_none)) (front_of_whole (text_after b records) y.place y.content (put.place ∙ sym text_len) begins);
      some = omega (arith, some, ap length written);
      synced = subst (λ (l : List (List ℕ)). length (text_after b (take n l)) ≤ y.synced) (sym written) synced;
      have_synced = have;
    }

    whole_put : (s : Bool) → c.sync ≡ s → IsSynced s x y → (n : ℕ) × HoldsCalls b y (calls ++ c ∷ []) n
    whole_put true e synced =
        let n : ℕ = length (written_by calls) + 1 in
        let all : take n records ≡ records = take_all n records (omega (arith, records_len)) in (
          n,
          holds_with n (omega (arith, records_len)) (omega (arith, len_after b (take n records) records all, text_len, in_content, synced.synced))
              (synced_all (calls ++ c ∷ []) n (omega (arith, written_len calls is_none, length-append calls (c ∷ [])))),
        )
    whole_put false e synced =
        let same : take safe records ≡ take safe (written_by calls) = take-append-le safe (written_by calls) (record_of_call c ∷ []) holds.some in (
          safe,
          holds_with safe (omega (arith, holds.some, records_len)) (omega (arith, len_after b (take safe records) (take safe (written_by calls)) same, still_safe synced))
              (synced_more calls c safe holds.have_synced (λ ok asked. let wrong : true ≡ false = sym asked ∙ e in cc)),
        )

  -- and with the call of which only a front of the record is put
  part_front : IsPutInPart x y bytes → HoldsFront (text_after b records) y.place y.content
  part_front put =
      let before : List ℕ = take x.place x.content in
      let len : length before + put.some ≡ y.place = omega (arith, length-take x.place x.content, is.placed, put.moved) in
      record {
        within = omega (arith, text_len, put.moved, put.few);
        same = put.part ∙ (sym (take-append-add before bytes put.some) ∙ (ap (λ (n : ℕ). take n (before ++ bytes)) len ∙ ap (take y.place) (sym text_is)));
      }

  part_put : (count : ℕ) → c.failed ≡ Some count → IsPutInPart x y bytes → HoldsCalls b y (calls ++ c ∷ []) safe
  part_put count failed put =
      let stays : StaysInFront x y = put.stays in
      let written : written_by (calls ++ c ∷ []) ≡ written_by calls = written_more calls c is_none ∙ (ap (λ (f : Option ℕ). written_by calls ++ if_worked f (record_of_call c ∷ []) []) failed ∙ append-nil (written_by calls)) in
      let t : List ℕ = text_after b (written_by calls) in
      let there : take x.place y.content ≡ t = stays.content ∙ front in
      let n_is : x.place ≡ length t = holds.place is_none in
      let before : BeginsWith t y.content = (omega (arith, ap length there, length-take x.place y.content), ap (λ (n : ℕ). take n y.content) (sym n_is) ∙ there) in
      record {
        content = subst (λ (l : List (List ℕ)). BeginsWith (text_after b l) y.content) (sym written) before;
        behind = omega (arith, stays.place, n_is, len_after b (written_by (calls ++ c ∷ [])) (written_by calls) written);
        place = λ none. let wrong : ◌≡◌ {A = Option ℕ} None (Some count) = sym none ∙ (first_more calls c is_none ∙ failed) in absurd (cc);
        front = subst (λ (l : List (List ℕ)). HoldsFront (text_after b l) y.place y.content) (sym (begun_more calls c is_none)) (part_front put);
        some = omega (arith, holds.some, ap length written);
        synced = subst (λ (l : List (List ℕ)). length (text_after b (take safe l)) ≤ y.synced) (sym written) (still_safe stays.synced);
        have_synced = synced_more calls c safe holds.have_synced (λ ok asked. let wrong : ◌≡◌ {A = Option ℕ} None (Some count) = sym ok ∙ failed in cc);
      }

  put_behind : (f : Option ℕ) → c.failed ≡ f → ArePut x y bytes c.sync (answer_of f) → (n : ℕ) × HoldsCalls b y (calls ++ c ∷ []) n
  put_behind None worked put = whole_put worked put c.sync refl put.synced
  put_behind (Some count) failed put = (safe, part_put count failed put)

-- the same, if the disk tells its content
told_behind : (b : Beginning) (told now : Option Disk) (calls : List GroupCall) (c : GroupCall) (len : ℕ) → IfSome told IsDisk → first_fault calls ≡ None → len ≡ length (text_after b (written_by calls))
    → IfSome told (λ d. (safe : ℕ) × HoldsCalls b d calls safe) → Told told now (λ x y. ArePut x y (record_text b.number len (record_of_call c)) c.sync (answer_of c.failed)) → IfSome now (λ d. (safe : ℕ) × HoldsCalls b d (calls ++ c ∷ []) safe)
told_behind b None None calls c len is is_none len_is holds put = tt
told_behind b None (Some y) calls c len is is_none len_is holds put = absurd put
told_behind b (Some x) None calls c len is is_none len_is holds put = tt
told_behind b (Some x) (Some y) calls c len is is_none len_is holds put = put_behind b x y calls c len holds.0 is is_none len_is holds.1 c.failed refl put

-- one call more that failed, as all do after a fault
stays : (b : Beginning) (d : Disk) (calls : List GroupCall) (c : GroupCall) (count safe : ℕ) → first_fault calls ≡ Some count → c.failed ≡ Some count → HoldsCalls b d calls safe → HoldsCalls b d (calls ++ c ∷ []) safe
stays b d calls c count safe dead failed holds =
    let same = none_more calls (c ∷ []) count dead in
    record {
      content = subst (λ (l : List (List ℕ)). BeginsWith (text_after b l) d.content) (sym same.written) holds.content;
      behind = omega (arith, holds.behind, len_after b (written_by (calls ++ c ∷ [])) (written_by calls) same.written);
      place = λ none. let wrong : ◌≡◌ {A = Option ℕ} None (Some count) = sym none ∙ (same.fault ∙ dead) in absurd (cc);
      front = subst (λ (l : List (List ℕ)). HoldsFront (text_after b l) d.place d.content) (sym same.begun) holds.front;
      some = omega (arith, holds.some, ap length same.written);
      synced = subst (λ (l : List (List ℕ)). length (text_after b (take safe l)) ≤ d.synced) (sym same.written) holds.synced;
      have_synced = synced_more calls c safe holds.have_synced (λ ok asked. let wrong : ◌≡◌ {A = Option ℕ} None (Some count) = sym ok ∙ failed in cc);
    }

told_stays : (b : Beginning) (told : Option Disk) (calls : List GroupCall) (c : GroupCall) (count : ℕ) → first_fault calls ≡ Some count → c.failed ≡ Some count → IfSome told (λ d. (safe : ℕ) × HoldsCalls b d calls safe)
    → IfSome told (λ d. (safe : ℕ) × HoldsCalls b d (calls ++ c ∷ []) safe)
told_stays b None calls c count dead failed holds = tt
told_stays b (Some d) calls c count dead failed holds = (holds.0, stays b d calls c count holds.0 dead failed holds.1)

-- One call more.
module _ {D : Type 0} {ghosts : Ghosts D} (is_disk : (disk : D) → IfSome (ghosts.told disk) IsDisk) (b : Beginning) (calls : List GroupCall) (c : GroupCall) (now new : LogWriter D ghosts) (stands : Stands b calls now) (adds : Adds c now new) where
  abbrev text_put : Option ℕ → List ℕ
  text_put number = record_text number (len_of now) (record_of_call c)

  -- what is put is in the log's format
  told_put : fault_of now ≡ None → first_fault calls ≡ None → IfSome (ghosts.told (disk_of new)) (λ d. (safe : ℕ) × HoldsCalls b d (calls ++ c ∷ []) safe)
  told_put is_none before = told_behind b (ghosts.told (disk_of now)) (ghosts.told (disk_of new)) calls c (len_of now) (is_disk (disk_of now)) before stands.len stands.told
      (subst (λ (m : Option ℕ). Told (ghosts.told (disk_of now)) (ghosts.told (disk_of new)) (λ x y. ArePut x y (text_put m) c.sync (answer_of c.failed))) stands.number_is (adds.put is_none).are_put)

  alive : fault_of now ≡ None → (f : Option ℕ) → c.failed ≡ f → MatchOption f (Grows (text_put (number_of now)) now new) (Stops now new) → Stands b (calls ++ c ∷ []) new
  alive is_none None worked grows =
      let before : first_fault calls ≡ None = sym stands.fault ∙ is_none in
      let written : written_by (calls ++ c ∷ []) ≡ written_by calls ++ record_of_call c ∷ [] = written_more calls c before ∙ ap (λ (f : Option ℕ). written_by calls ++ if_worked f (record_of_call c ∷ []) []) worked in
      let text_is : text_after b (written_by (calls ++ c ∷ [])) ≡ text_after b (written_by calls) ++ text_put (number_of now) =
      ap (text_after b) written ∙ (after_more b (written_by calls) (record_of_call c)
      ∙ (ap (λ (n : ℕ). text_after b (written_by calls) ++ record_text b.number n (record_of_call c)) (sym stands.len) ∙ ap (λ (m : Option ℕ). text_after b (written_by calls) ++ text_put m) (sym stands.number_is))) in
      record {
        number_is = adds.number ∙ stands.number_is;
        fault = grows.fault ∙ (sym worked ∙ sym (first_more calls c before));
        len = omega (arith, grows.len, stands.len, ap length text_is, length-append (text_after b (written_by calls)) (text_put (number_of now)));
        told = told_put is_none before;
      }
  alive is_none (Some count) failed stops =
      let before : first_fault calls ≡ None = sym stands.fault ∙ is_none in
      let written : written_by (calls ++ c ∷ []) ≡ written_by calls = written_more calls c before ∙ (ap (λ (f : Option ℕ). written_by calls ++ if_worked f (record_of_call c ∷ []) []) failed ∙ append-nil (written_by calls)) in
      record {
        number_is = adds.number ∙ stands.number_is;
        fault = stops.fault ∙ (sym failed ∙ sym (first_more calls c before));
        len = stops.len ∙ (stands.len ∙ sym (len_after b (written_by (calls ++ c ∷ [])) (written_by calls) written));
        told = told_put is_none before;
      }

  dead : (count : ℕ) → fault_of now ≡ Some count → (c.failed ≡ Some count) × (new ≡ now) → Stands b (calls ++ c ∷ []) new
  dead count is_some kept =
      let before : first_fault calls ≡ Some count = sym stands.fault ∙ is_some in
      let same = none_more calls (c ∷ []) count before in
      subst (λ (log : LogWriter D ghosts). Stands b (calls ++ c ∷ []) log) (sym kept.1) (record {
        number_is = stands.number_is;
        fault = stands.fault ∙ sym same.fault;
        len = stands.len ∙ sym (len_after b (written_by (calls ++ c ∷ [])) (written_by calls) same.written);
        told = told_stays b (ghosts.told (disk_of now)) calls c count before kept.0 stands.told;
      })

  by_fault : (f : Option ℕ) → fault_of now ≡ f → IfSome f (λ count. (c.failed ≡ Some count) × (new ≡ now)) → Stands b (calls ++ c ∷ []) new
  by_fault None is_none kept = alive is_none c.failed refl (adds.kept is_none)
  by_fault (Some count) is_some kept = dead count is_some kept

  pub stands_more : Stands b (calls ++ c ∷ []) new
  stands_more = by_fault (fault_of now) refl adds.dead

-- once the log has begun, its disk's content begins with what it keeps
kept_in_front : (b : Beginning) (x y : Disk) → HasKeptBytes b x y → BeginsWith (text_after b []) y.content
kept_in_front b x y behind =
    let same : text_after b [] ≡ b.kept = after_none b in
    subst (λ (t : List ℕ). BeginsWith t y.content) (sym same) (
      omega (arith, ap length behind.kept, length-take y.place y.content),
      ap (λ (n : ℕ). take n y.content) (sym behind.place) ∙ behind.kept,
    )

told_first : (b : Beginning) (told now : Option Disk) → Told told now (HasKeptBytes b) → IfSome now (λ d. (safe : ℕ) × HoldsCalls b d [] safe)
told_first b None None behind = tt
told_first b None (Some y) behind = absurd behind
told_first b (Some x) None behind = tt
told_first b (Some x) (Some y) behind =
    let same : length (text_after b []) ≡ length b.kept = ap length (after_none b) in (
      0,
      record {
        content = kept_in_front b x y behind;
        behind = omega (arith, behind.place, same);
        place = λ none. behind.place ∙ sym same;
        front = front_of_whole (text_after b []) y.place y.content (behind.place ∙ sym same) (kept_in_front b x y behind);
        some = omega arith;
        synced = omega (arith, behind.safe, same);
        have_synced = tt;
      },
    )

pub stands_first : {D : Type 0} {ghosts : Ghosts D} (b : Beginning) (disk : D) (log : LogWriter D ghosts) → HasBegun b disk log → Stands b [] log
stands_first {ghosts = ghosts} b disk log begun = record {
  number_is = begun.number_is;
  fault = begun.fault;
  len = begun.len ∙ sym (ap length (after_none b));
  told = told_first b (ghosts.told disk) (ghosts.told (disk_of log)) begun.told;
}

-- reading changes nothing of it
pub stands_read : {D : Type 0} {ghosts : Ghosts D} (b : Beginning) (calls : List GroupCall) (now new : LogWriter D ghosts) → Stands b calls now → WasRead now new → Stands b calls new
stands_read {ghosts = ghosts} b calls now new stands r = record {
  number_is = r.number ∙ stands.number_is;
  fault = r.fault ∙ stands.fault;
  len = r.len ∙ stands.len;
  told = subst (λ (t : Option Disk). IfSome t (λ d. (safe : ℕ) × HoldsCalls b d calls safe)) (sym r.disk.same) stands.told;
}

module _ {D : Type 0} {ghosts : Ghosts D} (is_disk : (disk : D) → IfSome (ghosts.told disk) IsDisk) (b : Beginning) where
  pub stands_written : (begun : LogWriter D ghosts) (calls : List GroupCall) (log : LogWriter D ghosts) → Stands b [] begun → Wrote begun calls log → Stands b calls log
  stands_written begun calls log first no_call = first
  stands_written begun calls log first (one_more {calls = before} {now = now} c wrote adds) = stands_more is_disk b before c now log (stands_written begun before now first wrote) adds
  stands_written begun calls log first (read {now = now} wrote r) = stands_read b calls now log (stands_written begun calls now first wrote) r

  pub stands_so : (disk : D) (calls : List GroupCall) (log : LogWriter D ghosts) → IsWritten b disk calls log → Stands b calls log
  stands_so disk calls log is = stands_written is.begun calls log (stands_first b disk is.begun is.has_begun) is.wrote

-- The content of the disk, where no call failed.

-- then no call before the last one failed, nor the last one
none_before : (calls : List GroupCall) (c : GroupCall) → first_fault (calls ++ c ∷ []) ≡ None → (first_fault calls ≡ None) × (c.failed ≡ None)
none_before calls c none = by_first (first_fault calls) refl
  where
    by_first : (f : Option ℕ) → first_fault calls ≡ f → (first_fault calls ≡ None) × (c.failed ≡ None)
    by_first None e = (e, sym (first_more calls c e) ∙ none)
    by_first (Some count) e = let wrong : ◌≡◌ {A = Option ℕ} None (Some count) = sym none ∙ ((none_more calls (c ∷ []) count e).fault ∙ e) in absurd (cc)

text_over_first : (b : Beginning) (x y : Disk) → HasKeptBytes b x y → IsTextOver (text_after b []) y y
text_over_first b x y behind = let begins = kept_in_front b x y behind in
    let t : List ℕ = text_after b [] in
    sym (take-append-drop (length t) y.content) ∙ ap (λ (l : List ℕ). l ++ drop (length t) y.content) begins.1

told_over_first : (b : Beginning) (told now : Option Disk) → Told told now (HasKeptBytes b) → Told now now (IsTextOver (text_after b []))
told_over_first b None None behind = tt
told_over_first b None (Some y) behind = absurd behind
told_over_first b (Some x) None behind = tt
told_over_first b (Some x) (Some y) behind = text_over_first b x y behind

-- bytes that are put after a text are over what was there, and what follows them is as it was
over_more : (t bytes old : List ℕ) (x y : Disk) → x.content ≡ t ++ drop (length t) old → x.place ≡ length t → y.content ≡ put_at x.place bytes x.content → y.content ≡ (t ++ bytes) ++ drop (length (t ++ bytes)) old
over_more t bytes old x y text_over place put =
    let rest : List ℕ = drop (length t) old in
    let later : List ℕ = drop (length (t ++ bytes)) old in
    let first : take x.place x.content ≡ t = ap (λ (n : ℕ). take n x.content) place ∙ (ap (take (length t)) text_over ∙ take-append_seam t rest) in
    let behind : drop (x.place + length bytes) x.content ≡ later =
    ap (λ (n : ℕ). drop (n + length bytes) x.content) place ∙ (ap (drop (length t + length bytes)) text_over ∙ (drop-append-add t rest (length bytes)
    ∙ (drop-drop (length bytes) (length t) old ∙ ap (λ (n : ℕ). drop n old) (sym (length-append t bytes))))) in
    put ∙ (ap (λ (l : List ℕ). (l ++ bytes) ++ drop (x.place + length bytes) x.content) first ∙ ap (λ (l : List ℕ). (t ++ bytes) ++ l) behind)

over_call : (b : Beginning) (a now new : Option Disk) (calls : List GroupCall) (c : GroupCall) (len : ℕ) → first_fault calls ≡ None → c.failed ≡ None → len ≡ length (text_after b (written_by calls)) → IfSome now (λ d. (safe : ℕ) × HoldsCalls b d calls safe)
    → Told a now (IsTextOver (text_after b (written_by calls))) → Told now new (λ x y. StandPut x y (record_text b.number len (record_of_call c)) c.sync) → Told a new (IsTextOver (text_after b (written_by (calls ++ c ∷ []))))
over_call b None None None calls c len before worked len_is holds over put = tt
over_call b None None (Some z) calls c len before worked len_is holds over put = absurd put
over_call b None (Some y) new calls c len before worked len_is holds over put = absurd over
over_call b (Some x) None new calls c len before worked len_is holds over put = absurd over
over_call b (Some x) (Some y) None calls c len before worked len_is holds over put = absurd put
over_call b (Some x) (Some y) (Some z) calls c len before worked len_is holds over put =
    let t : List ℕ = text_after b (written_by calls) in
    let written : written_by (calls ++ c ∷ []) ≡ written_by calls ++ record_of_call c ∷ [] = written_more calls c before ∙ ap (λ (f : Option ℕ). written_by calls ++ if_worked f (record_of_call c ∷ []) []) worked in
    let text_is : text_after b (written_by (calls ++ c ∷ [])) ≡ t ++ record_text b.number len (record_of_call c) =
    ap (text_after b) written ∙ (after_more b (written_by calls) (record_of_call c) ∙ ap (λ (n : ℕ). t ++ record_text b.number n (record_of_call c)) (sym len_is)) in
    subst (λ (l : List ℕ). IsTextOver l x z) (sym text_is) (over_more t (record_text b.number len (record_of_call c)) x.content y z over ((holds.1).place before) put.content)

module _ {D : Type 0} {ghosts : Ghosts D} (is_disk : (disk : D) → IfSome (ghosts.told disk) IsDisk) (b : Beginning) where
  pub text_over : (disk : D) (begun : LogWriter D ghosts) (calls : List GroupCall) (log : LogWriter D ghosts) → HasBegun b disk begun → Wrote begun calls log → first_fault calls ≡ None
      → Told (ghosts.told (disk_of begun)) (ghosts.told (disk_of log)) (IsTextOver (text_after b (written_by calls)))
  text_over disk begun calls log has no_call none = told_over_first b (ghosts.told disk) (ghosts.told (disk_of begun)) has.told
  text_over disk begun calls log has (one_more {calls = before} {now = now} c wrote adds) none =
      let both = none_before before c none in
      let stands : Stands b before now = stands_written is_disk b begun before now (stands_first b disk begun has) wrote in
      let is_none : fault_of now ≡ None = stands.fault ∙ both.0 in
      let put : Told (ghosts.told (disk_of now)) (ghosts.told (disk_of log)) (λ x y. ArePut x y (record_text b.number (len_of now) (record_of_call c)) c.sync (answer_of None)) =
      subst (λ (f : Option ℕ). Told (ghosts.told (disk_of now)) (ghosts.told (disk_of log)) (λ x y. ArePut x y (record_text b.number (len_of now) (record_of_call c)) c.sync (answer_of f))) both.1
      (subst (λ (m : Option ℕ). Told (ghosts.told (disk_of now)) (ghosts.told (disk_of log)) (λ x y. ArePut x y (record_text m (len_of now) (record_of_call c)) c.sync (answer_of c.failed))) stands.number_is (adds.put is_none).are_put) in
      over_call b (ghosts.told (disk_of begun)) (ghosts.told (disk_of now)) (ghosts.told (disk_of log)) before c (len_of now) both.0 both.1 stands.len stands.told
      (text_over disk begun before now has wrote both.0) put
  text_over disk begun calls log has (read {now = now} wrote r) none =
      subst (λ (t : Option Disk). Told (ghosts.told (disk_of begun)) t (IsTextOver (text_after b (written_by calls)))) (sym r.disk.same) (text_over disk begun calls now has wrote none)
