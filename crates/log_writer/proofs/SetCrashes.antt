-- At any moment of calls of a set a crash leaves a front of its logs.
use Rattle.std.proofs.Common.{◌≡◌, ℕ, List, [], ◌∷◌, ◌++◌, map, Option, Some, None, IfSome, sym, ◌∙◌, ap, subst, append_assoc}
use Rattle.std.specs.List.{AllByRecursion, AllZip}
use Rattle.base_devices.specs.Disk.{Disk, IsImage, IsAllSafe}
use Rattle.base_devices.specs.declared.disk.Disk.{Ghosts}
use Rattle.model_base.specs.Log.{new_log}
use Rattle.log_laws.specs.Fronts.{records_in}
use Rattle.log_writer.specs.declared.writer.LogWriter.{LogWriter}
use Rattle.log_writer.specs.declared.set.LogSet.{LogSet}
use Rattle.log_writer.specs.Words.{disk_of}
use Rattle.log_writer.specs.Opening.{HasOpened}
use Rattle.log_writer.specs.Adding.{GroupCall}
use Rattle.log_writer.specs.Reads.{WasRead}
use Rattle.log_writer.specs.Written.{no_call, written_by, begun_by, HaveSynced, HoldsCalls}
use Rattle.log_writer.specs.Sets.{full_of, current_of, later_of, logs_of, fault_in}
use Rattle.log_writer.specs.SetSplits.{AreFilled, IsSplit}
use Rattle.log_writer.specs.SetCrashes.{HasOpenedSet, AreSafeAfterFirst, LeavesFront}
use Rattle.log_writer.proofs.Beginning.{opened_begins}
use Rattle.log_writer.proofs.Keeping.{only_image}
use Rattle.log_writer.proofs.Reading.{zip_none, filled_then_read, left_while_read}
use Rattle.log_writer.proofs.Surviving.{Laws}
use Rattle.log_writer.proofs.SetFronts.{IsWholeNow, FromFirst, done, current, front_first}
use Rattle.log_writer.proofs.SetStates.{IsAt, IsUnused, is_on, holds, filled_whole, logs_from, from_current}
use Rattle.log_writer.proofs.SetRecords.{certain_in, alive_calls, filled_alive, all_begun, all_synced}

-- what holds of all elements of two joined lists
pub all_back : {A : Type 0} (P : A → Type 0) (xs ys : List A) → AllByRecursion P (xs ++ ys) → AllByRecursion P ys
all_back P [] ys all = all
all_back P (x ∷ xs) ys all = all_back P xs ys all.1

pub all_front : {A : Type 0} (P : A → Type 0) (xs ys : List A) → AllByRecursion P (xs ++ ys) → AllByRecursion P xs
all_front P [] ys all = tt
all_front P (x ∷ xs) ys all = (all.0, all_front P xs ys all.1)

-- those after a place in a list are after its first element
pub all_later : {A : Type 0} (P : A → Type 0) (x : A) (xs front : List A) (z : A) (back : List A) → x ∷ xs ≡ front ++ z ∷ back → AllByRecursion P xs → AllByRecursion P back
all_later P x xs [] z back e all = let tail : xs ≡ back = cc in subst (AllByRecursion P) tail all
all_later P x xs (w ∷ front) z back e all = let tail : xs ≡ front ++ z ∷ back = cc in (all_back P front (z ∷ back) (subst (AllByRecursion P) tail all)).1

module _ {D : Type 0} {ghosts : Ghosts D} (laws : Laws ghosts) where
  -- a log that was opened on a disk that tells what it is
  pub opened_at : (disk : D) (log : LogWriter D ghosts) (d : Disk) → ghosts.told disk ≡ Some d → HasOpened disk log → IsAt laws [] log
  opened_at disk log d tells opened =
      let same : ghosts.told (disk_of log) ≡ Some d = (opened.looked_at).same ∙ tells in
      let empty : d.content ≡ [] = subst (λ (t : Option Disk). IfSome t (λ x. x.content ≡ [])) tells opened.empty in
      record {
        disk = disk;
        is = record { begun = log; has_begun = opened_begins laws disk log opened; wrote = no_call };
        d = d;
        tells = same;
        bare = subst (λ (t : Option Disk). IfSome t (λ x. x.content ≡ [])) (sym same) empty;
      }

  pub opened_unused : (disk : D) (log : LogWriter D ghosts) (d : Disk) → ghosts.told disk ≡ Some d → IsAllSafe d → HasOpened disk log → IsUnused laws log
  opened_unused disk log d tells safe opened =
      let same : ghosts.told (disk_of log) ≡ Some d = (opened.looked_at).same ∙ tells in
      let empty : d.content ≡ [] = subst (λ (t : Option Disk). IfSome t (λ x. x.content ≡ [])) tells opened.empty in
      let none : (image : List ℕ) → IfSome (ghosts.told (disk_of log)) (λ x. IsImage x image) → image ≡ [] = λ image left. only_image d image safe (subst (λ (t : Option Disk). IfSome t (λ x. IsImage x image)) same left) ∙ empty in
      record {
        at = opened_at disk log d tells opened;
        fresh = record { now = none; still = λ image left. none image (laws.only_now (disk_of log) image left.0 left.1) };
      }

  all_unused : (disks : List D) (logs : List (LogWriter D ghosts)) → AllByRecursion (λ (other : D). (d : Disk) × (ghosts.told other ≡ Some d) × IsAllSafe d) disks → AllZip HasOpened disks logs → AllByRecursion (IsUnused laws) logs
  all_unused [] [] safe opened = tt
  all_unused [] (log ∷ logs) safe opened = absurd opened
  all_unused (disk ∷ disks) [] safe opened = absurd opened
  all_unused (disk ∷ disks) (log ∷ logs) safe opened = (opened_unused disk log safe.0.0 safe.0.1 safe.0.2 opened.0, all_unused disks logs safe.1 opened.1)

  pub all_at : (logs : List (LogWriter D ghosts)) → AllByRecursion (IsUnused laws) logs → AllByRecursion (IsAt laws []) logs
  all_at [] all = tt
  all_at (log ∷ logs) all = (all.0.at, all_at logs all.1)

  -- the first log, and those after it
  pub record IsOpen (log : LogWriter D ghosts) (later : List (LogWriter D ghosts)) : Type 0 where
    pub first : IsAt laws [] log
    pub others : AllByRecursion (IsUnused laws) later

  pub open_from : (disks : List D) (log : LogWriter D ghosts) (later : List (LogWriter D ghosts)) → AreSafeAfterFirst ghosts disks → AllZip HasOpened disks (log ∷ later) → IsOpen log later
  open_from [] log later safe opened = absurd opened
  open_from (disk ∷ disks) log later safe opened = record { first = opened_at disk log safe.0.0 safe.0.1 opened.0; others = all_unused disks later safe.1 opened.1 }

  -- the logs that were full before
  pub chain : (safe : ℕ) (started : List (LogWriter D ghosts)) (parts : List (List GroupCall)) (mids news olds others : List (LogWriter D ghosts)) (logs : List (List (List ℕ))) → AreFilled started parts mids → AllZip WasRead mids news → AllByRecursion (IsAt laws []) started → FromFirst safe olds others logs
      → FromFirst (certain_in parts safe) (mids ++ olds) (news ++ others) (map written_by parts ++ logs)
  unfolding certain_in
  chain safe [] [] [] [] olds others logs are were at on = on
  chain safe [] [] [] (n ∷ news) olds others logs are were at on = absurd were
  chain safe [] [] (m ∷ mids) news olds others logs are were at on = absurd are
  chain safe [] (p ∷ parts) mids news olds others logs are were at on = absurd are
  chain safe (s ∷ started) [] mids news olds others logs are were at on = absurd are
  chain safe (s ∷ started) (p ∷ parts) [] news olds others logs are were at on = absurd are
  chain safe (s ∷ started) (p ∷ parts) (m ∷ mids) [] olds others logs are were at on = absurd were
  chain safe (s ∷ started) (p ∷ parts) (m ∷ mids) (n ∷ news) olds others logs are were at on =
      let was : IsWholeNow m (written_by p) = filled_whole laws s at.0 p m are.0 in
      let full : IsWholeNow n (written_by p) = filled_whole laws s at.0 p n (filled_then_read s p m n are.0 were.0) in
      done (written_by p) was full (λ image left. was image (left_while_read laws m n were.0 image left)) (chain safe started parts mids news olds others logs are.1 were.1 at.1 on)

  module _ (disks : List D) (opened between last : LogSet D ghosts) (before after : List GroupCall) (safe_disks : AreSafeAfterFirst ghosts disks) (has : HasOpenedSet disks opened) (first : IsSplit opened before between) (second : IsSplit between after last) where
    all_open : IsOpen (current_of opened) (later_of opened)
    all_open = open_from disks (current_of opened) (later_of opened) safe_disks (subst (λ (l : List (LogWriter D ghosts)). AllZip HasOpened disks (l ++ current_of opened ∷ later_of opened)) has.none_full has.opened)

    -- all logs were opened, and those that nothing was written to are as they were
    at_all : AllByRecursion (IsAt laws []) (first.started ++ first.last ∷ later_of between)
    unfolding all_open
    at_all = subst (AllByRecursion (IsAt laws [])) first.begun (all_open.first, all_at (later_of opened) all_open.others)

    unused : AllByRecursion (IsUnused laws) (later_of between)
    unused = all_later (IsUnused laws) (current_of opened) (later_of opened) first.started first.last (later_of between) first.begun all_open.others

    pub now_at : IsAt laws first.own (current_of between)
    now_at = is_on laws [] first.own first.last (current_of between) (all_back (IsAt laws []) first.started (first.last ∷ later_of between) at_all).0 first.wrote

    pub held : (safe : ℕ) × HoldsCalls new_log now_at.d first.own safe
    held = holds laws first.own (current_of between) now_at

    unfoldable pub contents : List (List (List ℕ))
    contents = map written_by first.parts ++ logs_from laws first.own second.parts second.own (later_of last)

    -- these are the records that the calls began, in their order
    pub contents_begun : fault_in between ≡ None → records_in contents ≡ begun_by (before ++ after)
    unfolding contents
    contents_begun alive =
        all_begun laws first.parts second.parts first.own second.own (later_of last) before after (filled_alive first.started first.parts first.filled first.are_filled) (filled_alive second.started second.parts second.filled second.are_filled)
        (alive_calls first.last first.own (current_of between) first.wrote (between.alive alive)) (sym first.fault ∙ alive) first.same second.same

    pub certain : ℕ
    certain = certain_in first.parts held.0

    -- those that synced are among them
    pub certain_synced : fault_in between ≡ None → HaveSynced before certain
    unfolding certain
    certain_synced alive =
        all_synced first.parts first.own before held.0 (filled_alive first.started first.parts first.filled first.are_filled) (sym first.fault ∙ alive) first.same held.1.have_synced

    pub leaves_front : LeavesFront between last certain contents
    unfolding contents certain
    leaves_front images left =
        let on = from_current laws first.own held.0 (current_of between) (later_of between) second.started second.parts second.filled second.last second.own (current_of last) (later_of last) second.begun now_at held.1 unused second.are_filled second.wrote in
        let full : full_of between ≡ first.filled = first.full ∙ ap (λ (l : List (LogWriter D ghosts)). l ++ first.filled) (zip_none WasRead (full_of opened) first.kept first.were_read has.none_full) in
        let were_read : AllZip WasRead first.filled second.kept = subst (λ (l : List (LogWriter D ghosts)). AllZip WasRead l second.kept) full second.were_read in
        let all = chain held.0 first.started first.parts first.filled second.kept (current_of between ∷ later_of between) (second.filled ++ current_of last ∷ later_of last) (logs_from laws first.own second.parts second.own (later_of last)) first.are_filled were_read
        (all_front (IsAt laws []) first.started (first.last ∷ later_of between) at_all) (current on) in
        let olds : first.filled ++ (current_of between ∷ later_of between) ≡ logs_of between = ap (λ (l : List (LogWriter D ghosts)). l ++ current_of between ∷ later_of between) (sym full) in
        let news : second.kept ++ (second.filled ++ current_of last ∷ later_of last) ≡ logs_of last =
        sym (append_assoc second.kept second.filled (current_of last ∷ later_of last)) ∙ ap (λ (l : List (LogWriter D ghosts)). l ++ current_of last ∷ later_of last) (sym second.full) in
        front_first certain (logs_of between) (logs_of last) contents images (subst (λ (z : List (LogWriter D ghosts) × List (LogWriter D ghosts)). FromFirst (certain_in first.parts held.0) z.0 z.1 (map written_by first.parts ++ logs_from laws first.own second.parts second.own (later_of last))) (λ i. (olds i, news i)) all) left
