-- What images of a set's logs hold of the calls that have synced, at any moment since the set was opened.
use Rattle.std.proofs.Common.{◌≡◌, ℕ, ◌+◌, ◌≤◌, List, [], ◌∷◌, ◌++◌, length, take, map, Option, Some, IfSome, refl, ◌∙◌, ap, subst, arith, length-append}
use Rattle.std.proofs.lemmas.Slice.Zip.{AllZip-long}
use Rattle.std.specs.List.{AllByRecursion, AllZip}
use Rattle.base_devices.specs.Disk.{Disk, IsImage, IsAllSafe, LeavesOnly}
use Rattle.base_devices.specs.declared.disk.Disk.{Ghosts}
use Rattle.model_base.specs.Log.{new_log}
use Rattle.log_laws.specs.Fronts.{plain_text}
use Rattle.log_writer.specs.declared.writer.LogWriter.{LogWriter}
use Rattle.log_writer.specs.declared.set.LogSet.{LogSet}
use Rattle.log_writer.specs.Words.{disk_of}
use Rattle.log_writer.specs.Crashes.{KeepsWhatWasSafe, MayBeLeft}
use Rattle.log_writer.specs.Opening.{HasOpened}
use Rattle.log_writer.specs.Adding.{GroupCall}
use Rattle.log_writer.specs.Written.{Wrote, written_by, HoldsSynced}
use Rattle.log_writer.specs.Sets.{current_of, later_of}
use Rattle.log_writer.specs.SetSplits.{IsFilled, AreFilled, IsSplit}
use Rattle.log_writer.specs.SetCrashes.{IsLeftNow, AreLeft, here, later, HasOpenedSet, AreSafeAfterFirst}
use Rattle.log_writer.specs.SetWritten.{HoldEach, disks_of}
use Rattle.log_writer.proofs.Beginning.{opened_begins}
use Rattle.log_writer.proofs.Held.{held_so, holds_synced}
use Rattle.log_writer.proofs.Keeping.{after_front, image_keeps, left_safe, only_image}
use Rattle.log_writer.proofs.Putting.{leaves_more, leaves_time}
use Rattle.log_writer.proofs.Surviving.{Laws}
use Rattle.log_writer.specs.ReadLaws.{not_read}
use Rattle.log_writer.proofs.SetStates.{IsAt, is_on, holds, filled_whole}
use Rattle.log_writer.proofs.SetCrashes.{opened_at}
use Rattle.log_writer.proofs.SetContents.{logs_opened, full_is}

-- an image with no bytes goes past nothing
holds_nothing : (reach : ℕ) (calls : List GroupCall) (image : List ℕ) → image ≡ [] → HoldsSynced new_log reach calls image
holds_nothing reach calls image none = λ k c at worked asked longer past. absurd (omega (arith, longer, ap length none))

hold_nothing : (reached : List ℕ) (parts : List (List GroupCall)) (images : List (List ℕ)) → AllByRecursion (λ (image : List ℕ). image ≡ []) images → length parts ≤ length reached → length parts ≤ length images → HoldEach reached parts images
hold_nothing reached [] images none enough also = tt
hold_nothing [] (p ∷ parts) images none enough also = absurd (omega (arith, enough))
hold_nothing (r ∷ reached) (p ∷ parts) [] none enough also = absurd (omega (arith, also))
hold_nothing (r ∷ reached) (p ∷ parts) (i ∷ images) none enough also = (holds_nothing r p i none.0, hold_nothing reached parts images none.1 (omega (arith, enough)) (omega (arith, also)))

-- the whole text holds all
holds_whole : (reach : ℕ) (calls : List GroupCall) (image : List ℕ) → image ≡ plain_text (written_by calls) → HoldsSynced new_log reach calls image
holds_whole reach calls image whole = λ k c at worked asked longer past. ap (take (length (plain_text (take (k + 1) (written_by calls))))) whole ∙ after_front new_log (written_by calls) (k + 1)

module _ {D : Type 0} {ghosts : Ghosts D} (laws : Laws ghosts) where
  parts_long : (olds : List (LogWriter D ghosts)) (parts : List (List GroupCall)) (news : List (LogWriter D ghosts)) → AreFilled olds parts news → length olds ≡ length parts
  parts_long [] [] [] are = refl
  parts_long [] [] (n ∷ news) are = absurd are
  parts_long [] (p ∷ parts) news are = absurd are
  parts_long (o ∷ olds) [] news are = absurd are
  parts_long (o ∷ olds) (p ∷ parts) [] are = absurd are
  parts_long (o ∷ olds) (p ∷ parts) (n ∷ news) are = let rest = parts_long olds parts news are.1 in omega (arith, rest)

  -- what a crash leaves of empty disks that are safe
  none_now : (disks : List D) (logs : List (LogWriter D ghosts)) (images : List (List ℕ)) → AllByRecursion (λ (other : D). (d : Disk) × (ghosts.told other ≡ Some d) × IsAllSafe d) disks → AllZip HasOpened disks logs → AllZip (IsLeftNow ghosts) disks images
      → AllByRecursion (λ (image : List ℕ). image ≡ []) images
  none_now [] logs [] safe opened nows = tt
  none_now [] logs (i ∷ images) safe opened nows = absurd nows
  none_now (disk ∷ disks) logs [] safe opened nows = absurd nows
  none_now (disk ∷ disks) [] (i ∷ images) safe opened nows = absurd opened
  none_now (disk ∷ disks) (log ∷ logs) (i ∷ images) safe opened nows =
      let d : Disk = safe.0.0 in
      let left = subst (λ (t : Option Disk). IfSome t (λ x. IsImage x i)) safe.0.1 nows.0 in
      let empty : d.content ≡ [] = subst (λ (t : Option Disk). IfSome t (λ x. x.content ≡ [])) safe.0.1 opened.0.empty in
      (only_image d i safe.0.2 left ∙ empty, none_now disks logs images safe.1 opened.1 nows.1)

  safe_after : (disks : List D) → AllByRecursion (λ (other : D). (d : Disk) × (ghosts.told other ≡ Some d) × IsAllSafe d) disks → AreSafeAfterFirst ghosts disks
  safe_after [] safe = tt
  safe_after (disk ∷ disks) safe = ((safe.0.0, safe.0.1), safe.1)

  -- One log, which was opened on a disk, and written by calls.
  module _ (disk : D) (log : LogWriter D ghosts) (d : Disk) (tells : ghosts.told disk ≡ Some d) (opened : HasOpened disk log) (reach : ℕ) (reach_is : d.reach ≡ reach) (calls : List GroupCall) where
    module _ (new : LogWriter D ghosts) (wrote : Wrote log calls new) where
      leaves : LeavesOnly ghosts.moment ghosts.from ghosts.since disk (disk_of new) (HoldsSynced new_log reach calls)
      leaves =
          subst (λ (r : ℕ). LeavesOnly ghosts.moment ghosts.from ghosts.since disk (disk_of new) (HoldsSynced new_log r calls)) reach_is
          (subst (λ (t : Option Disk). IfSome t (λ x. LeavesOnly ghosts.moment ghosts.from ghosts.since disk (disk_of new) (HoldsSynced new_log x.reach calls))) tells
          (held_so laws new_log disk calls new (record { begun = log; has_begun = opened_begins laws disk log opened; wrote = wrote })))

      at : IsAt laws calls new
      at = is_on laws [] calls log new (opened_at laws disk log d tells opened) wrote

      kept_holds : (image : List ℕ) → KeepsWhatWasSafe (ghosts.told (disk_of new)) image → HoldsSynced new_log reach calls image
      kept_holds image keeps =
          let h = holds laws calls new at in
          holds_synced new_log reach at.d calls h.0 image h.1 (subst (λ (t : Option Disk). KeepsWhatWasSafe t image) at.tells keeps)

      held_now : (image : List ℕ) → IsLeftNow ghosts (disk_of new) image → HoldsSynced new_log reach calls image
      held_now image left = kept_holds image (image_keeps (ghosts.told (disk_of new)) image left)

    filled_now : (new : LogWriter D ghosts) → IsFilled log calls new → (image : List ℕ) → IsLeftNow ghosts (disk_of new) image → HoldsSynced new_log reach calls image
    filled_now new is image left = holds_whole reach calls image (filled_whole laws log (opened_at laws disk log d tells opened) calls new is image left)

    module _ (new : LogWriter D ghosts) (is : IsFilled log calls new) where
      synced_filled : IsFilled log calls is.synced
      synced_filled = record { written = is.written; wrote = is.wrote; alive = is.alive; synced = is.synced; syncs = is.syncs; was_read = not_read is.synced }

      synced_leaves : LeavesOnly ghosts.moment ghosts.from ghosts.since disk (disk_of is.synced) (HoldsSynced new_log reach calls)
      synced_leaves =
          let P : List ℕ → Type 0 = HoldsSynced new_log reach calls in
          let Q : List ℕ → Type 0 = MayBeLeft (ghosts.told (disk_of is.written)) 0 in
          leaves_more ghosts.moment ghosts.from ghosts.since P Q disk (disk_of is.written) (disk_of is.synced) (leaves is.written is.wrote) is.syncs.put.crash
          (λ image left. kept_holds is.written is.wrote image (left_safe (ghosts.told (disk_of is.written)) 0 image left))

      filled_leaves : LeavesOnly ghosts.moment ghosts.from ghosts.since disk (disk_of new) (HoldsSynced new_log reach calls)
      filled_leaves =
          let P : List ℕ → Type 0 = HoldsSynced new_log reach calls in
          let Q : List ℕ → Type 0 = IsLeftNow ghosts (disk_of is.synced) in
          let r = is.was_read.disk in
          leaves_more ghosts.moment ghosts.from ghosts.since P Q disk (disk_of is.synced) (disk_of new) synced_leaves
          (leaves_time ghosts (disk_of is.synced) (disk_of new) Q (laws.only_now (disk_of is.synced)) r.time (λ image left. left) (λ image left. subst (λ (t : Option Disk). IfSome t (λ x. IsImage x image)) r.same left))
          (filled_now is.synced synced_filled)

  abbrev HasReach : D → ℕ → Type 0
  HasReach disk reach = IfSome (ghosts.told disk) (λ d. d.reach ≡ reach)

  held_each : (disks : List D) (reached : List ℕ) (started : List (LogWriter D ghosts)) (parts : List (List GroupCall)) (filled : List (LogWriter D ghosts)) (last : LogWriter D ghosts) (own : List GroupCall) (log : LogWriter D ghosts) (others : List (LogWriter D ghosts)) (images : List (List ℕ))
      → AreSafeAfterFirst ghosts disks → AllZip HasOpened disks (started ++ last ∷ others) → AreFilled started parts filled → Wrote last own log → AllZip HasReach disks reached
      → AreLeft ghosts disks (map (λ (l : LogWriter D ghosts). disk_of l) (filled ++ log ∷ others)) images → HoldEach reached (parts ++ own ∷ []) images
  held_each [] reached started parts filled last own log others images safe opened are wrote reach left = elim left [ ]
  held_each (disk ∷ disks) [] started parts filled last own log others images safe opened are wrote reach left = absurd reach
  held_each (disk ∷ disks) (r ∷ reached) [] [] [] last own log others images safe opened are wrote reach (here {image = i} {images = more} between nows) =
      let d : Disk = safe.0.0 in
      let reach_is : d.reach ≡ r = subst (λ (t : Option Disk). IfSome t (λ x. x.reach ≡ r)) safe.0.1 reach.0 in
      ((leaves disk last d safe.0.1 opened.0 r reach_is own log wrote).each i between.0 between.1, tt)
  held_each (disk ∷ disks) (r ∷ reached) [] [] [] last own log others images safe opened are wrote reach (later {image = i} {images = more} now left) =
      let d : Disk = safe.0.0 in
      let reach_is : d.reach ≡ r = subst (λ (t : Option Disk). IfSome t (λ x. x.reach ≡ r)) safe.0.1 reach.0 in
      (held_now disk last d safe.0.1 opened.0 r reach_is own log wrote i now, tt)
  held_each (disk ∷ disks) (r ∷ reached) [] [] (n ∷ filled) last own log others images safe opened are wrote reach left = absurd are
  held_each (disk ∷ disks) (r ∷ reached) [] (p ∷ parts) filled last own log others images safe opened are wrote reach left = absurd are
  held_each (disk ∷ disks) (r ∷ reached) (s ∷ started) [] filled last own log others images safe opened are wrote reach left = absurd are
  held_each (disk ∷ disks) (r ∷ reached) (s ∷ started) (p ∷ parts) [] last own log others images safe opened are wrote reach left = absurd are
  held_each (disk ∷ disks) (r ∷ reached) (s ∷ started) (p ∷ parts) (n ∷ filled) last own log others images safe opened are wrote reach (here {image = i} {images = more} between nows) =
      let d : Disk = safe.0.0 in
      let reach_is : d.reach ≡ r = subst (λ (t : Option Disk). IfSome t (λ x. x.reach ≡ r)) safe.0.1 reach.0 in
      let logs : List (LogWriter D ghosts) = started ++ last ∷ others in
      let many : length parts + 1 ≤ length disks = omega (arith, AllZip-long HasOpened disks logs opened.1, length-append started (last ∷ others), parts_long started parts filled are.1) in
      let all : length (parts ++ own ∷ []) ≡ length parts + 1 = omega (arith, length-append parts (own ∷ [])) in (
        (filled_leaves disk s d safe.0.1 opened.0 r reach_is p n are.0).each i between.0 between.1,
        hold_nothing reached (parts ++ own ∷ []) more (none_now disks logs more safe.1 opened.1 nows) (omega (arith, many, all, AllZip-long HasReach disks reached reach.1)) (omega (arith, many, all, AllZip-long (IsLeftNow ghosts) disks more nows)),
      )
  held_each (disk ∷ disks) (r ∷ reached) (s ∷ started) (p ∷ parts) (n ∷ filled) last own log others images safe opened are wrote reach (later {image = i} {images = more} now left) =
      let d : Disk = safe.0.0 in
      let reach_is : d.reach ≡ r = subst (λ (t : Option Disk). IfSome t (λ x. x.reach ≡ r)) safe.0.1 reach.0 in (
        filled_now disk s d safe.0.1 opened.0 r reach_is p n are.0 i now,
        held_each disks reached started parts filled last own log others more (safe_after disks safe.1) opened.1 are.1 wrote reach.1 left,
      )

  pub held_set : (disks : List D) (opened last : LogSet D ghosts) (calls : List GroupCall) (reached : List ℕ) → AreSafeAfterFirst ghosts disks → HasOpenedSet disks opened → (s : IsSplit opened calls last) → AllZip HasReach disks reached
      → (images : List (List ℕ)) → AreLeft ghosts disks (disks_of last) images → HoldEach reached (s.parts ++ s.own ∷ []) images
  held_set disks opened last calls reached safe has s reach images left =
      held_each disks reached s.started s.parts s.filled s.last s.own (current_of last) (later_of last) images safe
      (subst (λ (l : List (LogWriter D ghosts)). AllZip HasOpened disks l) s.begun (logs_opened laws disks opened last calls has s)) s.are_filled s.wrote reach
      (subst (λ (l : List (LogWriter D ghosts)). AreLeft ghosts disks (map (λ (x : LogWriter D ghosts). disk_of x) (l ++ current_of last ∷ later_of last)) images) (full_is laws disks opened last calls has s) left)
