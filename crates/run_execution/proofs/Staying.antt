-- What was safe of a log that goes on stays, as far as the log keeps it.
use Rattle.std.proofs.Common.{◌≡◌, inl, inr, ⊎_elim, ℕ, zero, suc, ◌≤◌, min, List, [], length, take, IfSome, Option, Some, None, refl, ap, sym, ◌∙◌, subst, arith}
use Rattle.std.proofs.Math.Seq.{take-take}
use Rattle.base_devices.specs.Disk.{Disk, Told, LeavesOnly}
use Rattle.base_devices.specs.declared.disk.Disk.{Ghosts}
use Rattle.model_base.specs.Log.{Beginning, text_after}
use Rattle.log_laws.specs.Prefixes.{BeginsWith}
use Rattle.log_writer.specs.declared.writer.LogWriter.{LogWriter}
use Rattle.log_writer.specs.Words.{disk_of}
use Rattle.log_writer.specs.Opening.{MayBeLeftOf}
use Rattle.log_writer.specs.Written.{HoldsCalls, written_by}
use Rattle.log_writer.proofs.Keeping.{after_none}
use Rattle.model_runs.specs.Crashes.{IsImageSince}
use Rattle.run_outcome.specs.declared.log_start.LogStart.{LogStart}
use Rattle.run_outcome.specs.declared.log_start.LogStart.TheVariants.{New, Over, Behind}
use Rattle.run_outcome.specs.Running.{Before, IfGoesOn, HasFirst, SafeStays, beginning_of}
use Rattle.run_execution.specs.Ends.{HasOpenedAs}

-- an image that begins with what is kept has the first bytes of that
has_first : (kept content image : List ℕ) (sure : ℕ) → sure ≤ length kept → take (length kept) content ≡ kept → BeginsWith kept image → HasFirst sure content image
has_first kept content image sure within same begins =
    let long : length kept ≤ length image = begins.0 in
    (omega (arith, within, long), sym (take-take sure (length kept) image within) ∙ (ap (take sure) (begins.1 ∙ sym same) ∙ take-take sure (length kept) content within))

-- no record is there before the first call
none_taken : (b : Beginning) (safe : ℕ) → text_after b (take safe (written_by [])) ≡ b.kept
none_taken b zero = after_none b
none_taken b (suc safe) = after_none b

-- where nothing is said of a log that begins anew, and this of one that goes on
if_on : (start : LogStart) (told : Option Disk) (P : Disk → Type 0) → ((number : Option ℕ) → start ≡ Behind number → IfSome told P) → IfSome told (λ d. IfGoesOn start (P d))
if_on New None P on = tt
if_on New (Some d) P on = tt
if_on (Over number) None P on = tt
if_on (Over number) (Some d) P on = tt
if_on (Behind number) None P on = tt
if_on (Behind number) (Some d) P on = on number refl

-- What the laws say of the log as it was opened: how much of it is safe, and, below, that this stays in all calls.
abbrev IsHeld : Beginning → Option Disk → Type 0
IsHeld b told = IfSome told (λ d. (safe : ℕ) × HoldsCalls b d [] safe)

module _ {D : Type 0} (ghosts : Ghosts D) where
  abbrev Begins : Beginning → Option Disk → D → D → Type 0
  Begins b told old new = IfSome told (λ d. (safe : ℕ) → HoldsCalls b d [] safe → LeavesOnly ghosts.moment ghosts.from ghosts.since old new (BeginsWith (text_after b (take safe (written_by [])))))

  -- Until the log was opened an image has what was sure to stay, and from then on it begins with all that is kept.
  there : (b : Beginning) (disk between ended : D) (a c : Option Disk) (R : Disk → Disk → Type 0) → Told a c R → IfSome a (λ d. take (length b.kept) d.content ≡ b.kept) → LeavesOnly ghosts.moment ghosts.from ghosts.since disk between (λ image. IfSome a (λ d. HasFirst (min d.synced (length b.kept)) d.content image))
      → IsHeld b c → Begins b c between ended → IfSome a (λ d. (image : List ℕ) → IsImageSince ghosts.moment ghosts.from ghosts.since disk ended image → HasFirst (min d.synced (length b.kept)) d.content image)
  there b disk between ended None c R told same crash holds begins = tt
  there b disk between ended (Some d) None R told same crash holds begins = absurd told
  there b disk between ended (Some d) (Some e) R told same crash holds begins = λ image left.
      let only = begins holds.0 holds.1 in
      let known = left.0 in
      let forgets = only.forgets in
      let within : min d.synced (length b.kept) ≤ length b.kept = omega arith in
      ⊎_elim (λ before. crash.each image (omega (arith, known, forgets)) before)
      (λ starts. has_first b.kept d.content image (min d.synced (length b.kept)) within same (subst (λ (t : List ℕ). BeginsWith t image) (none_taken b holds.0) starts))
      (only.before (ghosts.moment disk) image known crash.later left.1)

  -- what a crash leaves in the opening has the bytes that are sure to stay
  first_left : (disk between : D) (told : Option Disk) (kept : ℕ) → LeavesOnly ghosts.moment ghosts.from ghosts.since disk between (MayBeLeftOf told kept) → LeavesOnly ghosts.moment ghosts.from ghosts.since disk between (λ image. IfSome told (λ d. HasFirst (min d.synced kept) d.content image))
  first_left disk between None kept crash = crash
  first_left disk between (Some d) kept crash = record {
    later = crash.later;
    forgets = crash.forgets;
    each = λ image known left. let is = crash.each image known left in (is.no_shorter, is.synced);
    before = λ t image known within left. ⊎_elim (λ was. inl was) (λ is. inr (is.no_shorter, is.synced)) (crash.before t image known within left);
  }

  pub stays_as : (start : LogStart) (before : Before) (disk : D) (opened log : LogWriter D ghosts) → HasOpenedAs start before disk opened → IsHeld (beginning_of start before) (ghosts.told (disk_of opened)) → Begins (beginning_of start before) (ghosts.told (disk_of opened)) (disk_of opened) (disk_of log)
      → IfSome (ghosts.told disk) (λ d. IfGoesOn start (SafeStays before d (IsImageSince ghosts.moment ghosts.from ghosts.since disk (disk_of log))))
  stays_as start before disk opened log has_opened holds begins = if_on start (ghosts.told disk) _ (λ number is. goes_on number is)
    where
      goes_on : (number : Option ℕ) → start ≡ Behind number → IfSome (ghosts.told disk) (λ d. SafeStays before d (IsImageSince ghosts.moment ghosts.from ghosts.since disk (disk_of log)))
      goes_on number is =
          let resumed = subst (λ (s : LogStart). HasOpenedAs s before disk opened) is has_opened in
          let b = beginning_of start before in
          there b disk (disk_of opened) (disk_of log) (ghosts.told disk) (ghosts.told (disk_of opened)) _ (resumed.0).told resumed.1 (first_left disk (disk_of opened) (ghosts.told disk) (length before.kept) (resumed.0).crash) holds begins
