-- What a crash leaves where nothing was run.
use Rattle.std.proofs.Common.{◌≡◌, inl, ℕ, zero, suc, ◌<◌, List, [], ◌∷◌, length, take, Option, IfSome, refl, subst, arith}
use Rattle.std.specs.List.{AllZip}
use Rattle.base_devices.specs.Disk.{Disk, IsImage, IsOnlyNow, TimePasses}
use Rattle.base_devices.specs.declared.disk.Disk.{Ghosts}
use Rattle.model_base.specs.declared.options.Options.{Options}
use Rattle.base_devices.specs.OnlyReads.{OnlyReads}
use Rattle.log_recovery.specs.RecoveringLogs.{CountNone, stops}
use Rattle.log_recovery.specs.declared.modes.Mode.{Mode}
use Rattle.log_writer.specs.Opening.{IsLookedAt, LeavesAsBefore}
use Rattle.log_writer.proofs.Beginning.{leaves_before}
use Rattle.log_writer.proofs.Putting.{leaves_time}
use Rattle.run_outcome.specs.declared.log_start.LogStart.{LogStart}
use Rattle.run_outcome.specs.declared.log_start.LogStart.TheVariants.{New, Over, Behind}
use Rattle.run_execution.specs.Ends.{LeavesAlone}
use Rattle.run_execution.specs.SetEnds.{AreLeftAlone}
use Rattle.program_call.specs.OneLog.{IsLeftLog, IsOnlyRead}
use Rattle.program_call.specs.SeveralLogs.{AreOnlyRead}

-- what it might have left before is let in, whichever way the log should be opened
pub left_alone : {D : Type 0} (ghosts : Ghosts D) (start : LogStart) (mode : Mode) (old new : D) → LeavesAsBefore ghosts old new → LeavesAlone ghosts start mode old new
left_alone ghosts New mode old new leaves = leaves
left_alone ghosts (Over number) mode old new leaves = leaves
left_alone ghosts (Behind number) mode old new leaves = inl leaves

-- of a disk that was only read it leaves what it might have left before
pub leaves_read : {D : Type 0} (ghosts : Ghosts D) (old new : D) → IsOnlyNow (ghosts.told old) (ghosts.from old) (ghosts.moment old) (ghosts.since old) → ghosts.told new ≡ ghosts.told old
    → TimePasses ghosts.told ghosts.moment ghosts.from ghosts.since old new → LeavesAsBefore ghosts old new
leaves_read ghosts old new only same time =
    leaves_time ghosts old new (λ image. IfSome (ghosts.told old) (λ d. IsImage d image)) only time (λ image is. is)
    (λ image is. subst (λ (told : Option Disk). IfSome told (λ d. IsImage d image)) same is)

-- the laws of all disks
abbrev pub OnlyNow : {D : Type 0} → Ghosts D → Type 0
OnlyNow {D} ghosts = (disk : D) → IsOnlyNow (ghosts.told disk) (ghosts.from disk) (ghosts.moment disk) (ghosts.since disk)

-- a disk that wasn't touched was left alone
pub untouched_alone : {D : Type 0} (ghosts : Ghosts D) → OnlyNow ghosts → (options : Options) (start : LogStart) (mode : Mode) (disk : D) → IsLeftLog ghosts options start mode disk disk
untouched_alone ghosts only options start mode disk =
    record { alone = inl refl; crash = left_alone ghosts start mode disk disk (leaves_before ghosts disk (only disk)) }

-- and so were several disks
pub all_untouched : {D : Type 0} (ghosts : Ghosts D) → OnlyNow ghosts → (disks : List D) → AreLeftAlone ghosts disks disks
all_untouched ghosts only [] = tt
all_untouched ghosts only (disk ∷ disks) =
    let passed : TimePasses ghosts.told ghosts.moment ghosts.from ghosts.since disk disk = record {
      later = omega arith;
      forgets = omega arith;
      nothing_else = λ t image known le s. inl s;
      keeps = λ t image known le s. s;
    } in
    let looked_at : IsLookedAt ghosts disk disk = record { same = refl; later = omega arith; time = passed } in
    ((looked_at, leaves_before ghosts disk (only disk)), all_untouched ghosts only disks)

-- disks that were only read tell what they told before, and a crash leaves no less
pub each_read : {D : Type 0} (ghosts : Ghosts D) → OnlyNow ghosts → (olds news : List D) → AllZip (OnlyReads ghosts) olds news → AllZip (IsOnlyRead ghosts) olds news
each_read ghosts only [] [] read = tt
each_read ghosts only [] (new ∷ news) read = absurd read
each_read ghosts only (old ∷ olds) [] read = absurd read
each_read ghosts only (old ∷ olds) (new ∷ news) read =
    ((read.0.same, leaves_read ghosts old new (only old) read.0.same read.0.time), each_read ghosts only olds news read.1)

-- so do those that weren't touched
each_untouched : {D : Type 0} (ghosts : Ghosts D) → OnlyNow ghosts → (disks : List D) → AllZip (IsOnlyRead ghosts) disks disks
each_untouched ghosts only [] = tt
each_untouched ghosts only (disk ∷ disks) = ((refl, leaves_before ghosts disk (only disk)), each_untouched ghosts only disks)

pub all_unread : {D : Type 0} (ghosts : Ghosts D) → OnlyNow ghosts → (disks : List D) (used : ℕ) → 0 < length disks → 0 < used → AreOnlyRead ghosts (take used disks) (take used disks)
all_unread ghosts only [] used some more = absurd (omega (arith, some))
all_unread ghosts only (disk ∷ disks) zero some more = absurd (omega (arith, more))
all_unread ghosts only (disk ∷ disks) (suc used) some more = record { each = each_untouched ghosts only (disk ∷ take used disks); in_turn = λ files hold. stops }

-- they have counted no fault
pub none_counted : {D : Type 0} (faults : D → ℕ) (disks : List D) → CountNone faults disks disks
none_counted faults [] = tt
none_counted faults (disk ∷ disks) = (refl, none_counted faults disks)
