use Rattle.std.proofs.Common.{◌∷◌, ℕ, Err, refl, ap}
use Rattle.base_devices.specs.OnlyReads.{OnlyReads, content_of, more_read, none_read}
use Rattle.log_recovery.specs.declared.modes.Mode.TheVariants.{Point}
use Rattle.log_recovery.specs.RecoveringLogs.{IsErrorFrom, none, stops}
use Rattle.log_recovery.proofs.Faults.{handed_on, error_again, error_in_first, error_later, same_counts}
use Rattle.log_recovery.proofs.LogByLog.{all_asked}
use Rattle.log_recovery.proofs.Telling.{still_kept}
use Rattle.log_recovery.proofs.Unread.{all_kept}
use Rattle.log_recovery.proofs.many.keep_whole.Goals as goal

-- The log isn't read to its end.

pub returns-in_err-end-clause-asked : goal.returns-in_err-end-clause-asked
returns-in_err-end-clause-asked g c = λ files holds. none

pub returns-in_err-end-clause-in_turn : goal.returns-in_err-end-clause-in_turn
returns-in_err-end-clause-in_turn g c = λ files holds. stops

pub returns-in_err-end-clause-error : goal.returns-in_err-end-clause-error
returns-in_err-end-clause-error g c =
    let disks = c.args.disk.now ∷ c.args.rest.now in
    handed_on c.from_residual.result c.in_err-end.field-0.0 (IsErrorFrom Point g.D.Disk.faults disks (c.keep_one.new.disk ∷ c.args.rest.now)) c.from_residual.ensures.1
    (error_in_first g.D.Disk.faults disks c.args.disk.now c.keep_one.new.disk c.args.rest.now refl Point c.in_err-end.field-0.0 c.in_err-end.ensures.error)

pub returns-in_err-end-clause-disks : goal.returns-in_err-end-clause-disks
returns-in_err-end-clause-disks g c = (c.in_err-end.ensures.disk, all_kept (OnlyReads g.D.Disk) (none_read g.D.Disk) c.args.rest.now)

-- Recovery ends in it, or goes on in a log that is known to have bytes.

pub returns-then-not-goes_on-clause-asked : goal.returns-then-not-goes_on-clause-asked
returns-then-not-goes_on-clause-asked g c = λ files holds. none

pub returns-then-not-goes_on-clause-in_turn : goal.returns-then-not-goes_on-clause-in_turn
returns-then-not-goes_on-clause-in_turn g c = λ files holds. stops

pub returns-then-not-goes_on-clause-worked : goal.returns-then-not-goes_on-clause-worked
returns-then-not-goes_on-clause-worked g c = (c.in_ok-end.ensures.worked, same_counts g.D.Disk.faults c.args.rest.now)

pub returns-then-not-goes_on-clause-disks : goal.returns-then-not-goes_on-clause-disks
returns-then-not-goes_on-clause-disks g c = (c.in_ok-end.ensures.disk, all_kept (OnlyReads g.D.Disk) (none_read g.D.Disk) c.args.rest.now)

pub returns-then-before-gt0-clause-asked : goal.returns-then-before-gt0-clause-asked
returns-then-before-gt0-clause-asked g c = λ files holds. none

pub returns-then-before-gt0-clause-in_turn : goal.returns-then-before-gt0-clause-in_turn
returns-then-before-gt0-clause-in_turn g c = λ files holds. stops

pub returns-then-before-gt0-clause-worked : goal.returns-then-before-gt0-clause-worked
returns-then-before-gt0-clause-worked g c = (c.in_ok-end.ensures.worked, same_counts g.D.Disk.faults c.args.rest.now)

pub returns-then-before-gt0-clause-disks : goal.returns-then-before-gt0-clause-disks
returns-then-before-gt0-clause-disks g c = (c.in_ok-end.ensures.disk, all_kept (OnlyReads g.D.Disk) (none_read g.D.Disk) c.args.rest.now)

-- It ended clean, and the others were asked.

pub returns-in_err-begun-clause-in_turn : goal.returns-in_err-begun-clause-in_turn
returns-in_err-begun-clause-in_turn g c =
    all_asked g.D.Disk (c.args.disk.now ∷ c.args.rest.now) c.args.disk.now c.args.rest.now refl 0 c.args.kept.now c.keep_one.new.kept c.in_ok-end.end c.in_ok-end.ensures.recovered (c.goes_on.ensures.clean c.if-not-goes_on.false) c.keep_one.new.disk c.first_begun.new.disks c.in_err-begun.ensures.asked

pub returns-in_err-begun-clause-error : goal.returns-in_err-begun-clause-error
returns-in_err-begun-clause-error g c =
    let disks = c.args.disk.now ∷ c.args.rest.now in
    let faults = g.D.Disk.faults in
    handed_on c.from_residual-in_err-begun.result c.in_err-begun.field-0.0 (IsErrorFrom Point faults disks (c.keep_one.new.disk ∷ c.first_begun.new.disks)) c.from_residual-in_err-begun.ensures.1
    (error_later faults disks c.args.disk.now c.keep_one.new.disk c.args.rest.now refl {T = ℕ} Point c.first_begun.new.disks (Err c.in_err-begun.field-0.0) c.in_ok-end.ensures.worked c.in_err-begun.ensures.error)

pub returns-in_default-clause-in_turn : goal.returns-in_default-clause-in_turn
returns-in_default-clause-in_turn g c =
    all_asked g.D.Disk (c.args.disk.now ∷ c.args.rest.now) c.args.disk.now c.args.rest.now refl 0 c.args.kept.now c.keep_one.new.kept c.in_ok-end.end c.in_ok-end.ensures.recovered (c.goes_on.ensures.clean c.if-not-goes_on.false) c.keep_one.new.disk c.first_begun.new.disks c.in_ok-begun.ensures.asked

-- The log was read on.

pub returns-in_err-later-clause-in_turn : goal.returns-in_err-later-clause-in_turn
returns-in_err-later-clause-in_turn g c =
    all_asked g.D.Disk (c.args.disk.now ∷ c.args.rest.now) c.args.disk.now c.args.rest.now refl 0 c.args.kept.now c.keep_one.new.kept c.in_ok-end.end c.in_ok-end.ensures.recovered (c.goes_on.ensures.clean c.if-not-goes_on.false) c.read_on.new.disk c.first_begun.new.disks c.in_ok-begun.ensures.asked

pub returns-in_err-later-clause-error : goal.returns-in_err-later-clause-error
returns-in_err-later-clause-error g c =
    let faults = g.D.Disk.faults in
    let news = c.read_on.new.disk ∷ c.first_begun.new.disks in
    handed_on c.from_residual-in_err-later.result c.in_err-later.field-0.0 (IsErrorFrom Point faults (c.args.disk.now ∷ c.args.rest.now) news) c.from_residual-in_err-later.ensures.1
    (error_again faults c.args.disk.now c.keep_one.new.disk c.read_on.new.disk c.args.rest.now c.first_begun.new.disks c.in_ok-end.ensures.worked c.in_ok-begun.ensures.worked c.in_err-later.field-0.0 c.in_err-later.ensures.error)

pub returns-in_err-later-clause-disks : goal.returns-in_err-later-clause-disks
returns-in_err-later-clause-disks g c = (more_read g.D.Disk _ _ _ c.in_ok-end.ensures.disk c.in_err-later.ensures.disk, c.in_ok-begun.ensures.disks)

pub returns-in-Clean-clause-recovered : goal.returns-in-Clean-clause-recovered
returns-in-Clean-clause-recovered g c =
    still_kept (content_of (g.D.Disk.told c.args.disk.now)) (content_of (g.D.Disk.told c.keep_one.new.disk)) c.args.kept.now c.keep_one.new.kept c.read_on.new.kept c.in_ok-end.end c.in_ok-later.later (ap content_of c.in_ok-end.ensures.disk.same) c.in_ok-end.ensures.recovered c.in_ok-later.ensures.recovered

pub returns-in-Clean-clause-in_turn : goal.returns-in-Clean-clause-in_turn
returns-in-Clean-clause-in_turn g c =
    all_asked g.D.Disk (c.args.disk.now ∷ c.args.rest.now) c.args.disk.now c.args.rest.now refl 0 c.args.kept.now c.keep_one.new.kept c.in_ok-end.end c.in_ok-end.ensures.recovered (c.goes_on.ensures.clean c.if-not-goes_on.false) c.read_on.new.disk c.first_begun.new.disks c.in_ok-begun.ensures.asked

pub returns-in-Clean-clause-disks : goal.returns-in-Clean-clause-disks
returns-in-Clean-clause-disks g c = (more_read g.D.Disk _ _ _ c.in_ok-end.ensures.disk c.in_ok-later.ensures.disk, c.in_ok-begun.ensures.disks)

pub returns-in_default-why-clause-recovered : goal.returns-in_default-why-clause-recovered
returns-in_default-why-clause-recovered g c =
    still_kept (content_of (g.D.Disk.told c.args.disk.now)) (content_of (g.D.Disk.told c.keep_one.new.disk)) c.args.kept.now c.keep_one.new.kept c.read_on.new.kept c.in_ok-end.end c.in_ok-later.later (ap content_of c.in_ok-end.ensures.disk.same) c.in_ok-end.ensures.recovered c.in_ok-later.ensures.recovered

pub returns-in_default-why-clause-in_turn : goal.returns-in_default-why-clause-in_turn
returns-in_default-why-clause-in_turn g c =
    all_asked g.D.Disk (c.args.disk.now ∷ c.args.rest.now) c.args.disk.now c.args.rest.now refl 0 c.args.kept.now c.keep_one.new.kept c.in_ok-end.end c.in_ok-end.ensures.recovered (c.goes_on.ensures.clean c.if-not-goes_on.false) c.read_on.new.disk c.first_begun.new.disks c.in_ok-begun.ensures.asked

pub returns-in_default-why-clause-disks : goal.returns-in_default-why-clause-disks
returns-in_default-why-clause-disks g c = (more_read g.D.Disk _ _ _ c.in_ok-end.ensures.disk c.in_ok-later.ensures.disk, c.in_ok-begun.ensures.disks)
