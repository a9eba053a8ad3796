use Rattle.std.proofs.Common.{◌∷◌, ◌+◌, length, sym, ◌∙◌, subst, arith, ℕ, List, Ok}
use Rattle.std.specs.List.{AllZip}
use Rattle.base_devices.specs.Faults.{Rose, count_in_all}
use Rattle.base_devices.specs.OnlyReads.{OnlyReads, more_read}
use Rattle.log_recovery.specs.declared.many.RecoveredMany.{RecoveredMany}
use Rattle.log_recovery.specs.RecoveringLogs.{AcceptFrom, AreRecoveredFrom, CountNone, IsErrorFrom, TellDamageFrom}
use Rattle.log_recovery.proofs.Asking.{all_empty, asked_then_read, both_steps, first_again, last_accepted, last_answer, still_hold}
use Rattle.log_recovery.proofs.Faults.{handed_on, error_after, error_in_any, error_later, fails_again, not_damage_of_logs, worked_after, worked_later}
use Rattle.log_recovery.proofs.LogByLog.{all_end, all_accepted, all_damaged, all_go_on, all_accepted_on, all_damaged_on, all_read_on, in_turn_of_all}
use Rattle.log_recovery.proofs.Unread.{more_disks_read}
use Rattle.log_recovery.proofs.many.+recover_from.Goals as goal

-- The first log isn't read to its end.

pub returns-in_err-end-clause-damage : goal.returns-in_err-end-clause-damage
returns-in_err-end-clause-damage g t c = λ files holds.
    handed_on c.from_residual.result c.in_err-end.field-0.0 (TellDamageFrom c.args.log c.args.kept c.args.mode files) c.from_residual.ensures.1
    (not_damage_of_logs (TellDamageFrom c.args.log c.args.kept c.args.mode files) (λ n. tt) tt g.D.Disk.faults (c.in-Some.disk.now ∷ c.in-Some.rest.now) (c.keep_whole.new.disk ∷ c.keep_whole.new.rest) c.in_err-end.field-0.0 c.in_err-end.ensures.error)

pub returns-in_err-end-clause-in_turn : goal.returns-in_err-end-clause-in_turn
returns-in_err-end-clause-in_turn g t c =
    in_turn_of_all g.D.Disk c.args.disks.now c.in-Some.disk.now c.in-Some.rest.now c.in-Some.ensures.cases.0 c.args.kept.last (c.keep_whole.new.disk ∷ c.keep_whole.new.rest) c.in_err-end.ensures.in_turn

pub returns-in_err-end-clause-error : goal.returns-in_err-end-clause-error
returns-in_err-end-clause-error g t c =
    let olds = c.in-Some.disk.now ∷ c.in-Some.rest.now in
    let news = c.keep_whole.new.disk ∷ c.keep_whole.new.rest in
    let faults = g.D.Disk.faults in
    handed_on c.from_residual.result c.in_err-end.field-0.0 (IsErrorFrom c.args.mode faults c.args.disks.now news) c.from_residual.ensures.1
    (subst (λ (l : List _). IsErrorFrom c.args.mode faults l news c.in_err-end.field-0.0) (sym c.in-Some.ensures.cases.0) (error_in_any c.args.mode faults olds news c.in_err-end.field-0.0 c.in_err-end.ensures.error))

pub returns-in_err-end-clause-disks : goal.returns-in_err-end-clause-disks
returns-in_err-end-clause-disks g t c =
    subst (λ (l : List _). AllZip (OnlyReads g.D.Disk) l (c.keep_whole.new.disk ∷ c.keep_whole.new.rest)) (sym c.in-Some.ensures.cases.0) c.in_err-end.ensures.disks

-- It ended clean, and recovery goes on.

pub returns-in-Begun-clause-recovered : goal.returns-in-Begun-clause-recovered
returns-in-Begun-clause-recovered g t c =
    let told = c.in_ok-end.ensures in
    all_go_on g.D.Disk c.args.disks.now c.in-Some.disk.now c.in-Some.rest.now c.in-Some.ensures.cases.0 c.args.log c.args.kept c.keep_whole.new.kept c.in_ok-end.end told.recovered
    (told.begun c.in-Begun.next c.in-Begun.is).0 c.recover_from.result (λ files holds. c.recover_from.ensures.recovered files (still_hold g.D.Disk c.in-Some.rest.now c.keep_whole.new.rest files told.disks.1 holds))

pub returns-in-Begun-clause-accepted : goal.returns-in-Begun-clause-accepted
returns-in-Begun-clause-accepted g t c =
    all_accepted_on g.D.Disk c.args.disks.now c.in-Some.disk.now c.in-Some.rest.now c.in-Some.ensures.cases.0 c.args.log c.args.mode c.recover_from.result
    (λ files holds. c.recover_from.ensures.accepted files (still_hold g.D.Disk c.in-Some.rest.now c.keep_whole.new.rest files c.in_ok-end.ensures.disks.1 holds))

pub returns-in-Begun-clause-damage : goal.returns-in-Begun-clause-damage
returns-in-Begun-clause-damage g t c =
    let told = c.in_ok-end.ensures in
    all_damaged_on g.D.Disk c.args.disks.now c.in-Some.disk.now c.in-Some.rest.now c.in-Some.ensures.cases.0 c.args.log c.args.kept c.keep_whole.new.kept c.in_ok-end.end told.recovered
    (told.begun c.in-Begun.next c.in-Begun.is).0 c.args.mode c.recover_from.result (λ files holds. c.recover_from.ensures.damage files (still_hold g.D.Disk c.in-Some.rest.now c.keep_whole.new.rest files told.disks.1 holds))

pub returns-in-Begun-clause-in_turn : goal.returns-in-Begun-clause-in_turn
returns-in-Begun-clause-in_turn g t c =
    let told = c.in_ok-end.ensures in
    let rest = c.in-Some.rest.now in
    let asked = c.keep_whole.new.rest in
    all_read_on g.D.Disk c.args.disks.now c.in-Some.disk.now rest c.in-Some.ensures.cases.0 c.args.log c.args.kept c.keep_whole.new.kept c.in_ok-end.end told.recovered
    (told.begun c.in-Begun.next c.in-Begun.is).0 c.keep_whole.new.disk c.recover_from.new.disks (λ files holds.
    asked_then_read c.keep_whole.new.kept.last files rest asked c.recover_from.new.disks (told.asked files holds) (c.recover_from.ensures.in_turn files (still_hold g.D.Disk rest asked files told.disks.1 holds)))

pub returns-in-Begun-clause-worked : goal.returns-in-Begun-clause-worked
returns-in-Begun-clause-worked g t c =
    let worked = c.in_ok-end.ensures.worked in
    worked_later g.D.Disk.faults c.args.disks.now c.in-Some.disk.now c.keep_whole.new.disk c.in-Some.rest.now c.in-Some.ensures.cases.0 c.recover_from.new.disks c.recover_from.result worked.0
    (worked_after g.D.Disk.faults c.in-Some.rest.now c.keep_whole.new.rest c.recover_from.new.disks c.recover_from.result worked.1 c.recover_from.ensures.worked)

pub returns-in-Begun-clause-error : goal.returns-in-Begun-clause-error
returns-in-Begun-clause-error g t c =
    let worked = c.in_ok-end.ensures.worked in
    error_later g.D.Disk.faults c.args.disks.now c.in-Some.disk.now c.keep_whole.new.disk c.in-Some.rest.now c.in-Some.ensures.cases.0 c.args.mode c.recover_from.new.disks c.recover_from.result worked.0
    (error_after c.args.mode g.D.Disk.faults c.in-Some.rest.now c.keep_whole.new.rest c.recover_from.new.disks c.recover_from.result worked.1 c.recover_from.ensures.error)

pub returns-in-Begun-clause-disks : goal.returns-in-Begun-clause-disks
returns-in-Begun-clause-disks g t c =
    let read = c.in_ok-end.ensures.disks in
    more_disks_read g.D.Disk c.args.disks.now c.in-Some.disk.now c.keep_whole.new.disk c.in-Some.rest.now c.recover_from.new.disks c.in-Some.ensures.cases.0 read.0
    (both_steps (OnlyReads g.D.Disk) (more_read g.D.Disk) c.in-Some.rest.now c.keep_whole.new.rest c.recover_from.new.disks read.1 c.recover_from.ensures.disks)

-- It ended clean, and no later log has bytes.

pub returns-in-NoneBegun-clause-recovered : goal.returns-in-NoneBegun-clause-recovered
returns-in-NoneBegun-clause-recovered g t c = λ files holds.
    let told = c.in_ok-end.ensures in
    let none = told.none_begun c.in-NoneBegun.is in
    let number = c.args.log + length c.keep_whole.new.rest in
    subst (λ (s : RecoveredMany). AreRecoveredFrom files c.args.log c.args.kept s) (sym c.in_last.ensures)
    (all_go_on g.D.Disk c.args.disks.now c.in-Some.disk.now c.in-Some.rest.now c.in-Some.ensures.cases.0 c.args.log c.args.kept c.keep_whole.new.kept c.in_ok-end.end told.recovered none.0 {E = ℕ} (Ok (last_answer c.keep_whole.new.kept number))
    (λ later held. all_empty g.D.Disk c.in-Some.rest.now later c.args.log number c.keep_whole.new.kept (omega (arith, c.keep_whole.auto.rest)) none.1 held (told.empty later held c.in-NoneBegun.is)) files holds)

pub returns-in-NoneBegun-clause-accepted : goal.returns-in-NoneBegun-clause-accepted
returns-in-NoneBegun-clause-accepted g t c = λ files holds.
    let none = c.in_ok-end.ensures.none_begun c.in-NoneBegun.is in
    let number = c.args.log + length c.keep_whole.new.rest in
    subst (λ (s : RecoveredMany). AcceptFrom c.args.log c.args.mode files s.log s.end.at s.end.why) (sym c.in_last.ensures)
    (all_accepted_on g.D.Disk c.args.disks.now c.in-Some.disk.now c.in-Some.rest.now c.in-Some.ensures.cases.0 {E = ℕ} c.args.log c.args.mode (Ok (last_answer c.keep_whole.new.kept number))
    (λ later held. last_accepted g.D.Disk c.args.mode c.in-Some.rest.now later c.args.log number (omega (arith, c.keep_whole.auto.rest)) none.1 held) files holds)

pub returns-in-NoneBegun-clause-in_turn : goal.returns-in-NoneBegun-clause-in_turn
returns-in-NoneBegun-clause-in_turn g t c =
    in_turn_of_all g.D.Disk c.args.disks.now c.in-Some.disk.now c.in-Some.rest.now c.in-Some.ensures.cases.0 c.args.kept.last (c.keep_whole.new.disk ∷ c.keep_whole.new.rest) c.in_ok-end.ensures.in_turn

pub returns-in-NoneBegun-clause-worked : goal.returns-in-NoneBegun-clause-worked
returns-in-NoneBegun-clause-worked g t c =
    subst (λ (l : List _). CountNone g.D.Disk.faults l (c.keep_whole.new.disk ∷ c.keep_whole.new.rest)) (sym c.in-Some.ensures.cases.0) c.in_ok-end.ensures.worked

pub returns-in-NoneBegun-clause-disks : goal.returns-in-NoneBegun-clause-disks
returns-in-NoneBegun-clause-disks g t c =
    subst (λ (l : List _). AllZip (OnlyReads g.D.Disk) l (c.keep_whole.new.disk ∷ c.keep_whole.new.rest)) (sym c.in-Some.ensures.cases.0) c.in_ok-end.ensures.disks

-- Recovery ends in it, and the mode accepts that.

pub returns-in-Ok-true-clause-recovered : goal.returns-in-Ok-true-clause-recovered
returns-in-Ok-true-clause-recovered g t c = λ files holds.
    subst (λ (s : RecoveredMany). AreRecoveredFrom files c.args.log c.args.kept s) (sym c.many_of.ensures)
    (all_end g.D.Disk c.args.disks.now c.in-Some.disk.now c.in-Some.rest.now c.in-Some.ensures.cases.0 c.args.log c.args.kept c.keep_whole.new.kept c.in_ok-end.end c.in_ok-end.ensures.recovered
    (c.in_ok-end.ensures.stops c.in-Nowhere.is) files holds)

pub returns-in-Ok-true-clause-accepted : goal.returns-in-Ok-true-clause-accepted
returns-in-Ok-true-clause-accepted g t c = λ files holds.
    subst (λ (s : RecoveredMany). AcceptFrom c.args.log c.args.mode files s.log s.end.at s.end.why) (sym c.many_of.ensures)
    (all_accepted g.D.Disk c.args.disks.now c.in-Some.disk.now c.in-Some.rest.now c.in-Some.ensures.cases.0 c.args.log c.args.kept c.keep_whole.new.kept c.in_ok-end.end c.in_ok-end.ensures.recovered
    (c.in_ok-end.ensures.stops c.in-Nowhere.is) c.args.mode (g.D.Disk.told c.keep_whole.new.disk) (c.in_ok-end.ensures.disks.0).same c.in-Ok-true.field-0 c.in-Ok-true.ensures.decided c.in-Ok-true.field-0-test files holds)

pub returns-in-Ok-true-clause-in_turn : goal.returns-in-Ok-true-clause-in_turn
returns-in-Ok-true-clause-in_turn g t c =
    let disk = c.in-Some.disk.now in
    let rest = c.in-Some.rest.now in
    in_turn_of_all g.D.Disk c.args.disks.now disk rest c.in-Some.ensures.cases.0 c.args.kept.last (c.accepts.new.disk ∷ c.keep_whole.new.rest)
    (λ files holds. first_again c.args.kept.last files (disk ∷ rest) c.keep_whole.new.rest c.keep_whole.new.disk c.accepts.new.disk (c.in_ok-end.ensures.in_turn files holds))

pub returns-in-Ok-true-clause-worked : goal.returns-in-Ok-true-clause-worked
returns-in-Ok-true-clause-worked g t c =
    let worked = c.in_ok-end.ensures.worked in
    subst (λ (l : List _). CountNone g.D.Disk.faults l (c.accepts.new.disk ∷ c.keep_whole.new.rest)) (sym c.in-Some.ensures.cases.0) (c.in-Ok-true.ensures.worked ∙ worked.0, worked.1)

pub returns-in-Ok-true-clause-disks : goal.returns-in-Ok-true-clause-disks
returns-in-Ok-true-clause-disks g t c =
    let read = c.in_ok-end.ensures.disks in
    subst (λ (l : List _). AllZip (OnlyReads g.D.Disk) l (c.accepts.new.disk ∷ c.keep_whole.new.rest)) (sym c.in-Some.ensures.cases.0) (more_read g.D.Disk _ _ _ read.0 c.in-Ok-true.ensures.disk, read.1)

-- The mode doesn't accept that.

pub returns-in-Ok-false-clause-damage : goal.returns-in-Ok-false-clause-damage
returns-in-Ok-false-clause-damage g t c =
    all_damaged g.D.Disk c.args.disks.now c.in-Some.disk.now c.in-Some.rest.now c.in-Some.ensures.cases.0 c.args.log c.args.kept c.keep_whole.new.kept c.in_ok-end.end c.in_ok-end.ensures.recovered
    (c.in_ok-end.ensures.stops c.in-Nowhere.is) c.args.mode (g.D.Disk.told c.keep_whole.new.disk) (c.in_ok-end.ensures.disks.0).same c.in-Ok-false.field-0 c.in-Ok-false.ensures.decided c.in-Ok-false.field-0-test

pub returns-in-Ok-false-clause-in_turn : goal.returns-in-Ok-false-clause-in_turn
returns-in-Ok-false-clause-in_turn g t c =
    let disk = c.in-Some.disk.now in
    let rest = c.in-Some.rest.now in
    in_turn_of_all g.D.Disk c.args.disks.now disk rest c.in-Some.ensures.cases.0 c.args.kept.last (c.accepts.new.disk ∷ c.keep_whole.new.rest)
    (λ files holds. first_again c.args.kept.last files (disk ∷ rest) c.keep_whole.new.rest c.keep_whole.new.disk c.accepts.new.disk (c.in_ok-end.ensures.in_turn files holds))

pub returns-in-Ok-false-clause-error : goal.returns-in-Ok-false-clause-error
returns-in-Ok-false-clause-error g t c =
    let worked = c.in_ok-end.ensures.worked in (
      subst (λ (l : List _). CountNone g.D.Disk.faults l (c.accepts.new.disk ∷ c.keep_whole.new.rest)) (sym c.in-Some.ensures.cases.0) (c.in-Ok-false.ensures.worked ∙ worked.0, worked.1),
      λ point. let so = c.in-Ok-false.ensures.any point in let not_so = c.in-Ok-false.field-0-test in cc,
    )

pub returns-in-Ok-false-clause-disks : goal.returns-in-Ok-false-clause-disks
returns-in-Ok-false-clause-disks g t c =
    let read = c.in_ok-end.ensures.disks in
    subst (λ (l : List _). AllZip (OnlyReads g.D.Disk) l (c.accepts.new.disk ∷ c.keep_whole.new.rest)) (sym c.in-Some.ensures.cases.0) (more_read g.D.Disk _ _ _ read.0 c.in-Ok-false.ensures.disk, read.1)

-- The disk failed as it was asked about the end.

pub returns-in-Err-clause-in_turn : goal.returns-in-Err-clause-in_turn
returns-in-Err-clause-in_turn g t c =
    let disk = c.in-Some.disk.now in
    let rest = c.in-Some.rest.now in
    in_turn_of_all g.D.Disk c.args.disks.now disk rest c.in-Some.ensures.cases.0 c.args.kept.last (c.accepts.new.disk ∷ c.keep_whole.new.rest)
    (λ files holds. first_again c.args.kept.last files (disk ∷ rest) c.keep_whole.new.rest c.keep_whole.new.disk c.accepts.new.disk (c.in_ok-end.ensures.in_turn files holds))

pub returns-in-Err-clause-error : goal.returns-in-Err-clause-error
returns-in-Err-clause-error g t c =
    let fault = c.in-Err.ensures.fault in
    let worked = c.in_ok-end.ensures.worked in
    let faults = g.D.Disk.faults in
    let news = c.accepts.new.disk ∷ c.keep_whole.new.rest in
    subst (λ (l : List _). Rose (count_in_all faults l) (count_in_all faults news)) (sym c.in-Some.ensures.cases.0)
    (fails_again faults c.in-Some.disk.now c.keep_whole.new.disk c.accepts.new.disk c.in-Some.rest.now c.keep_whole.new.rest worked.0 worked.1 c.in-Err.count fault.0 fault.1)

pub returns-in-Err-clause-disks : goal.returns-in-Err-clause-disks
returns-in-Err-clause-disks g t c =
    let read = c.in_ok-end.ensures.disks in
    subst (λ (l : List _). AllZip (OnlyReads g.D.Disk) l (c.accepts.new.disk ∷ c.keep_whole.new.rest)) (sym c.in-Some.ensures.cases.0) (more_read g.D.Disk _ _ _ read.0 c.in-Err.ensures.disk, read.1)
