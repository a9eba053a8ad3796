use Rattle.std.proofs.Common.{sym, subst}
use Rattle.log_recovery.specs.declared.recovery.RecoverError.{RecoverError}
use Rattle.log_recovery.specs.RecoveringLogs.{IsErrorOfLogs, TellDamage, with_count}
use Rattle.log_recovery.proofs.Faults.{error_of_all}
use Rattle.log_recovery.proofs.LogByLog.{from_nothing, damaged_from_nothing, read_from_nothing}
use Rattle.log_recovery.proofs.Numbered.{none_numbered}
use Rattle.log_recovery.proofs.many.recover_many.Goals as goal

pub returns-in-Ok-clause-recovered : goal.returns-in-Ok-clause-recovered
returns-in-Ok-clause-recovered g c = λ files holds.
    from_nothing files c.new.result c.new.ensures.last c.in-Ok.recovered c.new.ensures.groups c.new.ensures.map (c.in-Ok.ensures.recovered files holds)

pub returns-in-Ok-clause-numbered : goal.returns-in-Ok-clause-numbered
returns-in-Ok-clause-numbered g c = c.in-Ok.ensures.numbered (none_numbered c.new.result.map c.new.result.last c.new.ensures.map c.new.ensures.last)

pub returns-in-Ok-clause-in_turn : goal.returns-in-Ok-clause-in_turn
returns-in-Ok-clause-in_turn g c = λ files holds.
    read_from_nothing files c.new.result c.new.ensures.last c.args.disks.now c.recover_from.new.disks (c.in-Ok.ensures.in_turn files holds)

pub returns-in-Err-clause-in_turn : goal.returns-in-Err-clause-in_turn
returns-in-Err-clause-in_turn g c = λ files holds.
    read_from_nothing files c.new.result c.new.ensures.last c.args.disks.now c.recover_from.new.disks (c.in-Err.ensures.in_turn files holds)

pub returns-in-Err-clause-damage : goal.returns-in-Err-clause-damage
returns-in-Err-clause-damage g c = λ files holds.
    subst (λ (e : RecoverError). TellDamage c.args.mode files e) (sym c.count_all.ensures)
    (damaged_from_nothing files c.new.result c.new.ensures.last c.args.mode c.count_faults.result c.in-Err.error (c.in-Err.ensures.damage files holds))

pub returns-in-Err-clause-error : goal.returns-in-Err-clause-error
returns-in-Err-clause-error g c =
    let olds = c.args.disks.now in
    let news = c.recover_from.new.disks in
    let faults = g.D.Disk.faults in
    subst (λ (e : RecoverError). IsErrorOfLogs c.args.mode faults olds news e) (sym c.count_all.ensures)
    (subst (λ n. IsErrorOfLogs c.args.mode faults olds news (with_count n c.in-Err.error)) (sym c.count_faults.ensures)
    (error_of_all c.args.mode faults olds news c.in-Err.error c.in-Err.ensures.error))
