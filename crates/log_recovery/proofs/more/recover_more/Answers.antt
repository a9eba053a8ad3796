use Rattle.log_recovery.specs.Modes.{Accepts}
use Rattle.log_recovery.proofs.OneMore.{damaged_after}
use Rattle.log_recovery.proofs.Telling.{accepted_there, refused_there}
use Rattle.log_recovery.proofs.more.recover_more.Goals as goal

pub returns-in-Ok-true-clause-accepted : goal.returns-in-Ok-true-clause-accepted
returns-in-Ok-true-clause-accepted g c =
    let told = g.R.ReadAt.held c.args.disk.now in
    let before = g.R.ReadAt.held c.after_all.new.disk in
    let found = c.in_ok-more.more in
    accepted_there before told c.in-Ok-true.field-0 (λ file. Accepts c.args.number c.args.mode file found.end.at found.end.why) (g.met.R.ReadAt.reads_keep _ _ c.in_ok-more.ensures.disk) c.in-Ok-true.field-0-test c.in-Ok-true.ensures.decided

pub returns-in-Ok-true-clause-disk : goal.returns-in-Ok-true-clause-disk
returns-in-Ok-true-clause-disk g c = g.met.R.ReadAt.reads_on _ _ _ c.in_ok-more.ensures.disk c.in-Ok-true.ensures.disk

pub returns-in-Ok-false-clause-damage : goal.returns-in-Ok-false-clause-damage
returns-in-Ok-false-clause-damage g c =
    let told = g.R.ReadAt.held c.args.disk.now in
    let before = g.R.ReadAt.held c.after_all.new.disk in
    let found = c.in_ok-more.more in
    let refused = refused_there before told c.in-Ok-false.field-0 (λ file. Accepts c.args.number c.args.mode file found.end.at found.end.why) (g.met.R.ReadAt.reads_keep _ _ c.in_ok-more.ensures.disk) c.in-Ok-false.field-0-test c.in-Ok-false.ensures.decided in
    damaged_after told c.args.number c.args.mode c.args.pairs c.args.last found c.in_ok-more.ensures.recovered refused

pub returns-in-Ok-false-clause-disk : goal.returns-in-Ok-false-clause-disk
returns-in-Ok-false-clause-disk g c = g.met.R.ReadAt.reads_on _ _ _ c.in_ok-more.ensures.disk c.in-Ok-false.ensures.disk

pub returns-in-Err-clause-disk : goal.returns-in-Err-clause-disk
returns-in-Err-clause-disk g c = g.met.R.ReadAt.reads_on _ _ _ c.in_ok-more.ensures.disk c.in-Err.ensures.disk
