use Rattle.std.proofs.Common.{IfSome, sym, subst}
use Rattle.log_recovery.specs.declared.recovery.Recovered.{Recovered}
use Rattle.log_recovery.specs.Recovering.{HasRecovered}
use Rattle.log_recovery.proofs.Telling.{recovered_first}
use Rattle.log_recovery.proofs.recovery.recover.Goals as goal

pub returns-clause-recovered : goal.returns-clause-recovered
returns-clause-recovered g c =
    let told = g.R.ReadAt.held c.args.disk.now in
    subst (λ (r : Recovered). IfSome told (λ d. HasRecovered c.args.number d r)) (sym c.answer_of.ensures)
    (recovered_first c.args.number told c.new-kept.result c.keep_log.new.kept c.in_ok-end.end c.new-kept.ensures.groups c.new-kept.ensures.map c.new-kept.ensures.last c.in_ok-end.ensures.recovered)
