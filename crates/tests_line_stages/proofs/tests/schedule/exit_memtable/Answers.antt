use Rattle.std.proofs.Common.{◌≡◌, refl, subst}
use Rattle.tests_line_stages.specs.declared.client.PlayerStage.TheVariants.{Serves}
use Rattle.tests_line_stages.specs.Clients.{StandsAt}
use Rattle.tests_line_stages.proofs.tests.schedule.exit_memtable.Goals as goal

pub served-answer-requires-clause-serves : goal.served-answer-requires-clause-serves
served-answer-requires-clause-serves g c =
    let p = c.args.client.now in let was : p.stage ≡ Serves c.in-Serves.right = cc (c.replace.ensures.value, c.in-Serves.is) in
    subst (StandsAt c.args.list.now p) was c.requires.stands.1

pub returns : goal.returns
returns g c = let may = c.served-answer.ensures in (may.0.2, ((may.0.0, may.0.1, refl), may.1, may.2))
