use Rattle.std.proofs.Common.{◌≡◌, refl, subst}
use Rattle.tests_line_stages.specs.declared.client.PlayerStage.TheVariants.{Grouped}
use Rattle.tests_line_stages.specs.Clients.{StandsAt}
use Rattle.tests_line_stages.proofs.tests.schedule.exit.Goals as goal

pub refused-answer-requires-clause-group : goal.refused-answer-requires-clause-group
refused-answer-requires-clause-group g c =
    let p = c.args.client.now in let was : p.stage ≡ Grouped c.in-Grouped.counter = cc (c.replace.ensures.value, c.in-Grouped.is) in
    let at = subst (StandsAt c.args.list.now p) was c.requires.stands.1 in at.0

pub returns : goal.returns
returns g c =
    let p = c.args.client.now in let was : p.stage ≡ Grouped c.in-Grouped.counter = cc (c.replace.ensures.value, c.in-Grouped.is) in
    let at = subst (StandsAt c.args.list.now p) was c.requires.stands.1 in let out = c.refused-answer.ensures.out in
    (out.2, ((out.0, out.1, refl), c.refused-answer.ensures.ready, at.1))
