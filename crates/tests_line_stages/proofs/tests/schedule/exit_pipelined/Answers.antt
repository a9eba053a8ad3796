use Rattle.std.proofs.Common.{◌≡◌, subst}
use Rattle.tests_line_stages.specs.declared.client.PlayerStage.TheVariants.{Grouped}
use Rattle.tests_line_stages.specs.Clients.{StandsAt}
use Rattle.tests_line_stages.proofs.tests.schedule.exit_pipelined.Goals as goal

pub sent-first-requires : goal.sent-first-requires
sent-first-requires g c =
    let p = c.args.client.now in let was : p.stage ≡ Grouped c.in-Grouped.counter = cc (c.replace.ensures.value, c.in-Grouped.is) in
    let at = subst (StandsAt c.args.list.now p) was c.requires.stands.1 in record { group = at.0; pipelined = (c.requires.pipelined, at.1) }

pub returns : goal.returns
returns g c = (c.sent-first.ensures.client, c.sent-first.ensures.sent)
