use Rattle.std.proofs.Common.{◌≡◌, subst}
use Rattle.tests_line_stages.specs.declared.client.PlayerStage.TheVariants.{Linked, Waits}
use Rattle.tests_line_stages.specs.Clients.{StandsAt}
use Rattle.tests_line_stages.proofs.tests.schedule.await_role.Goals as goal

pub await_first-requires-clause-asked : goal.await_first-requires-clause-asked
await_first-requires-clause-asked g c =
    let p = c.args.client.now in let was : p.stage ≡ Linked = cc (c.replace.ensures.value, c.in-Linked.is) in
    subst (StandsAt c.args.list.now p) was c.requires.stands.1

pub await_right-requires-clause-sent : goal.await_right-requires-clause-sent
await_right-requires-clause-sent g c =
    let p = c.args.client.now in let was : p.stage ≡ Waits c.in-Waits.first c.in-Waits.next = cc (c.replace.ensures.value, c.in-Waits.is) in
    subst (StandsAt c.args.list.now p) was c.requires.stands.1
