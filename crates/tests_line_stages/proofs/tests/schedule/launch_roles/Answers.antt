use Rattle.std.proofs.Common.{◌≡◌, subst}
use Rattle.tests_line_stages.specs.declared.client.PlayerStage.TheVariants.{Serves}
use Rattle.tests_line_stages.specs.Clients.{StandsAt}
use Rattle.tests_line_stages.proofs.tests.schedule.launch_roles.Goals as goal

pub launched-requires : goal.launched-requires
launched-requires g c =
    let p = c.args.client.now in let was : p.stage ≡ Serves c.in-Serves.right = cc (c.replace.ensures.value, c.in-Serves.is) in
    record { serves = subst (StandsAt c.args.list.now p) was c.requires.stands.1 }

pub returns : goal.returns
returns g c = (c.launched.ensures.client, c.launched.ensures.serves)
