use Rattle.std.proofs.Common.{◌≡◌, refl, subst, arith}
use Rattle.tests_line_stages.specs.declared.client.PlayerStage.TheVariants.{Out}
use Rattle.tests_line_stages.specs.Clients.{StandsAt}
use Rattle.tests_line_stages.proofs.tests.schedule.link.Goals as goal

pub ask-requires : goal.ask-requires
ask-requires g c =
    let p = c.args.client.now in let was : p.stage ≡ Out = cc (c.replace.ensures.value, c.in-Out.is) in
    let may = subst (StandsAt c.args.list.now p) was c.requires.stands.1 in record { out = (may.0.0, may.0.1, omega (arith, c.sized.ensures)) }

pub returns : goal.returns
returns g c =
    let p = c.args.client.now in let was : p.stage ≡ Out = cc (c.replace.ensures.value, c.in-Out.is) in
    let may = subst (StandsAt c.args.list.now p) was c.requires.stands.1 in let l = c.ask.ensures.linked in
    (l.2, (l.0, l.1, refl, may.1, may.2))
