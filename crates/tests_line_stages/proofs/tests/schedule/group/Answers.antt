use Rattle.std.proofs.Common.{◌≡◌, subst}
use Rattle.tests_line_stages.specs.declared.client.PlayerStage.TheVariants.{Leads}
use Rattle.tests_line_stages.specs.Clients.{StandsAt}
use Rattle.tests_line_stages.proofs.tests.schedule.group.Goals as goal

pub grouped-requires : goal.grouped-requires
grouped-requires g c =
    let p = c.args.client.now in let was : p.stage ≡ Leads c.in-Leads.counter = cc (c.replace.ensures.value, c.in-Leads.is) in
    let at = subst (StandsAt c.args.list.now p) was c.requires.stands.1 in record { leads = at.0; ready = at.1 }

pub returns : goal.returns
returns g c =
    let p = c.args.client.now in let was : p.stage ≡ Leads c.in-Leads.counter = cc (c.replace.ensures.value, c.in-Leads.is) in
    let at = subst (StandsAt c.args.list.now p) was c.requires.stands.1 in (c.grouped.ensures.client, (c.grouped.ensures.group, at.2))
