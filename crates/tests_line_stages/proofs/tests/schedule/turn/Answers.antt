use Rattle.std.proofs.Common.{ℕ, refl, ◌∙◌}
use Rattle.std.proofs.lemmas.List.{length-set}
use Rattle.tests_line_stages.proofs.Seating.{stand_elsewhere}
use Rattle.tests_line_stages.proofs.tests.schedule.turn.Goals as goal

pub called-requires-clause-stands : goal.called-requires-clause-stands
called-requires-clause-stands g c = (refl, (c.requires.stand.each c.args.i c.index-clients-i.result c.requires.is_there).1)

pub returns : goal.returns
returns g c =
    let i : ℕ = c.args.i in let before = c.args.clients.now in let after = c.called.new.client in let stands = c.called.ensures in
    let was = c.requires.stand.each i c.index-clients-i.result c.requires.is_there in
    (stand_elsewhere c.args.list.now before i after c.requires.stand (stands.0 ∙ was.0, stands.1), length-set before i after)
