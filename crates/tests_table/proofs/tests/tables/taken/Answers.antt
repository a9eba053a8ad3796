-- The seat that is taken off the list's end was in the list, and so were those that are left.
use Rattle.std.proofs.Common.{◌≡◌, Some, rules}
use Rattle.tests_table.proofs.Popped.{popped_in, rest_in}
use Rattle.tests_table.proofs.tests.tables.taken.Goals as goal

pub returns-clause-seat : goal.returns-clause-seat
returns-clause-seat c =
    let seat = c.in_ok-seat.seat in
    let found : c.pop.result ≡ Some seat = search rules in
    c.requires seat (popped_in c.args.seats.now.items c.pop.new.self.items c.pop.result seat c.pop.ensures.items found)

pub returns-clause-others : goal.returns-clause-others
returns-clause-others c = λ seat i. c.requires seat (rest_in c.args.seats.now.items c.pop.new.self.items c.pop.result seat c.pop.ensures.items i)
