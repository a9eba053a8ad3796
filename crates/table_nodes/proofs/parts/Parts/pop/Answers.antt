-- The other parts stay.
use Rattle.std.proofs.Common.{◌<◌, length, arith}
use Rattle.table_nodes.proofs.Members.{room_without, first_and_rest}
use Rattle.table_nodes.proofs.parts.Parts.pop.Goals as goal

pub invariant_of-self : goal.invariant_of-self
invariant_of-self c =
    let some : 0 < length c.self.inside.parts.items = grind arith in
    let is = first_and_rest c.self.inside.parts.items c.remove.new.self.items c.remove.result some c.remove.ensures.value c.remove.ensures.items in
    room_without c.self.inside.clients c.self.inside.parts c.remove.new.self c.remove.result c.self.invariant is c.remove.ensures.capacity
