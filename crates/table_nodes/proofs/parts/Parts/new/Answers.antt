-- No parts, and room as asked.
use Rattle.std.proofs.Common.{arith, rules}
use Rattle.table_nodes.proofs.Members.{room_none}
use Rattle.table_nodes.proofs.parts.Parts.new.Goals as goal

pub invariant_of-result : goal.invariant_of-result
invariant_of-result c = room_none _ _ (search rules) (grind arith)
