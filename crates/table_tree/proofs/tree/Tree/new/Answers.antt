-- No versions are in order.
use Rattle.std.specs.List.Sorted.{IsStrictlySortedBy}
use Rattle.table_tree.proofs.tree.Tree.new.Goals as goal

pub invariant_of-result : goal.invariant_of-result
unfolding IsStrictlySortedBy
invariant_of-result c = rw c.new.ensures (record { ordered = tt; keyed = record { sorted = tt; each = tt }; apart = tt; dense = tt })
