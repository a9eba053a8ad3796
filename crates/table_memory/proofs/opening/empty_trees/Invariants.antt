use Rattle.std.proofs.Common.{◌≡◌, length}
use Rattle.table_memory.specs.Meaning.{AreLeaves}
use Rattle.table_memory.proofs.opening.empty_trees.Given as goal

abbrev pub invariant-loop-made : goal.invariant-loop-made
invariant-loop-made l = (length l.trees.items ≡ l.made) × AreLeaves l.trees.items
