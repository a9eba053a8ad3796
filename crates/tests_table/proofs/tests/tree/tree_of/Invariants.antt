-- The versions so far have sequences below the next one.
use Rattle.std.proofs.Common.{◌+◌}
use Rattle.table_tree.specs.Versions.{AreBelow}
use Rattle.table_tree.specs.Shapes.{versions_in}
use Rattle.tests_table.proofs.tests.tree.tree_of.Given as goal

abbrev pub invariant-loop-i : goal.invariant-loop-i
invariant-loop-i g l = AreBelow (l.i + 1) (versions_in l.tree)
