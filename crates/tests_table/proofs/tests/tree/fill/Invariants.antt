-- The versions so far have sequences below the next one.
use Rattle.table_tree.specs.Versions.{AreBelow}
use Rattle.table_tree.specs.Shapes.{versions_in}
use Rattle.tests_table.proofs.tests.tree.fill.Given as goal

abbrev pub invariant-loop-sequence : goal.invariant-loop-sequence
invariant-loop-sequence g l = AreBelow l.sequence (versions_in l.tree)
