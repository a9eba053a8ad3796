-- The nodes so far, reversed, come before those that are left to make.
use Rattle.std.proofs.Common.{◌≡◌, ◌++◌, reverse}
use Rattle.table_nodes.specs.Batches.{new_versions}
use Rattle.table_nodes.proofs.node.Nodes.make.Given as goal

abbrev pub invariant-loop-view : goal.invariant-loop-view
invariant-loop-view l = reverse l.nodes ++ new_versions l.view-iterator ≡ new_versions l.batch.records
