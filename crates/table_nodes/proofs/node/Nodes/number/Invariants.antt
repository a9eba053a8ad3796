-- The nodes that are left, reversed and numbered, come before those that are numbered.
use Rattle.std.proofs.Common.{◌≡◌, ◌+◌, ◌++◌, length, reverse}
use Rattle.table_nodes.specs.Batches.{number_from}
use Rattle.table_nodes.proofs.node.Nodes.number.Given as goal

abbrev pub invariant-loop-node : goal.invariant-loop-node
invariant-loop-node l = record {
  all : number_from l.first (reverse l.self) ++ l.numbered ≡ number_from l.first (reverse l.initial.self);
  next : l.first + length l.self ≡ l.sequence;
}

abbrev pub decreases-loop-node : goal.decreases-loop-node
decreases-loop-node l = length l.self
