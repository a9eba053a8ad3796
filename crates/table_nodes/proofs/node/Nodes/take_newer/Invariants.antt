-- The nodes that were taken out, reversed, come before the others.
use Rattle.std.proofs.Common.{◌≡◌, ◌++◌, length, reverse}
use Rattle.table_rule.specs.declared.content.Version.{Version}
use Rattle.table_nodes.specs.Chains.{insert_older}
use Rattle.table_nodes.proofs.node.Nodes.take_newer.Given as goal

abbrev pub invariant-loop-node : goal.invariant-loop-node
invariant-loop-node l = (v : Version) → v.sequence ≡ l.sequence → reverse l.newer ++ insert_older l.self v ≡ insert_older l.initial.self v

abbrev pub decreases-loop-node : goal.decreases-loop-node
decreases-loop-node l = length l.self
