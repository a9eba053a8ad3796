use Rattle.std.proofs.Common.{◌≡◌, List, ◌++◌, length}
use Rattle.table_rule.specs.declared.content.Version.{Version}
use Rattle.table_rule.specs.Steps.{AddsAll}
use Rattle.table_steps.proofs.shared.SharedTable.add.Given as goal

abbrev pub decreases-loop-node : goal.decreases-loop-node
decreases-loop-node g l = length (g.NodeList.Versioned.versions l.nodes)

-- the versions that are in the tree already, and those that are still to be put in
abbrev pub invariant-loop-node : goal.invariant-loop-node
invariant-loop-node g l = (put : List Version) × (g.Plan.VersionPlan.versions ≡ put ++ g.NodeList.Versioned.versions l.nodes)
    × AddsAll (g.ShardTree.Versioned.versions l.initial.tree) put (g.ShardTree.Versioned.versions l.tree)
