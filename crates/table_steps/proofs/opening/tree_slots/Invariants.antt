use Rattle.std.proofs.Common.{◌≡◌, map}
use Rattle.table_rule.specs.declared.content.Content.TheVariants.{Tree}
use Rattle.table_steps.proofs.opening.tree_slots.Given as goal

abbrev pub invariant-loop-tree : goal.invariant-loop-tree
invariant-loop-tree g l = l.slots.items ≡ map (λ t. Tree t) l.yielded
