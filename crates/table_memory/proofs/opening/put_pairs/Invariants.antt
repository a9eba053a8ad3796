use Rattle.std.proofs.Common.{◌≡◌, ◌++◌, length}
use Rattle.model_base.specs.Map.{Pairs}
use Rattle.table_rule.specs.Histories.{versions_at}
use Rattle.table_tree.specs.Shapes.{versions_in}
use Rattle.table_steps.specs.Ends.{BearBase}
use Rattle.table_memory.proofs.opening.put_pairs.Given as goal

-- the pairs so far are in the trees
abbrev pub invariant-loop-family : goal.invariant-loop-family
invariant-loop-family l = (length l.trees ≡ length l.fn.trees)
    × ((front : Pairs) × (l.map ≡ front ++ l.family-iterator) × BearBase versions_in (versions_at l.sequence front) l.trees)
