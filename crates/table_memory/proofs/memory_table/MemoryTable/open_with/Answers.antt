-- The trees have the map's pairs.
use Rattle.std.proofs.Common.{◌≡◌, ◌∙◌, List, length, take, drop, ◌++◌, sym, ap, subst}
use Rattle.table_rule.specs.Histories.{IsBase, versions_at}
use Rattle.table_rule.proofs.Bases.{base_at}
use Rattle.table_tree.specs.Shapes.{Shape, versions_in}
use Rattle.table_steps.specs.Ends.{BearBase}
use Rattle.table_memory.specs.Meaning.{AreLeaves}
use Rattle.table_memory.proofs.Planting.{written}
use Rattle.table_memory.proofs.memory_table.MemoryTable.open_with.Goals as goal

pub put_pairs-requires-clause-empty : goal.put_pairs-requires-clause-empty
put_pairs-requires-clause-empty c = subst AreLeaves (sym c.as_mut_slice.ensures.value) c.in_ok-trees.ensures.empty

pub open-requires-clause-over : goal.open-requires-clause-over
open-requires-clause-over c =
    let trees : List Shape = c.put_pairs.new.trees in
    let many : c.in_ok-trees.trees.len ≡ length trees = c.in_ok-trees.trees.ok.0 ∙ ap length (sym c.as_mut_slice.ensures.value) ∙ sym c.in_ok-put_pairs.ensures.count in
    let same : take c.in_ok-trees.trees.len (trees ++ drop (length trees) c.in_ok-trees.trees.items) ≡ trees = written trees (drop (length trees) c.in_ok-trees.trees.items) c.in_ok-trees.trees.len many in
    let is : c.in_ok-base.base ≡ versions_at c.args.base_last c.args.map.now = c.in_ok-base.ensures in (
      subst (IsBase c.args.last) (sym is) (base_at c.args.last c.args.base_last c.args.map.now c.requires.published),
      subst (λ (t : List _ × List Shape). BearBase versions_in t.0 t.1) (λ i. (sym is i, sym same i)) c.in_ok-put_pairs.ensures.put,
    )
