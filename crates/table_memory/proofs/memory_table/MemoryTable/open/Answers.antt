-- No tree has a version.
use Rattle.std.proofs.Common.{List, [], sym, subst, arith}
use Rattle.table_rule.specs.declared.content.Version.{Version}
use Rattle.table_rule.specs.Histories.{IsBase}
use Rattle.table_rule.proofs.Bases.{base_at}
use Rattle.table_tree.specs.Shapes.{versions_in}
use Rattle.table_steps.specs.Ends.{BearBase}
use Rattle.table_memory.proofs.Planting.{none_put}
use Rattle.table_memory.proofs.memory_table.MemoryTable.open.Goals as goal

pub open-requires-clause-over : goal.open-requires-clause-over
open-requires-clause-over c =
    let trees = c.in_ok-trees.trees.items in
    subst (λ (base : List Version). IsBase c.args.last base × BearBase versions_in base trees) (sym c.none.ensures)
    (base_at c.args.last 0 [] (omega arith), none_put 0 trees c.in_ok-trees.ensures.empty)
