-- The rows are those of what is up to the page at `at`.
use Rattle.std.proofs.Common.{◌≡◌, ◌⊎◌, ◌+◌, ◌*◌, ◌≤◌, ◌++◌, take}
use Rattle.table_nodes.specs.Nodes.{at_key}
use Rattle.table_tree.specs.Pages.{height_of}
use Rattle.table_tree.specs.Rows.{between, pairs_at, rows_in}
use Rattle.table_tree.proofs.Weaving.{left_of}
use Rattle.table_tree.proofs.+gather.Given as goal

abbrev pub invariant-page::Page::gather-loop-at : goal.invariant-page::Page::gather-loop-at
invariant-page::Page::gather-loop-at l = record {
  from : l.start ≤ l.at;
  to : (l.at ≡ l.start) ⊎ (l.at ≤ l.stop);
  rows : l.rows ≡ l.fn.rows ++ rows_in (pairs_at l.range.at (between (at_key l.range.family l.range.lo.now) (at_key l.range.family l.range.hi.now) (left_of l.self-inside.below.items (take l.at l.self-inside.entries.items))));
}

-- A page comes after the list that it is in, and before the list of the pages below it.
abbrev pub decreases-page::Page::gather : goal.decreases-page::Page::gather
decreases-page::Page::gather l = 2 * l.self.now.height + 1

abbrev pub decreases-range::gather_at : goal.decreases-range::gather_at
decreases-range::gather_at l = 2 * height_of l.below.now
