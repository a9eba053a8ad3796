-- The rows that are gathered are those of the map.
use Rattle.std.proofs.Common.{◌≡◌, List, [], ◌∷◌, length, refl, sym, ◌∙◌, subst, arith, rules}
use Rattle.table_rule.specs.declared.content.Version.{Version}
use Rattle.table_rule.specs.Histories.{IsOrderUpTo}
use Rattle.table_nodes.specs.Chains.{versions_of}
use Rattle.table_nodes.specs.Nodes.{at_key}
use Rattle.table_tree.specs.Rows.{between, pairs_at, rows_in}
use Rattle.table_tree.specs.Shapes.{Shape, chains_below, versions_in, with_versions}
use Rattle.table_tree.proofs.RangeRows.{range_rows}
use Rattle.table_tree.proofs.Falling.{falling_of}
use Rattle.table_tree.proofs.tree.Tree.range.Goals as goal

none_of : (l : List Version) → length l ≡ 0 → l ≡ []
none_of [] e = refl
none_of (v ∷ l) e = absurd (omega (arith, e))

-- nothing waits on this path, so that the versions are those of the chains
pub returns-clause-rows : goal.returns-clause-rows
returns-clause-rows c history h =
    let chains = chains_below c.self.inside.root in
    let none : c.self.inside.late ≡ [] = none_of c.self.inside.late (search rules) in
    let rows : c.gather_below.new.rows ≡ rows_in (pairs_at c.args.at (between (at_key c.args.family c.args.lo.now) (at_key c.args.family c.args.hi.now) chains)) = search rules in
    let over : IsOrderUpTo c.args.at (versions_of chains) history =
    subst (λ late. IsOrderUpTo c.args.at (with_versions (versions_of chains) late) history) none (subst (λ (s : Shape). IsOrderUpTo c.args.at (versions_in s) history) (sym c.self.view_is) h) in
    rows ∙ range_rows c.args.family c.args.lo.now c.args.hi.now c.args.at chains history c.self.invariant.ordered c.self.invariant.keyed over

pub gather_below-requires-clause-falling : goal.gather_below-requires-clause-falling
gather_below-requires-clause-falling c = falling_of (chains_below c.self.inside.root) c.self.invariant.ordered c.self.invariant.keyed.each
