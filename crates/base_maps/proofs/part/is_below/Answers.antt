-- If the fronts differ, they decide.
use Rattle.std.proofs.Common.{sym, ap, ◌∙◌}
use Rattle.std.specs.Ordering.{is_lt}
use Rattle.base_maps.proofs.PartSteps.{by_fronts, less_differs, greater_differs}
use Rattle.base_maps.proofs.part.is_below.Goals as goal

pub returns-in-Less : goal.returns-in-Less
returns-in-Less g c = λ k first.
    ap is_lt (sym c.in-Less.is ∙ by_fronts c.args.key.now k c.args.front c.front.result (g.P.Part.rows c.args.part.now) c.order.result
    c.requires.front c.front.ensures first c.order.ensures (less_differs c.order.result c.in-Less.is))

pub returns-in-Greater : goal.returns-in-Greater
returns-in-Greater g c = λ k first.
    ap is_lt (sym c.in-Greater.is ∙ by_fronts c.args.key.now k c.args.front c.front.result (g.P.Part.rows c.args.part.now) c.order.result
    c.requires.front c.front.ensures first c.order.ensures (greater_differs c.order.result c.in-Greater.is))
