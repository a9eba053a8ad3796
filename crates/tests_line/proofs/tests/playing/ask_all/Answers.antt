use Rattle.std.proofs.Common.{◌+◌, ◌<◌, sym, ◌∙◌, subst}
use Rattle.tests_line.specs.Players.{MayWrite, HasAsked}
use Rattle.tests_line.proofs.Seating.{set_below, set_above, at_first, below_end}
use Rattle.tests_line.proofs.tests.playing.ask_all.Goals as goal

pub loop-i-preserved : goal.loop-i-preserved
loop-i-preserved g c =
    let v = c.loop-i.invariant in let list = c.args.list.now in let ps = c.loop-i.players in let i = c.loop-i.i in
    let lt = subst (λ n. i < n) (sym c.loop-i.auto.players) c.loop-i-test.true in
    let was = at_first (λ k. MayWrite list (k + 1)) ps i v.out lt c.index-players-i.result in
    let l = c.ask.ensures.linked in
    record {
      asked = set_below (λ k. HasAsked list (k + 1)) ps i _ v.asked (l.0, l.1, l.2 ∙ was.0.2, was.1) lt;
      out = set_above (λ k. MayWrite list (k + 1)) ps i _ v.out;
    }

pub returns : goal.returns
returns g c = (
  record { each = λ i d h. c.loop-i.invariant.asked i d (below_end i _ _ _ h c.loop-i.auto.players c.loop-i-test.false) },
  c.loop-i.auto.players,
)
