use Rattle.std.proofs.Common.{◌+◌, ◌<◌, sym, subst, arith}
use Rattle.tests_line.specs.Players.{MayWrite, HasAsked}
use Rattle.tests_line.proofs.Seating.{set_below, set_above, at_first}
use Rattle.tests_line.proofs.tests.playing.finish_all.Goals as goal

pub loop-i-init : goal.loop-i-init
loop-i-init g c = record { out = λ j d h. absurd (omega arith); asked = λ j d le lt. c.requires.asked.each j d lt }

pub loop-i-preserved : goal.loop-i-preserved
loop-i-preserved g c =
    let v = c.loop-i.invariant in let list = c.args.list.now in let ps = c.loop-i.players in let i = c.loop-i.i in
    let lt = subst (λ n. i < n) (sym c.loop-i.auto.players) c.loop-i-test.true in
    let was = at_first (λ k. HasAsked list (k + 1)) ps i v.asked lt c.index-players-i.result in
    record {
      out = set_below (λ k. MayWrite list (k + 1)) ps i _ v.out (subst (λ k. MayWrite list k c.finish.new.player) was.2 c.finish.ensures) lt;
      asked = set_above (λ k. HasAsked list (k + 1)) ps i _ v.asked;
    }
