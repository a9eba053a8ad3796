use Rattle.std.proofs.Common.{ℕ, ap, ◌∙◌, subst, refl, arith}
use Rattle.line_writers.proofs.Turns.{Turned, turned_first, turned_more, turned_all}
use Rattle.line_writers.proofs.line_writers.WriterList.rotate.Goals as goal

pub loop-i-init : goal.loop-i-init
loop-i-init g c = let o = c.requires.first in record { client = refl; table = refl; view = refl; so_far = turned_first o.0 o.1 c.args.writer.now.seat.me.1 c.args.count o.2 o.3 }

pub loop-i-preserved : goal.loop-i-preserved
loop-i-preserved g c = let v = c.loop-i.invariant in record {
  client = v.client;
  table = c.turn.ensures.0 ∙ v.table;
  view = ap (λ m. m.0) c.turn.ensures.2 ∙ v.view;
  so_far = turned_more c.args.writer.now.seat.me.1 c.loop-i.writer.seat.me.1 c.turn.new.self.me.1 c.loop-i.i c.args.count v.so_far c.loop-i-test.true (ap (λ m. m.1) c.turn.ensures.2);
}

pub returns-clause-turned : goal.returns-clause-turned
returns-clause-turned g c a b is long =
    let v = c.loop-i.invariant in let f = c.loop-i-test.false in
    turned_all c.args.writer.now.seat.me.1 c.loop-i.writer.seat.me.1 c.args.count (subst (λ (j : ℕ). Turned c.args.writer.now.seat.me.1 c.loop-i.writer.seat.me.1 j c.args.count) (let w = v.so_far.whole in let k = v.so_far.counted in omega arith) v.so_far) a b is long
