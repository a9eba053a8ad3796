use Rattle.std.proofs.Common.{◌≡◌, ℕ, ◌<◌, ◌≤◌, [], ◌∷◌, ◌++◌, length, sym, ap, ◌∙◌, subst, refl, arith}
use Rattle.line_writers.proofs.Tells.{tells_first, tells_next, tells_all, member_is, member_in, tells_more, tells_end, some_by}
use Rattle.line_rule.specs.Rule.{hold}
use Rattle.line_rule.specs.declared.content.LineSlot.TheVariants.{Told}
use Rattle.line_rule.specs.declared.view.LineStage.TheVariants.{Settling}
use Rattle.line_rule.specs.Plays.{At, debt, slots_of}
use Rattle.line_rule.specs.Chain.{heads}
use Rattle.line_writers.specs.Roles.{bys}
use Rattle.line_writers.proofs.line_writers.WriterList.tell_all.Goals as goal

pub overflow_sub-i-end : goal.overflow_sub-i-end
overflow_sub-i-end g c = let o = c.requires.owed in let l = some_by (heads o.1) o.2 in let e : length c.args.members.now ≡ length (bys (heads o.1 ++ o.2 ∷ [])) = ap length o.5 in omega arith

pub loop-i-init : goal.loop-i-init
loop-i-init g c = let o = c.requires.owed in record {
  client = refl;
  table = refl;
  so_far = tells_first c.args.self.now.clients c.args.writer.now.client c.args.writer.now.seat.me c.args.members.now o.0 o.1 o.2 o.3 o.4.0 o.4.1 o.5 o.6;
}

pub complete-requires-clause-seat : goal.complete-requires-clause-seat
complete-requires-clause-seat g c =
    let v = c.loop-i.invariant.so_far in let x = tells_next c.args.self.now.clients c.args.writer.now.client c.args.writer.now.seat.me c.args.members.now c.loop-i.writer.seat.me c.loop-i.i v c.loop-i-test.true in let is = member_is c.args.self.now.clients c.args.writer.now.client c.args.writer.now.seat.me c.args.members.now c.loop-i.writer.seat.me c.loop-i.i v x.0 x.1 x.2 in let r = member_in c.args.self.now.clients c.args.writer.now.client c.args.writer.now.seat.me c.args.members.now c.loop-i.writer.seat.me c.loop-i.i v x.0 x.1 x.2 in
    (c.loop-i.invariant.table ∙ c.requires.seat, subst (λ (j : ℕ). 0 < j) (sym (is _)) r.0, subst (λ (j : ℕ). j ≤ c.args.self.now.clients) (sym (is _)) r.1)

pub complete-requires-clause-owed : goal.complete-requires-clause-owed
complete-requires-clause-owed g c =
    let v = c.loop-i.invariant.so_far in let x = tells_next c.args.self.now.clients c.args.writer.now.client c.args.writer.now.seat.me c.args.members.now c.loop-i.writer.seat.me c.loop-i.i v c.loop-i-test.true in let is = member_is c.args.self.now.clients c.args.writer.now.client c.args.writer.now.seat.me c.args.members.now c.loop-i.writer.seat.me c.loop-i.i v x.0 x.1 x.2 in let k = c.loop-i.invariant.client in
    (v.mine, x.0, x.1, v.own, v.p, (subst (λ (j : ℕ). At j (Settling (debt (x.0 ∷ x.1) v.own v.p)) v.mine c.loop-i.writer.seat.me) (sym k) (v.reads ∙ (λ i. hold c.args.writer.now.client (Settling (debt (x.2 i) v.own v.p)) v.mine ∷ [])), v.holds ∙ (λ i. slots_of (x.2 i) ((sym k i, Told v.p) ∷ []))), sym (is _))

pub loop-i-preserved : goal.loop-i-preserved
loop-i-preserved g c =
    let v = c.loop-i.invariant.so_far in let x = tells_next c.args.self.now.clients c.args.writer.now.client c.args.writer.now.seat.me c.args.members.now c.loop-i.writer.seat.me c.loop-i.i v c.loop-i-test.true in let k = c.loop-i.invariant.client in
    let at = subst (λ (j : ℕ). At j (Settling (debt (x.0 ∷ x.1) v.own v.p)) v.mine c.loop-i.writer.seat.me) (sym k) (v.reads ∙ (λ i. hold c.args.writer.now.client (Settling (debt (x.2 i) v.own v.p)) v.mine ∷ [])) in
    let slot = v.holds ∙ (λ i. slots_of (x.2 i) ((sym k i, Told v.p) ∷ [])) in
    let t = subst (λ (j : ℕ). At j (Settling (debt x.1 v.own v.p)) v.mine c.complete.new.writer.seat.me × (c.complete.new.writer.seat.me.1 ≡ slots_of x.1 ((j, Told v.p) ∷ []))) k (c.complete.ensures.told v.mine x.0 x.1 v.own v.p (at, slot)) in
    record {
      client = c.complete.ensures.seat.1 ∙ k;
      table = c.complete.ensures.seat.0 ∙ c.loop-i.invariant.table;
      so_far = tells_more c.args.self.now.clients c.args.writer.now.client c.args.writer.now.seat.me c.args.members.now c.loop-i.writer.seat.me c.loop-i.i v x.0 x.1 x.2 c.complete.new.writer.seat.me t.0 t.1;
    }

pub returns-clause-told : goal.returns-clause-told
returns-clause-told g c mine gs own p owes =
    let v = c.loop-i.invariant.so_far in
    tells_end c.args.self.now.clients c.args.writer.now.client c.args.writer.now.seat.me c.args.members.now c.loop-i.writer.seat.me c.loop-i.i v (tells_all c.args.self.now.clients c.args.writer.now.client c.args.writer.now.seat.me c.args.members.now c.loop-i.writer.seat.me c.loop-i.i v (λ lt. let f = c.loop-i-test.false in absurd (omega arith))) mine gs own p owes.0
