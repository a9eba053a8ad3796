use Rattle.std.proofs.Common.{◌≡◌, ℕ, ◌+◌, ◌-◌, ◌<◌, [], ◌∷◌, length, sym, ap, ◌∙◌, subst, refl, arith}
use Rattle.line_rule.specs.Rule.{newcomers, hold}
use Rattle.line_rule.specs.declared.view.LineStage.TheVariants.{Idle}
use Rattle.line_writers.specs.Roles.{AreNew}
use Rattle.line_rule.proofs.Opens.{splits_first, left_is}
use Rattle.line_writers.proofs.News.{new_snoc, length_snoc}
use Rattle.line_writers.proofs.line_writers.WriterList.seat_all.Goals as goal

pub loop-made-init : goal.loop-made-init
loop-made-init g c = let n : ℕ = c.args.self.now.clients in
    record {
      table = c.requires.seat.0;
      left = c.requires.seat.1 ∙ ap (λ k. (newcomers k, [])) (let h : n ≡ n - 0 = omega arith in h);
      len = c.requires.room.0;
      count = ap length c.requires.room.1;
      room = refl;
      new = subst (AreNew c.args.self.now.table.shared.table_id n) (sym c.requires.room.1) tt;
    }

pub split_seat-seat-requires : goal.split_seat-seat-requires
split_seat-seat-requires g c =
    let v = c.loop-made.invariant in let n : ℕ = c.args.self.now.clients in let z = c.args.self.now.sized in let t : c.loop-made.made < n = c.loop-made-test.true in
    (v.table, omega arith, splits_first _ _ _ (n - c.loop-made.made) c.loop-made.first.me.0 (omega arith) (ap (λ m. m.0) v.left))

pub push_reserved-requires : goal.push_reserved-requires
push_reserved-requires g c = let v = c.loop-made.invariant in let a = v.len in let b = v.room in let d = c.requires.room.2 in omega arith

pub loop-made-preserved : goal.loop-made-preserved
loop-made-preserved g c =
    let v = c.loop-made.invariant in let n : ℕ = c.args.self.now.clients in let k : ℕ = n - c.loop-made.made in let t : c.loop-made.made < n = c.loop-made-test.true in let table = c.args.self.now.table.shared.table_id in
    let is = left_is k c.loop-made.first.me.0 (omega arith) (ap (λ m. m.0) v.left) in let e = c.split_seat-seat.ensures in let p = c.push_reserved.ensures in
    let left = e.2 ∙ (λ i. (is.0 i, (ap (λ m. m.1) v.left) i)) in
    record {
      table = e.0 ∙ v.table;
      left = left ∙ ap (λ j. (newcomers j, [])) (let h : k - 1 ≡ n - (c.loop-made.made + 1) = omega arith in h);
      len = (let a = v.len in let b = p.len in omega arith);
      count = length_snoc c.loop-made.writers.items c.push_reserved.new.self.items _ c.loop-made.made p.items v.count;
      room = p.capacity ∙ v.room;
      new = subst (AreNew table n) (sym p.items) (new_snoc table n c.loop-made.writers.items _ v.new (ap (λ (j : ℕ). n - j) (sym v.count), refl, e.3 ∙ v.table, e.4 ∙ (λ i. (is.1 i, [])) ∙ ap (λ (j : ℕ). (hold (n - j) Idle [] ∷ [], [])) (sym v.count)));
    }

pub returns : goal.returns
returns g c = let v = c.loop-made.invariant in let a = c.loop-made-test.false in let b = c.loop-made.auto in let d = v.len in (omega arith, v.new)
