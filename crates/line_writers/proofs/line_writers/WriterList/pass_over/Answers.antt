use Rattle.std.proofs.Common.{◌≡◌, ℕ, ◌+◌, ◌≤◌, true, false, ◌++◌, length, sym, ap, ◌∙◌, subst, refl, arith, length-append, ◌∷◌, []}
use Rattle.model_base.specs.declared.group.Item.{Item}
use Rattle.line_rule.specs.Events.{is_hasty}
use Rattle.line_writers.proofs.Skips.{next, codes_left, ends_before, is_code, skips_more}
use Rattle.line_writers.proofs.line_writers.WriterList.pass_over.Goals as goal

pub returns-then-item_of-clause-some : goal.returns-then-item_of-clause-some
returns-then-item_of-clause-some g c newer rest lists ends =
    let n : ℕ = c.args.self.now.clients in let room = c.loop-step.room in let v = c.loop-step.invariant.so_far newer rest lists ends in
    let l = c.pop.new.self.items in let y : ℕ × ℕ = (c.in-Some.client, c.in-Some.code) in let popped = c.in-Some.ensures.items in
    let t = next n newer rest room v l y popped in
    let hasty : is_hasty c.in-Some.code ≡ true = sym (ap (λ (x : Item). x.options.no_slowdown) c.item_of.ensures) ∙ c.if-item_of.true in (
      v.slow,
      t.0,
      t.1,
      v.parts ∙ ap (λ z. v.slow ++ z) t.2,
      v.none_hasty,
      sym (is_code n newer rest room v l y popped) ∙ hasty,
      sym (ap (λ (z : ℕ × ℕ). z.0) t.4),
      (t.3, codes_left n newer rest room v l y popped, subst (λ (j : ℕ). n ≤ j) (sym c.pop.ensures.capacity) v.lists.2, v.lists.3, v.lists.4, v.lists.5),
      ends_before n newer rest room v l y popped,
    )

pub loop-step-preserved : goal.loop-step-preserved
loop-step-preserved g c =
    let n : ℕ = c.args.self.now.clients in let room = c.loop-step.room in
    let l = c.pop.new.self.items in let y : ℕ × ℕ = (c.in-Some.client, c.in-Some.code) in let popped = c.in-Some.ensures.items in
    let slow : is_hasty c.in-Some.code ≡ false = sym (ap (λ (x : Item). x.options.no_slowdown) c.item_of.ensures) ∙ c.if-item_of.false in record {
      count = (let long : length room.walk.items ≡ length l + 1 = ap length popped ∙ length-append l (y ∷ []) in let e = c.loop-step.invariant.count in omega (arith, long));
      newest = c.loop-step.invariant.newest;
      so_far = λ newer rest lists ends.
          let v = c.loop-step.invariant.so_far newer rest lists ends in let t = next n newer rest room v l y popped in
          skips_more n newer rest room v l y popped slow _ (t.3, codes_left n newer rest room v l y popped, subst (λ (j : ℕ). n ≤ j) (sym c.pop.ensures.capacity) v.lists.2, v.lists.3, v.lists.4, v.lists.5) refl;
    }
