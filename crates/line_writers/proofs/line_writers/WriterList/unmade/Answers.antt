use Rattle.std.proofs.Common.{◌≡◌, ℕ, suc, ◌+◌, ◌-◌, ◌<◌, List, [], ◌∷◌, length, replicate, sym, ap, ◌∙◌, arith}
use Rattle.line_rule.specs.declared.content.LineSlot.TheVariants.{Empty, TheLog, TheRight}
use Rattle.line_writers.proofs.Contents.{snoc_same, replicate_snoc, one_log, one_right, one_start}
use Rattle.line_writers.proofs.line_writers.WriterList.unmade.Goals as goal

some_first : {A : Type 0} (l : List A) (x : A) (xs : List A) → l ≡ x ∷ xs → length l ≡ 0 → ⊥
some_first l x xs is none = omega (arith, ap length is, none)

pub unreachable-requires : goal.unreachable-requires
unreachable-requires g c = some_first c.args.slots.items _ _ c.requires.slots.2 (sym c.args.slots.ok.0 ∙ c.in_default.ensures.cases.0)

pub right_of-right-requires : goal.right_of-right-requires
right_of-right-requires g c =
    let o = c.requires.slots in let x = snoc_same (TheLog o.0 ∷ replicate c.args.clients Empty) c.pop.new.self.items (TheRight o.1) c.in-Some.last (sym o.2 ∙ c.in-Some.ensures.items) in
    (o.1, sym x.1)

pub loop-done-init : goal.loop-done-init
loop-done-init g c =
    let o = c.requires.slots in let x = snoc_same (TheLog o.0 ∷ replicate c.args.clients Empty) c.pop.new.self.items (TheRight o.1) c.in-Some.last (sym o.2 ∙ c.in-Some.ensures.items) in
    (o.0, o.1, o.2, sym x.0 ∙ ap (λ (k : ℕ). TheLog o.0 ∷ replicate k Empty) (let h : c.args.clients ≡ c.args.clients - 0 = omega arith in h))

pub unreachable-requires-in_default-pop : goal.unreachable-requires-in_default-pop
unreachable-requires-in_default-pop g c = some_first c.loop-done.slots.items _ _ c.loop-done.invariant.3 (sym c.loop-done.slots.ok.0 ∙ c.in_default-pop.ensures.cases.0)

pub nothing_of-requires : goal.nothing_of-requires
nothing_of-requires g c =
    let v = c.loop-done.invariant in let t : c.loop-done.done < c.args.clients = c.loop-done-test.true in let k : ℕ = c.args.clients - (c.loop-done.done + 1) in
    let is : c.args.clients - c.loop-done.done ≡ suc k = omega arith in
    let x = snoc_same (TheLog v.0 ∷ replicate k Empty) c.pop-in-loop-done.new.self.items Empty c.in-Some-pop.slot (sym (v.3 ∙ ap (λ (j : ℕ). TheLog v.0 ∷ replicate j Empty) is ∙ ap (λ l. TheLog v.0 ∷ l) (replicate_snoc k Empty)) ∙ c.in-Some-pop.ensures.items) in
    sym x.1

pub loop-done-preserved : goal.loop-done-preserved
loop-done-preserved g c =
    let v = c.loop-done.invariant in let t : c.loop-done.done < c.args.clients = c.loop-done-test.true in let k : ℕ = c.args.clients - (c.loop-done.done + 1) in
    let is : c.args.clients - c.loop-done.done ≡ suc k = omega arith in
    let x = snoc_same (TheLog v.0 ∷ replicate k Empty) c.pop-in-loop-done.new.self.items Empty c.in-Some-pop.slot (sym (v.3 ∙ ap (λ (j : ℕ). TheLog v.0 ∷ replicate j Empty) is ∙ ap (λ l. TheLog v.0 ∷ l) (replicate_snoc k Empty)) ∙ c.in-Some-pop.ensures.items) in
    (v.0, v.1, v.2, sym x.0)

pub loop-done-smaller : goal.loop-done-smaller
loop-done-smaller g c = let t : c.loop-done.done < c.args.clients = c.loop-done-test.true in omega arith

pub unreachable-requires-in_default-pop-2 : goal.unreachable-requires-in_default-pop-2
unreachable-requires-in_default-pop-2 g c = some_first c.loop-done.slots.items _ _ c.loop-done.invariant.3 (sym c.loop-done.slots.ok.0 ∙ c.in_default-pop-2.ensures.cases.0)

pub log_of-log-requires : goal.log_of-log-requires
log_of-log-requires g c =
    let v = c.loop-done.invariant in let t = c.loop-done-test.false in let none : c.args.clients - c.loop-done.done ≡ 0 = omega arith in
    let x = snoc_same [] c.pop-2.new.self.items (TheLog v.0) c.in-Some-pop-2.first (sym (v.3 ∙ ap (λ (j : ℕ). TheLog v.0 ∷ replicate j Empty) none) ∙ c.in-Some-pop-2.ensures.items) in
    (v.0, sym x.1)

pub destroy_empty-requires : goal.destroy_empty-requires
destroy_empty-requires g c =
    let v = c.loop-done.invariant in let t = c.loop-done-test.false in let none : c.args.clients - c.loop-done.done ≡ 0 = omega arith in
    let x = snoc_same [] c.pop-2.new.self.items (TheLog v.0) c.in-Some-pop-2.first (sym (v.3 ∙ ap (λ (j : ℕ). TheLog v.0 ∷ replicate j Empty) none) ∙ c.in-Some-pop-2.ensures.items) in
    c.pop-2.new.self.ok.0 ∙ ap length (sym x.0)

pub returns : goal.returns
returns g c l m start =
    let o = c.requires.slots in let first = snoc_same (TheLog o.0 ∷ replicate c.args.clients Empty) c.pop.new.self.items (TheRight o.1) c.in-Some.last (sym o.2 ∙ c.in-Some.ensures.items) in
    let v = c.loop-done.invariant in let t = c.loop-done-test.false in
    let none : c.args.clients - c.loop-done.done ≡ 0 = omega arith in
    let x = snoc_same [] c.pop-2.new.self.items (TheLog v.0) c.in-Some-pop-2.first (sym (v.3 ∙ ap (λ (j : ℕ). TheLog v.0 ∷ replicate j Empty) none) ∙ c.in-Some-pop-2.ensures.items) in
    let a = one_start c.args.clients v.0 l v.1 m (sym v.2 ∙ start) in let b = one_start c.args.clients o.0 l o.1 m (sym o.2 ∙ start) in
    (sym (one_log v.0 c.log_of-log.result (x.1 ∙ c.log_of-log.ensures)) ∙ a.0, sym (one_right o.1 c.right_of-right.result (first.1 ∙ c.right_of-right.ensures)) ∙ b.1)
