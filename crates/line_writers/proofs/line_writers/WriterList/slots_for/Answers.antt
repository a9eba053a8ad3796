use Rattle.std.proofs.Common.{◌≡◌, ℕ, suc, ◌+◌, [], ◌∷◌, ◌++◌, replicate, sym, ap, ◌∙◌, arith}
use Rattle.line_rule.specs.declared.content.LineSlot.TheVariants.{Empty, TheLog, TheRight}
use Rattle.line_writers.proofs.Contents.{replicate_snoc}
use Rattle.line_writers.proofs.line_writers.WriterList.slots_for.Goals as goal

pub loop-made-preserved : goal.loop-made-preserved
loop-made-preserved g c =
    let v = c.loop-made.invariant in let p = c.push_reserved-in-loop-made.ensures in let k : ℕ = c.loop-made.made in
    let next : suc k ≡ k + 1 = omega arith in (
      p.items ∙ (ap (λ l. l ++ Empty ∷ []) v.0 ∙ ap (λ l. TheLog c.args.log ∷ l) (sym (replicate_snoc k Empty) ∙ ap (λ (j : ℕ). replicate j Empty) next)),
      (let a = v.1 in let b = p.len in omega arith),
      (let a = v.2 in let b = p.capacity in omega arith),
    )

pub returns-clause-ok : goal.returns-clause-ok
returns-clause-ok g c =
    let v = c.loop-made.invariant in let all : c.loop-made.made ≡ c.args.clients = (let a = c.loop-made-test.false in let b = c.loop-made.auto in omega arith) in
    c.push_reserved-2.ensures.items ∙ (ap (λ l. l ++ TheRight c.args.right ∷ []) v.0 ∙ ap (λ (j : ℕ). TheLog c.args.log ∷ (replicate j Empty ++ TheRight c.args.right ∷ [])) all)
