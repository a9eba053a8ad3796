use Rattle.std.proofs.Common.{◌∷◌, [], length, sym, ap, ◌∙◌, subst, ⊎_elim, arith, length-append}
use Rattle.table_rule.specs.Histories.{In}
use Rattle.table_rule.proofs.Histories.{in_split}
use Rattle.table_memory.proofs.opening.empty_trees.Goals as goal

pub loop-made-preserved : goal.loop-made-preserved
loop-made-preserved c =
    let made = c.loop-made.invariant in
    let items = c.in_ok-push.ensures.items in (
      (let l = ap length items ∙ length-append c.loop-made.trees.items (c.new.result ∷ []) in let n = made.0 in omega arith),
      λ tree h. ⊎_elim (λ old. made.1 tree old)
          (λ new. ⊎_elim (λ e. sym e ∙ c.new.ensures) (λ (none : ⊥). absurd none) new)
          (in_split tree c.loop-made.trees.items (c.new.result ∷ []) (subst (In tree) items h)),
    )
