use Rattle.std.proofs.Common.{[], ◌∷◌, ◌++◌, replicate, ap, ◌∙◌, append_assoc}
use lib.ListN.{replicate-append-replicate}
use Rattle.table_rule.specs.declared.content.Content.TheVariants.{Blank}
use Rattle.table_steps.proofs.opening.add_blanks.Goals as goal

pub loop-added-preserved : goal.loop-added-preserved
loop-added-preserved g c =
    let before = c.args.slots.now.items in let k = c.loop-added.added in
    c.in_ok-push.ensures.items ∙ (ap (λ l. l ++ Blank ∷ []) c.loop-added.invariant ∙ (append_assoc before (replicate k Blank) (Blank ∷ []) ∙ ap (λ l. before ++ l) (replicate-append-replicate k 1 Blank)))
