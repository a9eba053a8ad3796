use Rattle.std.proofs.Common.{ℕ, ◌<◌, List, sym, ◌∙◌, ap, subst}
use Rattle.model_base.specs.Map.{Rows, greatest_family}
use Rattle.base_maps.specs.Families.{pairs_of}
use Rattle.base_maps.proofs.Families.{greatest_behind, greatest_behind_first, greatest_with}
use Rattle.base_maps.proofs.family_trees.FamilyTrees.greatest_family.Goals as goal

pub loop-family-init : goal.loop-family-init
loop-family-init c =
    ap (λ (es : List (ℕ × Rows)). greatest_behind 0 (pairs_of es)) (c.into_iter-family-iterator.ensures.into_iter_gives ∙ c.iter-family-items.ensures.rest)
    ∙ sym (greatest_behind_first c.self.inside.first c.self.inside.others.entries) ∙ ap greatest_family c.self.view_is

pub loop-family-preserved-then-len-gt0 : goal.loop-family-preserved-then-len-gt0
loop-family-preserved-then-len-gt0 c =
    ap (λ (n : ℕ). greatest_behind n (pairs_of c.next.new.self)) c.max-greatest.ensures
    ∙ sym (greatest_with c.loop-family.greatest c.in-Some.family.now c.in-Some.map.now c.next.new.self
    (subst (λ (n : ℕ). 0 < n) c.len.ensures c.if-len-gt0.true))
    ∙ ap (λ (es : List (ℕ × Rows)). greatest_behind c.loop-family.greatest (pairs_of es)) (sym c.in-Some.ensures.steps)
    ∙ c.loop-family.invariant
