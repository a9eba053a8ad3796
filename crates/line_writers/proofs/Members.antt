-- Each client that gets a reply after the leader is another member of its group.
use Rattle.std.proofs.Common.{◌≡◌, ℕ, ◌<◌, inl, inr, List, [], ◌∷◌, length, get_or, refl, sym, ap, subst, arith, length-append}
use Rattle.std.proofs.lemmas.List.{get_or_append_left, get_or_push}
use Rattle.std.proofs.lemmas.Bool.{cases_lt}
use Rattle.line_rule.specs.declared.view.QueuedWriter.{QueuedWriter}
use Rattle.line_rule.specs.Chain.{heads, Within}
use Rattle.line_rule.specs.Members.{pays}
use Rattle.line_writers.specs.Roles.{IsMember}

module _ {Request Reply : Type 0} (n : ℕ) (own : QueuedWriter Request) (p : Reply) where
  one_more : (g : QueuedWriter Request × Reply) (gs : List (QueuedWriter Request × Reply)) (k : ℕ) → IsMember n k gs → IsMember n k (g ∷ gs)
  one_more g gs k m = (g ∷ m.0, m.1, m.2, ap (λ l. g ∷ l) m.3, m.4, m.5, m.6)

  pub member_by_place : (gs : List (QueuedWriter Request × Reply)) (i : ℕ) (d : ℕ × Reply) → Within n (heads gs) → 0 < i → i < length (pays own p gs) → IsMember n (get_or (pays own p gs) i d).0 gs
  member_by_place [] i d within lo small = absurd (omega arith)
  member_by_place (g ∷ gs) i d within lo small = elim (cases_lt i (length (pays own p gs))) [
    | inl less ↦ subst (λ (x : ℕ × Reply). IsMember n x.0 (g ∷ gs)) (sym (get_or_append_left (pays own p gs) ((g.0.by, g.1) ∷ []) d i less)) (one_more g gs _ (member_by_place gs i d within.2 lo less))
    | inr ge ↦ (let is : length (pays own p gs) ≡ i = omega (arith, small, length-append (pays own p gs) ((g.0.by, g.1) ∷ [])) in
        subst (λ (x : ℕ × Reply). IsMember n x.0 (g ∷ gs)) (sym (get_or_push (pays own p gs) (g.0.by, g.1) d i is)) ([], g, gs, refl, refl, within.0, within.1))
  ]
