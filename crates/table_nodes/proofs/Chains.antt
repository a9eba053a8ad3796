-- Lists that are reversed.
use Rattle.std.proofs.Common.{◌≡◌, List, [], ◌∷◌, ◌++◌, reverse, ap, ◌∙◌, append_assoc}
use Rattle.std.proofs.lemmas.List.{reverse-append}

module _ {X : Type 0} where
  -- the first element goes over to the list that follows
  pub turned_more : (v : X) (rest out : List X) → reverse (v ∷ rest) ++ out ≡ reverse rest ++ v ∷ out
  turned_more v rest out = ap (λ (l : List X). l ++ out) (reverse-append (v ∷ []) rest) ∙ append_assoc (reverse rest) (v ∷ []) out
