-- Versions that get sequences, from the last one on.
use Rattle.std.proofs.Common.{◌≡◌, ℕ, ◌+◌, List, [], ◌∷◌, ◌++◌, length, reverse, sym, ap, ◌∙◌, arith, append_assoc}
use Rattle.std.proofs.lemmas.List.{reverse-append, length-reverse}
use Rattle.table_rule.specs.declared.content.Version.{Version}
use Rattle.table_nodes.specs.Batches.{number_from}

-- one more version after them
number_behind : (first : ℕ) (vs : List Version) (v : Version) → number_from first (vs ++ v ∷ []) ≡ number_from first vs ++ record v { sequence = first + length vs } ∷ []
number_behind first [] v = ap (λ n. record v { sequence = n } ∷ []) (omega arith)
number_behind first (w ∷ vs) v =
    ap (λ l. record w { sequence = first } ∷ l)
    (number_behind (first + 1) vs v ∙ ap (λ n. number_from (first + 1) vs ++ record v { sequence = n } ∷ []) (omega arith))

-- the last of those that are left becomes the first of those that have sequences
pub numbered_more : (first : ℕ) (v : Version) (rest numbered : List Version)
    → number_from first (reverse rest) ++ record v { sequence = first + length rest } ∷ numbered ≡ number_from first (reverse (v ∷ rest)) ++ numbered
numbered_more first v rest numbered =
    let turned = reverse rest in
    let last : number_from first turned ++ record v { sequence = first + length rest } ∷ [] ≡ number_from first (reverse (v ∷ rest)) =
    ap (λ n. number_from first turned ++ record v { sequence = first + n } ∷ []) (sym (length-reverse rest)) ∙ sym (number_behind first turned v) ∙ ap (number_from first) (sym (reverse-append (v ∷ []) rest)) in
    sym (append_assoc (number_from first turned) (record v { sequence = first + length rest } ∷ []) numbered) ∙ ap (λ l. l ++ numbered) last
