-- A key that isn't among the entries of a leaf has no chain there.
use Rattle.std.proofs.Common.{◌≡◌, ℕ, ◌≤◌, List, [], ◌∷◌, length, take, drop, None, refl, sym, ap, ◌∙◌, arith}
use Rattle.std.proofs.lemmas.List.{take-append-drop}
use Rattle.model_base.specs.declared.key.Key.{Key}
use Rattle.table_nodes.specs.Chains.{Chain}
use Rattle.table_tree.specs.Pages.{Branch, woven, AreBelow}
use Rattle.table_tree.specs.Places.{IsPlace}
use Rattle.table_tree.specs.Newest.{chain_at}
use Rattle.table_tree.proofs.Searching.{skipped, none}

-- where there is no page at the place, the page is a leaf
pub leaf_absent : (key : Key) (entries : List Chain) (below : List Branch) (at : ℕ) → IsPlace key entries at → AreBelow (length entries) below → length below ≤ at
    → chain_at key (woven below entries) ≡ None
leaf_absent key entries [] at place levels past =
    ap (chain_at key) (sym (take-append-drop at entries)) ∙ skipped key (take at entries) (drop at entries) place.under ∙ none key (drop at entries) place.over
leaf_absent key entries (b ∷ below) at place levels past = absurd (let n = levels.0 in let w = place.within in omega (arith, n, w, past))

-- where there is no page at a place, there is none at all
pub none_below : (n : ℕ) (below : List Branch) (at : ℕ) → AreBelow n below → at ≤ n → length below ≤ at → below ≡ []
none_below n [] at levels within past = refl
none_below n (b ∷ below) at levels within past = absurd (let m = levels.0 in omega (arith, m, within, past))
