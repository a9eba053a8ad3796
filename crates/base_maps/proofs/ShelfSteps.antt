-- A shelf that is cut in two, and one without pages.
use Rattle.std.proofs.Common.{◌≡◌, ◌==◌, ℕ, ◌<◌, false, List, [], ◌∷◌, ◌++◌, length, take, drop, refl, sym, ap, ◌∙◌, subst, length-append, arith, Some}
use Rattle.std.proofs.lemmas.Bool.Decides.{nat_tests}
use Rattle.std.proofs.lemmas.List.{length-take-le, length-drop}
use Rattle.model_base.specs.Map.{Rows}
use Rattle.base_maps.specs.Parts.{all_in, AreFilled, AreInOrder, IsFrontOf, HasSplit}
use Rattle.base_maps.proofs.PageSteps.{front_of_part}
use Rattle.base_maps.proofs.PartSteps.{parted, some_pairs, filled_front, filled_back}
use Rattle.std.specs.List.Sorted.{IsStrictlySortedBy}

pub none_in_order : AreInOrder []
unfolding IsStrictlySortedBy
none_in_order = tt

-- pages that have pairs are none if they have no pair
pub no_pages : (parts : List Rows) → AreFilled parts → (length parts == 0) ≡ (length (all_in parts) == 0)
no_pages [] all = refl
no_pages (r ∷ parts) all = more (length (r ∷ parts)) (omega arith) ∙ sym (more (length (r ++ all_in parts)) (omega (arith, all.0, length-append r (all_in parts))))
  where
    more : (n : ℕ) → 0 < n → (n == 0) ≡ false
    more n some = grind (arith, nat_tests)

module _ (parts : List Rows) (n : ℕ) (all : AreFilled parts) (some : 0 < n) (fewer : n < length parts) where
  low_some : 0 < length (all_in (take n parts))
  low_some = some_pairs (take n parts) (filled_front n parts all) (omega (arith, some, fewer, length-take-le n parts (omega (arith, fewer))))

  high_some : 0 < length (all_in (drop n parts))
  high_some = some_pairs (drop n parts) (filled_back n parts all) (omega (arith, fewer, length-drop n parts))

  -- the first pages
  pub low_pages : (front : List ℕ) → IsFrontOf front (all_in parts) → (now : List Rows) → now ≡ take n parts → AreFilled now × IsFrontOf front (all_in now)
  low_pages front is now now_is = (
    subst AreFilled (sym now_is) (filled_front n parts all),
    subst (λ (l : List Rows). IsFrontOf front (all_in l)) (sym now_is)
        (front_of_part (all_in (take n parts)) (all_in (drop n parts)) front (subst (IsFrontOf front) (parted n parts) is) low_some),
  )

  pub pages_split : (low high : List Rows) → low ≡ take n parts → high ≡ drop n parts → HasSplit (all_in parts) (all_in low) (Some (all_in high))
  pages_split low high low_is high_is = (
    parted n parts ∙ ap (λ (l : List Rows). all_in l ++ all_in (drop n parts)) (sym low_is) ∙ ap (λ (l : List Rows). all_in low ++ all_in l) (sym high_is),
    (
      subst (λ (l : List Rows). 0 < length (all_in l)) (sym low_is) low_some,
      subst (λ (l : List Rows). 0 < length (all_in l)) (sym high_is) high_some,
    ),
  )
