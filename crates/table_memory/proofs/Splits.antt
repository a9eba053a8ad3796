-- The rows of the shards together are all rows, in another order.
use Rattle.std.proofs.Common.{◌≡◌, ℕ, ◌+◌, ◌<◌, Bool, true, false, ◌==◌, nat_lt, cond, List, [], ◌∷◌, ◌++◌, filter, refl, sym, ap, ◌∙◌, subst, arith, mod-lt}
use Rattle.std.specs.List.Sorted.{IsPermutation}
use Rattle.std.proofs.lemmas.List.Sorted.{IsPermutation-refl, IsPermutation-cons, IsPermutation-sym, IsPermutation-trans, IsPermutation-middle, IsPermutation-append_left}
use Rattle.std.proofs.lemmas.Bool.Decides.{nat_tests}
use Rattle.model_base.specs.Checksum.{crc32c}
use Rattle.model_base.specs.Map.{Rows}
use Rattle.table_rule.specs.Histories.{shard_bytes, shard_of_key}
use Rattle.table_tree.specs.Rows.{at_key}

-- the third is true just where one of the first two is, and these exclude each other
pub data Either : Bool → Bool → Bool → Type 0 where
  by_first : Either true false true
  by_second : Either false true true
  by_none : Either false false false

module _ {A : Type 0} where
  pub all_kept : (p : A → Bool) (xs : List A) → ((x : A) → p x ≡ true) → filter p xs ≡ xs
  all_kept p [] passes = refl
  all_kept p (x ∷ xs) passes = ap (λ b. cond b (x ∷ filter p xs) (filter p xs)) (passes x) ∙ ap (λ (l : List A). x ∷ l) (all_kept p xs passes)

  pub none_kept : (p : A → Bool) (xs : List A) → ((x : A) → p x ≡ false) → filter p xs ≡ []
  none_kept p [] fails = refl
  none_kept p (x ∷ xs) fails = ap (λ b. cond b (x ∷ filter p xs) (filter p xs)) (fails x) ∙ none_kept p xs fails

  module _ (p q r : A → Bool) (either : (x : A) → Either (p x) (q x) (r x)) where
    pub split : (xs : List A) → IsPermutation (filter r xs) (filter p xs ++ filter q xs)
    split [] = IsPermutation-refl []
    split (x ∷ xs) = go (p x) (q x) (r x) (either x) (split xs)
      where
        go : (b c d : Bool) → Either b c d → IsPermutation (filter r xs) (filter p xs ++ filter q xs)
            → IsPermutation (cond d (x ∷ filter r xs) (filter r xs)) (cond b (x ∷ filter p xs) (filter p xs) ++ cond c (x ∷ filter q xs) (filter q xs))
        go true false true by_first h = IsPermutation-cons x (filter r xs) (filter p xs ++ filter q xs) h
        go false true true by_second h = IsPermutation-trans (x ∷ filter r xs) (x ∷ (filter p xs ++ filter q xs)) (filter p xs ++ x ∷ filter q xs)
            (IsPermutation-cons x (filter r xs) (filter p xs ++ filter q xs) h) (IsPermutation-sym (filter p xs ++ x ∷ filter q xs) (x ∷ (filter p xs ++ filter q xs)) (IsPermutation-middle (filter p xs) x (filter q xs)))
        go false false false by_none h = h
        go false false true e h = elim e [ ]
        go false true false e h = elim e [ ]
        go true false false e h = elim e [ ]
        go true true d e h = elim e [ ]

below_zero : (n : ℕ) → nat_lt n 0 ≡ false
below_zero n = grind (arith, nat_tests)

-- a number below j + 1 is below j, or it is j
pub below_more : (n j : ℕ) → Either (nat_lt n j) (n == j) (nat_lt n (j + 1))
below_more n j = go (nat_lt n j) (n == j) (nat_lt n (j + 1)) refl refl refl
  where
    go : (b c d : Bool) → nat_lt n j ≡ b → (n == j) ≡ c → nat_lt n (j + 1) ≡ d → Either b c d
    go true false true e f g = by_first
    go false true true e f g = by_second
    go false false false e f g = by_none
    go true true true e f g = absurd (grind (arith, nat_tests))
    go true true false e f g = absurd (grind (arith, nat_tests))
    go true false false e f g = absurd (grind (arith, nat_tests))
    go false true false e f g = absurd (grind (arith, nat_tests))
    go false false true e f g = absurd (grind (arith, nat_tests))

-- The rows of a family in the first j shards

abbrev pub rows_below : ℕ → ℕ → ℕ → Rows → Rows
rows_below k family j rows = filter (λ e. nat_lt (shard_of_key k (at_key family e.0)) j) rows

pub no_rows : (k family : ℕ) (rows found : Rows) → found ≡ [] → IsPermutation (rows_below k family 0 rows) found
no_rows k family rows found none =
    subst (IsPermutation (rows_below k family 0 rows)) (none_kept (λ (e : List ℕ × List ℕ). nat_lt (shard_of_key k (at_key family e.0)) 0) rows (λ e. below_zero (shard_of_key k (at_key family e.0))) ∙ sym none)
    (IsPermutation-refl (rows_below k family 0 rows))

pub more_rows : (k family j : ℕ) (rows found more after : Rows) → IsPermutation (rows_below k family j rows) found → more ≡ filter (λ e. shard_of_key k (at_key family e.0) == j) rows → after ≡ found ++ more
    → IsPermutation (rows_below k family (j + 1) rows) after
more_rows k family j rows found more after so_far more_is after_is =
    let shard : List ℕ × List ℕ → ℕ = λ e. shard_of_key k (at_key family e.0) in
    let here : Rows = filter (λ (e : List ℕ × List ℕ). shard e == j) rows in
    let both = IsPermutation-append_left here (rows_below k family j rows) found so_far in
    subst (IsPermutation (rows_below k family (j + 1) rows)) (ap (λ (l : Rows). found ++ l) (sym more_is) ∙ sym after_is)
    (IsPermutation-trans (rows_below k family (j + 1) rows) (rows_below k family j rows ++ here) (found ++ here)
    (split (λ (e : List ℕ × List ℕ). nat_lt (shard e) j) (λ e. shard e == j) (λ e. nat_lt (shard e) (j + 1)) (λ e. below_more (shard e) j) rows) both)

pub all_rows : (k family j : ℕ) (rows : Rows) → 0 < k → j ≡ k → rows_below k family j rows ≡ rows
all_rows k family j rows some is =
    all_kept (λ (e : List ℕ × List ℕ). nat_lt (shard_of_key k (at_key family e.0)) j) rows
    (λ e. let low : shard_of_key k (at_key family e.0) < k = mod-lt (crc32c (shard_bytes (at_key family e.0))) some in grind (arith, nat_tests))
