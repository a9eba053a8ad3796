-- When bytes are those of pairs. They are those of at most one list of pairs.
use Rattle.std.proofs.Common.{◌≡◌, ℕ, List, [], ◌∷◌, ◌++◌, refl, sym, ap, ◌∙◌}
use Rattle.std.specs.Prelude.{Some, None}
use Rattle.std.specs.List.{AllByRecursion, AllByRecursion-prop}
use Rattle.std.specs.Coded.{le_prop, Coded-set, coded_ℕ, coded_list}
use mathlib.Core.HLevel.{is_prop→PathP}
use Rattle.model_base.specs.Map.{Rows}
use Rattle.base_maps.specs.Words.{bytes_of_pair, bytes_of_pairs, IsShort, Read, read_len, read_word, read_pair, pair_back}

-- The bytes are those of some pairs. No other pairs have these bytes.
pub record IsPage (bytes : List ℕ) : Type 0 where
  pub rows : Rows
  pub short : AllByRecursion IsShort rows
  pub spelled : bytes ≡ bytes_of_pairs rows

-- where two reads give the same, they read the same thing and leave the same bytes after it
pub one_read : {A : Type 0} (p q : A × List ℕ) → Some p ≡ Some q → (p.0 ≡ q.0) × (p.1 ≡ q.1)
one_read {A} p q same = (ap (λ (r : A × List ℕ). r.0) pairs, ap (λ (r : A × List ℕ). r.1) pairs) where
  pairs : p ≡ q
  pairs = cc

no_bytes : (p : List ℕ × List ℕ) (x : List ℕ) → IsShort p → [] ≡ bytes_of_pair p ++ x → ⊥
unfolding read_pair read_word read_len
no_bytes p x short same = absurd (nothing (ap read_pair same ∙ pair_back p x short)) where
  nothing : ◌≡◌ {A = Read (List ℕ × List ℕ)} None (Some (p, x)) → ⊥
  nothing e = cc

pub one_page : (a b : Rows) → AllByRecursion IsShort a → AllByRecursion IsShort b → bytes_of_pairs a ≡ bytes_of_pairs b
    → a ≡ b
one_page [] [] short_a short_b same = refl
one_page [] (q ∷ b) short_a short_b same = absurd (no_bytes q (bytes_of_pairs b) short_b.0 same)
one_page (p ∷ a) [] short_a short_b same = absurd (no_bytes p (bytes_of_pairs a) short_a.0 (sym same))
one_page (p ∷ a) (q ∷ b) short_a short_b same =
    let first = one_read {A = List ℕ × List ℕ} (p, bytes_of_pairs a) (q, bytes_of_pairs b)
    (sym (pair_back p (bytes_of_pairs a) short_a.0) ∙ ap read_pair same ∙ pair_back q (bytes_of_pairs b) short_b.0) in
    let rest = one_page a b short_a.1 short_b.1 first.1 in
    ap (λ (r : List ℕ × List ℕ). r ∷ a) first.0 ∙ ap (λ (l : Rows). q ∷ l) rest

IsShort-prop : (p : List ℕ × List ℕ) → IsProp (IsShort p)
IsShort-prop p x y = λ i. (le_prop x.0 y.0 i, le_prop x.1 y.1 i)

pub same_rows : (bytes : List ℕ) (x y : IsPage bytes) → x.rows ≡ y.rows
same_rows bytes x y = one_page x.rows y.rows x.short y.short (sym x.spelled ∙ y.spelled)

pub IsPage-prop : (bytes : List ℕ) → IsProp (IsPage bytes)
IsPage-prop bytes x y = λ i. record {
  rows = same_rows bytes x y i;
  short = is_prop→PathP (λ j. AllByRecursion IsShort (same_rows bytes x y j))
      (λ j. AllByRecursion-prop IsShort IsShort-prop (same_rows bytes x y j)) x.short y.short i;
  spelled = is_prop→PathP (λ j. bytes ≡ bytes_of_pairs (same_rows bytes x y j))
      (λ j. Coded-set (coded_list coded_ℕ) bytes (bytes_of_pairs (same_rows bytes x y j))) x.spelled y.spelled i;
}
