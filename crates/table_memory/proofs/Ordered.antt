-- Rows in any order, once they are sorted by their keys, are the rows in byte order.
use Rattle.std.proofs.Common.{◌≡◌, ℕ, ◌+◌, ◌<◌, Bool, List, [], length, get_or, Option, Some, None, refl, sym, ap, ◌∙◌, subst, arith}
use Rattle.std.proofs.lemmas.Bool.{false≢true}
use Rattle.std.proofs.lemmas.Cmp.{eq_by_cmp_equiv, nat_list_cmp_total}
use Rattle.std.proofs.lemmas.List.{get_or-map, length-map}
use Rattle.std.proofs.lemmas.List.Sorted.{IsPermutation-map, IsPermutation-sym, Contains-permutation}
use Rattle.std.proofs.lemmas.Map.Entries.{place_from_lookup, lookup_from_place}
use Rattle.std.proofs.lemmas.Map.Keys.{IsDistinct-IsPermutation, IsDistinct-from_sorted, apart_from_distinct, sorted_from_all_adjacent}
use Rattle.std.proofs.lemmas.Map.Lookups.{exact_bytes}
use Rattle.std.proofs.lemmas.Option.{slice_get_within, get_or_from_slice_get, slice_get_read}
use Rattle.std.specs.BTreeMap.{is_at}
use Rattle.std.specs.List.{IsDistinct, Contains}
use Rattle.std.specs.List.Sorted.{IsPermutation, IsSortedBy}
use Rattle.std.specs.Map.{keys_of}
use Rattle.std.specs.Ordering.{is_eq, is_lt, eq_by_cmp}
use Rattle.std.specs.declared.cmp.Ordering.{Ordering}
use Rattle.std.specs.declared.cmp.Ordering.TheVariants.{Less, Equal, Greater}
use Rattle.model_base.specs.Map.{Rows, byte_order, row_at}
use Rattle.table_tree.proofs.Maps.{eq_from}
use Rattle.table_tree.proofs.Order.{flip_greater}
use Rattle.table_tree.proofs.SameEntries.{same_entries}
use Rattle.table_memory.specs.Rows.{AreRising}

abbrev pub is_before : List ℕ × List ℕ → List ℕ × List ℕ → Bool
is_before e f = is_lt (byte_order e.0 f.0)

abbrev AreApart : Rows → Type 0
AreApart rows = IsDistinct (eq_by_cmp byte_order) (keys_of rows)

-- a value that a look-up finds, it finds in another order of the entries too
found_too : (es fs : Rows) → IsPermutation es fs → AreApart fs → (q v : List ℕ) → row_at es q ≡ Some v → row_at fs q ≡ Some v
found_too es fs moved apart q v found =
    let place = place_from_lookup (is_at (byte_order q)) es v found in
    let row : List ℕ × List ℕ = (place.1, v) in
    let there : Contains es row = (place.0, slice_get_within es place.0 row place.2, get_or_from_slice_get es place.0 row row place.2) in
    let at = Contains-permutation es fs row moved there in
    let key : q ≡ place.1 = exact_bytes q place.1 (eq_from (byte_order q place.1) place.3) in
    ap (λ (key : List ℕ). row_at fs key) key
    ∙ lookup_from_place (eq_by_cmp_equiv nat_list_cmp_total) fs at.0 place.1 v apart (slice_get_read fs (length fs) at.0 row refl at.1 (sym at.2))

same_values : (es fs : Rows) → IsPermutation es fs → AreApart es → AreApart fs → (q : List ℕ) → row_at fs q ≡ row_at es q
same_values es fs moved apart apart_too q = go (row_at es q) (row_at fs q) refl refl
  where
    go : (o p : Option (List ℕ)) → row_at es q ≡ o → row_at fs q ≡ p → p ≡ o
    go (Some v) p e f = sym f ∙ found_too es fs moved apart_too q v e
    go None None e f = refl
    go None (Some v) e f = let g = found_too fs es (IsPermutation-sym es fs moved) apart q v f in absurd (cc)

module _ (rows : Rows) (sorted : IsSortedBy is_before rows) (apart : AreApart rows) where
  adjacent : (i : ℕ) → i + 1 < length (keys_of rows) → byte_order (get_or (keys_of rows) i []) (get_or (keys_of rows) (i + 1) []) ≡ Less
  adjacent i within = go (byte_order (get_or (keys_of rows) i []) (get_or (keys_of rows) (i + 1) [])) refl
    where
      within_rows : i + 1 < length rows
      within_rows = subst (λ n. i + 1 < n) (length-map rows (λ (e : List ℕ × List ℕ). e.0)) within

      key_is : (j : ℕ) → j < length rows → get_or (keys_of rows) j [] ≡ (get_or rows j ([], [])).0
      key_is j w = get_or-map (λ (e : List ℕ × List ℕ). e.0) rows j ([], []) [] w

      go : (o : Ordering) → byte_order (get_or (keys_of rows) i []) (get_or (keys_of rows) (i + 1) []) ≡ o → o ≡ Less
      go Less e = refl
      go Equal e = absurd (false≢true (sym (apart_from_distinct (eq_by_cmp byte_order) (keys_of rows) i (i + 1) [] apart (omega arith) within) ∙ ap is_eq e))
      go Greater e =
          let back = flip_greater byte_order nat_list_cmp_total (get_or (keys_of rows) i []) (get_or (keys_of rows) (i + 1) []) e in
          let low : i < length rows = omega (arith, within_rows) in
          let not_before = sorted i ([], []) (omega arith) within_rows in
          absurd (false≢true (sym not_before ∙ ap is_lt ((λ x. byte_order (sym (key_is (i + 1) within_rows) x) (sym (key_is i low) x)) ∙ back)))

  rising : AreRising rows
  rising = sorted_from_all_adjacent nat_list_cmp_total (keys_of rows) [] adjacent

pub in_order : (rising_rows rows : Rows) → AreRising rising_rows → IsPermutation rising_rows rows → IsSortedBy is_before rows → rows ≡ rising_rows
in_order rising_rows rows s moved sorted =
    let apart : AreApart rising_rows = IsDistinct-from_sorted byte_order (keys_of rising_rows) s in
    let apart_too : AreApart rows =
    IsDistinct-IsPermutation (eq_by_cmp byte_order) (eq_by_cmp_equiv nat_list_cmp_total).symm (keys_of rising_rows) (keys_of rows) (IsPermutation-map (λ (e : List ℕ × List ℕ). e.0) rising_rows rows moved) apart in
    same_entries byte_order nat_list_cmp_total exact_bytes rows rising_rows (rising rows sorted apart_too) s (same_values rising_rows rows moved apart apart_too)
