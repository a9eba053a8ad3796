-- What a change of the shelves leaves of a map: no shelf is empty, the keys rise, and the pairs are counted.
use Rattle.std.proofs.Common.{◌≡◌, ℕ, ◌+◌, ◌-◌, List, [], ◌∷◌, ◌++◌, length, map, refl, sym, ap, ◌∙◌, subst, arith}
use Rattle.std.specs.BTreeMap.{insert_entry, is_at}
use Rattle.std.specs.List.Sorted.{IsStrictlySortedBy}
use Rattle.std.specs.Map.{remove_entry}
use Rattle.std.proofs.lemmas.Cmp.{nat_list_cmp_total}
use Rattle.model_base.specs.Map.{Rows, byte_order}
use Rattle.base_maps.specs.Parts.{all_in, AreFilled, AreInOrder, AreParts}
use Rattle.base_maps.proofs.Within.{sorted_put, sorted_cut}
use Rattle.base_maps.proofs.PartSteps.{same_parts}

pub no_shelves : (parts : List Rows) → parts ≡ [] → AreParts parts 0
unfolding IsStrictlySortedBy
no_shelves parts none = subst (λ (l : List Rows). AreParts l 0) (sym none) (record { filled = tt; order = tt; counted = refl })

pub one_shelf : (parts new : List Rows) (shelf : Rows) (k v : List ℕ) → new ≡ parts ++ shelf ∷ [] → parts ≡ [] → shelf ≡ (k, v) ∷ [] → AreParts new 1
unfolding IsStrictlySortedBy
one_shelf parts new shelf k v are none is =
    subst (λ (l : List Rows). AreParts l 1) (sym (are ∙ ap (λ (l : List Rows). l ++ shelf ∷ []) none ∙ ap (λ (r : Rows). r ∷ []) is))
    (record { filled = (omega arith, tt); order = (tt, tt); counted = refl })

-- the shelves are seen as parts of any kind
module _ (old new : List Rows) (k : List ℕ) (count : ℕ) (was : AreParts old count) (filled : AreFilled (map (λ r. r) new)) where
  now_filled : AreFilled new
  now_filled = subst AreFilled (same_parts new) filled

  counts : length (all_in (map (λ r. r) new)) ≡ length (all_in new)
  counts = ap (λ (l : List Rows). length (all_in l)) (same_parts new)

  counted_before : length (all_in (map (λ r. r) old)) ≡ length (all_in old)
  counted_before = ap (λ (l : List Rows). length (all_in l)) (same_parts old)

  module _ (v : List ℕ) (is : all_in (map (λ r. r) new) ≡ insert_entry byte_order (all_in (map (λ r. r) old)) k v) where
    put_is : all_in new ≡ insert_entry byte_order (all_in old) k v
    put_is = sym (ap all_in (same_parts new)) ∙ is ∙ ap (λ (l : List Rows). insert_entry byte_order (all_in l) k v) (same_parts old)

    pub put_map : (more : ℕ) → length (all_in (map (λ r. r) new)) ≡ length (all_in (map (λ r. r) old)) + more → AreParts new (count + more)
    put_map more added = record {
      filled = now_filled;
      order = subst AreInOrder (sym put_is) (sorted_put byte_order nat_list_cmp_total (all_in old) k v was.order);
      counted = let before = was.counted in omega (arith, before, added, counts, counted_before);
    }

  module _ (is : all_in (map (λ r. r) new) ≡ remove_entry (is_at (byte_order k)) (all_in (map (λ r. r) old))) where
    cut_is : all_in new ≡ remove_entry (is_at (byte_order k)) (all_in old)
    cut_is = sym (ap all_in (same_parts new)) ∙ is ∙ ap (λ (l : List Rows). remove_entry (is_at (byte_order k)) (all_in l)) (same_parts old)

    pub cut_map : (fewer : ℕ) → length (all_in (map (λ r. r) new)) + fewer ≡ length (all_in (map (λ r. r) old)) → AreParts new (count - fewer)
    cut_map fewer removed = record {
      filled = now_filled;
      order = subst AreInOrder (sym cut_is) (sorted_cut byte_order nat_list_cmp_total (all_in old) k was.order);
      counted = let before = was.counted in omega (arith, before, removed, counts, counted_before);
    }
