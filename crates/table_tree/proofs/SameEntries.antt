-- Two maps with the same value at each key are equal, for keys in any total order that tells all keys apart.
use Rattle.std.proofs.Common.{◌≡◌, Bool, true, false, cond, List, ℕ, [], ◌∷◌, Option, Some, None, refl, sym, ap, ◌∙◌}
use Rattle.std.proofs.lemmas.Cmp.{alike_right, tied_itself}
use Rattle.std.specs.Cmp.{IsTotalOrder}
use Rattle.std.specs.BTreeMap.{is_at}
use Rattle.std.specs.List.{AllByRecursion}
use Rattle.std.specs.List.Sorted.{IsStrictlySortedBy}
use Rattle.std.specs.Map.{keys_of, lookup}
use Rattle.std.specs.Ordering.{is_eq}
use Rattle.std.specs.declared.cmp.Ordering.{Ordering}
use Rattle.std.specs.declared.cmp.Ordering.TheVariants.{Less, Equal, Greater}
use Rattle.table_tree.proofs.Order.{all_mapped, flip_greater}
use Rattle.table_tree.proofs.Maps.{eq_from}

some_inj : (x y : List ℕ) → Some x ≡ Some y → x ≡ y
some_inj x y e = cc

none_some : (x : List ℕ) (o : Option (List ℕ)) → o ≡ None → o ≡ Some x → ⊥
none_some x o p q = cc

module _ {K : Type 0} (order : K → K → Ordering) (total : IsTotalOrder order) (alike : (k l : K) → order k l ≡ Equal → k ≡ l) where
  abbrev Entries : Type 0
  Entries = List (K × List ℕ)

  abbrev at : Entries → K → Option (List ℕ)
  at m q = lookup (is_at (order q)) m

  abbrev AreRising : Entries → Type 0
  AreRising m = IsStrictlySortedBy order (keys_of m)

  abbrev same_key : K → K → Bool
  same_key q k = is_eq (order q k)

  pub none_above : (q : K) (m : Entries) → AllByRecursion (λ y. order q y ≡ Less) (keys_of m) → at m q ≡ None
  none_above q [] a = refl
  none_above q (e ∷ m) a = ap (λ o. cond (is_eq o) (Some e.1) (at m q)) a.0 ∙ none_above q m a.1

  pub head_value : (q : K) (e : K × List ℕ) (m : Entries) → order q e.0 ≡ Equal → at (e ∷ m) q ≡ Some e.1
  head_value q e m same = ap (λ o. cond (is_eq o) (Some e.1) (at m q)) same

  pub tail_value : (q : K) (e : K × List ℕ) (m : Entries) → same_key q e.0 ≡ false → at (e ∷ m) q ≡ at m q
  tail_value q e m other = ap (λ b. cond b (Some e.1) (at m q)) other

  pub ascending_past : (e : K × List ℕ) (m : Entries) → AreRising (e ∷ m) → AllByRecursion (λ y. order e.0 y ≡ Less) (keys_of m) × AreRising m
  unfolding IsStrictlySortedBy
  ascending_past e m s = s

  -- a key below the first is none of the map's keys, and the first is none of those after it
  none_before : (q : K) (e : K × List ℕ) (m : Entries) → AreRising (e ∷ m) → order q e.0 ≡ Less → at (e ∷ m) q ≡ None
  none_before q e m s less =
      none_above q (e ∷ m) (less, all_mapped (λ y. order e.0 y ≡ Less) (λ y. order q y ≡ Less) (λ y p. total.trans q e.0 y less p) (keys_of m) (ascending_past e m s).0)

  none_behind : (q : K) (e : K × List ℕ) (m : Entries) → AreRising (e ∷ m) → order q e.0 ≡ Equal → at m q ≡ None
  none_behind q e m s same =
      none_above q m (all_mapped (λ y. order e.0 y ≡ Less) (λ y. order q y ≡ Less) (λ y p. total.congr q e.0 y same ∙ p) (keys_of m) (ascending_past e m s).0)

  module _ (x y : K × List ℕ) (m n : Entries) (s : AreRising (x ∷ m)) (t : AreRising (y ∷ n)) (h : (q : K) → at (x ∷ m) q ≡ at (y ∷ n) q) where
    same_heads : order x.0 y.0 ≡ Equal
    same_heads = go (order x.0 y.0) refl
      where
        go : (o : Ordering) → order x.0 y.0 ≡ o → order x.0 y.0 ≡ Equal
        go Less p = absurd (none_some x.1 (at (y ∷ n) x.0) (none_before x.0 y n t p) (sym (h x.0) ∙ head_value x.0 x m (tied_itself total x.0)))
        go Equal p = p
        go Greater p = absurd (none_some y.1 (at (x ∷ m) y.0) (none_before y.0 x m s (flip_greater order total x.0 y.0 p)) (h y.0 ∙ head_value y.0 y n (tied_itself total y.0)))

    same_values : x.1 ≡ y.1
    same_values = some_inj x.1 y.1 (sym (head_value x.0 x m (tied_itself total x.0)) ∙ h x.0 ∙ head_value x.0 y n same_heads)

    same_tails : (q : K) → at m q ≡ at n q
    same_tails q = go (same_key q x.0) refl
      where
        moved : same_key q x.0 ≡ same_key q y.0
        moved = ap is_eq (alike_right total x.0 y.0 q same_heads)

        go : (b : Bool) → same_key q x.0 ≡ b → at m q ≡ at n q
        go true here = none_behind q x m s (eq_from (order q x.0) here) ∙ sym (none_behind q y n t (eq_from (order q y.0) (sym moved ∙ here)))
        go false here = sym (tail_value q x m here) ∙ h q ∙ tail_value q y n (sym moved ∙ here)

  pub same_entries : (m n : Entries) → AreRising m → AreRising n → ((q : K) → at m q ≡ at n q) → m ≡ n
  same_entries [] [] s t h = refl
  same_entries [] (y ∷ n) s t h = absurd (none_some y.1 (at [] y.0) refl (h y.0 ∙ head_value y.0 y n (tied_itself total y.0)))
  same_entries (x ∷ m) [] s t h = absurd (none_some x.1 (at [] x.0) refl (sym (h x.0) ∙ head_value x.0 x m (tied_itself total x.0)))
  same_entries (x ∷ m) (y ∷ n) s t h =
      let rest = same_entries m n (ascending_past x m s).1 (ascending_past y n t).1 (same_tails x y m n s t h) in
      let key : x.0 ≡ y.0 = alike x.0 y.0 (same_heads x y m n s t h) in
      let value = same_values x y m n s t h in
      λ i. (key i, value i) ∷ rest i
