-- The place of a key among pairs in the order of their keys.
use Rattle.std.proofs.Common.{◌≡◌, ℕ, ◌+◌, ◌<◌, ◌≤◌, Bool, true, false, cond, List, [], ◌∷◌, refl, sym, ap, ◌∙◌, length, take, filter, Option, Some, None, slice_get, slice_index_or, arith, zero, suc}
use Rattle.std.proofs.lemmas.Bool.{true≢false}
use Rattle.std.specs.declared.cmp.Ordering.{Ordering}
use Rattle.std.specs.declared.cmp.Ordering.TheVariants.{Less, Equal, Greater}
use Rattle.std.specs.Ordering.{is_eq, is_lt, ordering_reverse}
use Rattle.std.specs.Cmp.{IsTotalOrder, on_total, then_total, nat_cmp_total}
use Rattle.std.specs.Cmp.Lexicographic.{nat_list_cmp_total}
use Rattle.std.specs.List.{AllByRecursion, AllWithin}
use Rattle.std.specs.List.Sorted.{IsStrictlySortedBy, IsPartitionedBy}
use Rattle.std.specs.Map.{keys_of, lookup}
use Rattle.std.specs.BTreeMap.{insert_entry, is_at}
use Rattle.model_base.specs.declared.key.Key.{Key}
use Rattle.model_base.specs.Map.{Pairs, key_at as key_of, key_order}

-- the order of keys is total
pub key_total : IsTotalOrder key_order
key_total = then_total (on_total (λ (k : Key). k.family) nat_cmp_total) (on_total (λ (k : Key). k.bytes) nat_list_cmp_total)

module _ {K : Type 0} (R : K → K → Ordering) (o : IsTotalOrder R) (key : K) where
  turned : (x y : K) (r : Ordering) → R x y ≡ r → R y x ≡ ordering_reverse r
  turned x y r e = o.antisymm y x ∙ ap ordering_reverse e

  below-by : (x y : K) (r : Ordering) → R y key ≡ r → is_lt r ≡ true → R x y ≡ Less → is_lt (R x key) ≡ true
  below-by x y Less e t f = rw (o.trans x y key f e) refl
  below-by x y Equal e t f = absurd (true≢false (sym t))
  below-by x y Greater e t f = absurd (true≢false (sym t))

  all_past : (x : K) (l : List K) → R key x ≡ Less → AllByRecursion (λ k. R x k ≡ Less) l → AllByRecursion (λ k. R key k ≡ Less) l
  all_past x [] e a = tt
  all_past x (k ∷ l) e a = (o.trans key x k e a.0, all_past x l e a.1)

  all_same : (x : K) (l : List K) → R key x ≡ Equal → AllByRecursion (λ k. R x k ≡ Less) l → AllByRecursion (λ k. R key k ≡ Less) l
  all_same x [] e a = tt
  all_same x (k ∷ l) e a = (o.congr key x k e ∙ a.0, all_same x l e a.1)

  module _ {V : Type 0} where
    -- whether a pair's key comes before this one
    abbrev pub before : K × V → Bool
    before p = is_lt (R p.0 key)

    -- ---- how many pairs come before the key

    none_before : (l : List (K × V)) → AllByRecursion (λ k. R key k ≡ Less) (keys_of l) → length (filter before l) ≡ 0
    none_before [] a = refl
    none_before (p ∷ l) a = rw (turned key p.0 Less a.0) (none_before l a.1)

    -- where exactly the first i pairs come before the key, there are i of these
    pub counted : (l : List (K × V)) (i : ℕ) → i ≤ length l → AllWithin (λ y. before y ≡ true) l 0 i
        → AllWithin (λ y. before y ≡ false) l i (length l) → length (filter before l) ≡ i
    counted [] zero le front back = refl
    counted [] (suc i) le front back = absurd (omega arith)
    counted (p ∷ l) zero le front back =
        rw (back 0 p (omega arith) (omega arith)) (counted l zero (omega arith) (λ k d a b. absurd (omega arith)) (λ k d a b. back (suc k) d (omega arith) (omega arith)))
    counted (p ∷ l) (suc i) le front back =
        rw (front 0 p (omega arith) (omega arith))
        (ap suc (counted l i (omega arith) (λ k d a b. front (suc k) d (omega arith) (omega arith)) (λ k d a b. back (suc k) d (omega arith) (omega arith))))

    -- ---- the pairs before the key come first

    key_at : (P : K → Type 0) (l : List (K × V)) → AllByRecursion P (keys_of l) → (j : ℕ) (d : K × V) → j < length l → P (slice_index_or l j d).0
    key_at P [] a j d lt = absurd (omega arith)
    key_at P (p ∷ l) a zero d lt = a.0
    key_at P (p ∷ l) a (suc j) d lt = key_at P l a.1 j d (omega arith)

    pub first : (l : List (K × V)) → IsStrictlySortedBy R (keys_of l) → IsPartitionedBy before l
    unfolding IsStrictlySortedBy
    first [] s i j d le lt t = absurd (omega arith)
    first (p ∷ l) s zero zero d le lt t = t
    first (p ∷ l) s zero (suc j) d le lt t =
        let q = slice_index_or l j d in below-by p.0 q.0 (R q.0 key) refl t (key_at (λ k. R p.0 k ≡ Less) l s.0 j d (omega arith))
    first (p ∷ l) s (suc i) zero d le lt t = absurd (omega arith)
    first (p ∷ l) s (suc i) (suc j) d le lt t = first l s.1 i j d (omega arith) (omega arith) t

    -- ---- what comes after them

    lacked : (l : List (K × V)) → AllByRecursion (λ k. R key k ≡ Less) (keys_of l) → lookup (is_at (R key)) l ≡ None
    lacked [] a = refl
    lacked (p ∷ l) a = rw a.0 (lacked l a.1)

    -- the value of a pair, if it has the key
    abbrev pub value_of : Option (K × V) → Option V
    value_of None = None
    value_of (Some p) = cond (is_eq (R key p.0)) (Some p.1) None

    there-by : (p : K × V) (l : List (K × V)) (r : Ordering) → R p.0 key ≡ r → AllByRecursion (λ k. R p.0 k ≡ Less) (keys_of l)
        → lookup (is_at (R key)) l ≡ value_of (slice_get l (length (filter before l)))
        → lookup (is_at (R key)) (p ∷ l) ≡ value_of (slice_get (p ∷ l) (length (filter before (p ∷ l))))
    there-by p l Less e a more = rw (turned p.0 key Less e) (rw e more)
    there-by p l Equal e a more =
        let f = turned p.0 key Equal e in rw e (rw (none_before l (all_same p.0 (keys_of l) f a)) (rw f refl))
    there-by p l Greater e a more =
        let f = turned p.0 key Greater e in let b = all_past p.0 (keys_of l) f a in
        rw e (rw (none_before l b) (rw f (lacked l b)))

    -- a key has a value exactly where the first pair that isn't before it has this key, and it is that pair's value
    pub there : (l : List (K × V)) → IsStrictlySortedBy R (keys_of l)
        → lookup (is_at (R key)) l ≡ value_of (slice_get l (length (filter before l)))
    unfolding IsStrictlySortedBy
    there [] s = refl
    there (p ∷ l) s = there-by p l (R p.0 key) refl s.0 (there l s.1)

-- ---- pairs that are put into a map in their order

module _ {K : Type 0} {V : Type 0} (R : K → K → Ordering) (o : IsTotalOrder R) where
  key_there : (P : K → Type 0) (l : List (K × V)) → AllByRecursion P (keys_of l) → (j : ℕ) (d : K × V) → j < length l → P (slice_index_or l j d).0
  key_there P [] a j d lt = absurd (omega arith)
  key_there P (p ∷ l) a zero d lt = a.0
  key_there P (p ∷ l) a (suc j) d lt = key_there P l a.1 j d (omega arith)

  -- each next one is put after those before it
  pub put_next : (l : List (K × V)) (i : ℕ) (d : K × V) → IsStrictlySortedBy R (keys_of l) → i < length l
      → insert_entry R (take i l) (slice_index_or l i d).0 (slice_index_or l i d).1 ≡ take (suc i) l
  unfolding IsStrictlySortedBy
  put_next [] i d s lt = absurd (omega arith)
  put_next (p ∷ l) zero d s lt = refl
  put_next (p ∷ l) (suc i) d s lt =
      let q = slice_index_or l i d in
      let later : R q.0 p.0 ≡ Greater = o.antisymm q.0 p.0 ∙ ap ordering_reverse (key_there (λ k. R p.0 k ≡ Less) l s.0 i d (omega arith)) in
      rw later (ap (λ (t : List (K × V)). p ∷ t) (put_next l i d s.1 (omega arith)))

-- So it is of a key and a value that were read from the pair.
pub pair_put : (all made new : Pairs) (i family : ℕ) (key value key_read value_read : List ℕ) (p : Key × List ℕ) → IsStrictlySortedBy key_order (keys_of all) → i < length all → made ≡ take i all
    → p ≡ slice_index_or all i p → (key_of family key, value) ≡ p → key_read ≡ key → value_read ≡ value → new ≡ insert_entry key_order made (key_of family key_read) value_read → new ≡ take (i + 1) all
pair_put all made new i family key value key_read value_read p sorted lt so_far there shown key_is value_is done =
    let is : (key_of family key_read, value_read) ≡ slice_index_or all i p =
    ap (λ (k : List ℕ). (key_of family k, value_read)) key_is ∙ (ap (λ (v : List ℕ). (key_of family key, v)) value_is ∙ (shown ∙ there)) in
    let one : suc i ≡ i + 1 = omega arith in
    done ∙ (ap (λ (m : Pairs). insert_entry key_order m (key_of family key_read) value_read) so_far
    ∙ (ap (λ (q : Key × List ℕ). insert_entry key_order (take i all) q.0 q.1) is ∙ (put_next key_order key_total all i p sorted lt ∙ ap (λ (n : ℕ). take n all) one)))
