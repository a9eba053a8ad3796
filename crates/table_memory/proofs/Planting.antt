-- A map's pairs that are put into the trees of their shards, one after another.
use Rattle.std.proofs.Common.{◌≡◌, ◌≢◌, ◌⊎◌, ◌<◌, ℕ, zero, suc, List, [], ◌∷◌, ◌++◌, length, set, get_or, take, arith, refl, sym, ap, ◌∙◌, subst, inl, inr, ⊎_elim, length-set}
use Rattle.std.proofs.lemmas.List.{map-append}
use Rattle.std.proofs.lemmas.Cmp.{tied_itself}
use Rattle.std.specs.List.{AllByRecursion}
use Rattle.std.specs.List.Sorted.{IsStrictlySortedBy}
use Rattle.std.specs.Map.{keys_of}
use Rattle.std.specs.declared.cmp.Ordering.{Ordering}
use Rattle.std.specs.declared.cmp.Ordering.TheVariants.{Less, Equal}
use mathlib.Core.Option.{some, some-injective, some-ne-none}
use lib.ListN.{get_elem?}
use Rattle.model_base.specs.declared.key.Key.{Key}
use Rattle.model_base.specs.Map.{Pairs, key_order}
use Rattle.table_rule.specs.declared.content.Version.{Version}
use Rattle.table_rule.specs.Histories.{In, shard_of, versions_at}
use Rattle.table_rule.specs.Steps.{Adds}
use Rattle.table_rule.proofs.Histories.{in_left, in_right, in_split}
use Rattle.table_rule.proofs.Bases.{version_at, pair_of}
use Rattle.table_tree.specs.Shapes.{Shape, versions_in}
use Rattle.table_tree.specs.Versions.{IsNew}
use Rattle.table_tree.proofs.Adding.{apart_new}
use Rattle.table_rule.proofs.Keys.{key_total}
use Rattle.table_steps.specs.Ends.{BearBase}
use Rattle.table_memory.specs.Meaning.{AreLeaves}

module _ {A : Type 0} where
  at_set : (l : List A) (i j : ℕ) (a b : A) → get_elem? (set l i a) j ≡ some b → ((j ≡ i) × (a ≡ b)) ⊎ ((j ≢ i) × (get_elem? l j ≡ some b))
  at_set [] i j a b e = absurd (some-ne-none b (sym e))
  at_set (x ∷ xs) zero zero a b e = inl (refl, some-injective a b e)
  at_set (x ∷ xs) zero (suc j) a b e = inr ((λ h. omega arith), e)
  at_set (x ∷ xs) (suc i) zero a b e = inr ((λ h. omega arith), e)
  at_set (x ∷ xs) (suc i) (suc j) a b e = ⊎_elim (λ t. inl (ap suc t.0, t.1)) (λ t. let n = t.0 in inr ((λ h. n (omega arith)), t.1)) (at_set xs i j a b e)

  pub at_index : (l : List A) (i : ℕ) (d : A) → i < length l → get_elem? l i ≡ some (get_or l i d)
  at_index [] i d h = absurd (omega arith)
  at_index (x ∷ xs) zero d h = refl
  at_index (x ∷ xs) (suc i) d h = at_index xs i d (omega arith)

  -- of two lists one after the other, the first elements, as many as the first list has, are that list
  pub written : (xs ys : List A) (n : ℕ) → n ≡ length xs → take n (xs ++ ys) ≡ xs
  written xs ys n e = ap (λ (k : ℕ). take k (xs ++ ys)) e ∙ all xs
    where
      all : (zs : List A) → take (length zs) (zs ++ ys) ≡ zs
      all [] = refl
      all (z ∷ zs) = ap (λ (l : List A). z ∷ l) (all zs)

  found_in : (xs : List A) (j : ℕ) (x : A) → get_elem? xs j ≡ some x → In x xs
  found_in [] j x e = absurd (some-ne-none x (sym e))
  found_in (y ∷ xs) zero x e = inl (some-injective y x e)
  found_in (y ∷ xs) (suc j) x e = inr (found_in xs j x e)

-- trees of no versions bear no pairs
pub none_put : (n : ℕ) (trees : List Shape) → AreLeaves trees → BearBase versions_in (versions_at n []) trees
none_put n trees leaves j tree v at =
    let nothing : versions_in tree ≡ [] = ap versions_in (leaves tree (found_in trees j tree at)) in
    ((λ h. absurd (subst (In v) nothing h)), λ h. absurd h.0)

-- a key is above those before it, in sorted pairs
below_next : (front : Pairs) (p : Key × List ℕ) (rest : Pairs) (q : Key × List ℕ) → IsStrictlySortedBy key_order (keys_of (front ++ p ∷ rest)) → In q front → key_order q.0 p.0 ≡ Less
unfolding IsStrictlySortedBy
below_next [] p rest q s h = absurd h
below_next (x ∷ front) p rest q s h = ⊎_elim
    (λ (e : x ≡ q). subst (λ (y : Key × List ℕ). key_order y.0 p.0 ≡ Less) e (at_middle (λ k. key_order x.0 k ≡ Less) front s.0))
    (λ (t : In q front). below_next front p rest q s.1 t)
    h
  where
    at_middle : (P : Key → Type 0) (more : Pairs) → AllByRecursion P (keys_of (more ++ p ∷ rest)) → P p.0
    at_middle P [] a = a.0
    at_middle P (y ∷ more) a = at_middle P more a.1

apart : (o : Ordering) → o ≡ Less → o ≡ Equal → ⊥
apart o e f = cc

module _ (n : ℕ) (front : Pairs) (p : Key × List ℕ) (trees : List Shape) (bear : BearBase versions_in (versions_at n front) trees)
    (j : ℕ) (old : Shape) (there : get_elem? trees j ≡ some old) where
  -- the next pair is new in its tree
  pub next_new : (rest : Pairs) → IsStrictlySortedBy key_order (keys_of (front ++ p ∷ rest)) → IsNew (version_at n p) (versions_in old)
  next_new rest sorted = apart_new (version_at n p) (versions_in old) (λ x h same _.
      let q = pair_of n front x ((bear j old x there).0 h).0 in
      let less = below_next front p rest q.0 sorted q.1 in
      let key : q.0.0 ≡ p.0 = sym (ap (λ (w : Version). w.key) q.2) ∙ same in
      apart (key_order q.0.0 p.0) less (ap (λ k. key_order k p.0) key ∙ tied_itself key_total p.0))

  -- and with it put in, the trees bear one more pair
  pub one_put : (new : Shape) (after : List Shape) → after ≡ set trees j new → Adds (versions_in old) (version_at n p) (versions_in new) → shard_of (length trees) (version_at n p) ≡ j
      → BearBase versions_in (versions_at n (front ++ p ∷ [])) after
  one_put new after is adds here i tree v at =
      let w : Version = version_at n p in
      let base : List Version = versions_at n front in
      let more : versions_at n (front ++ p ∷ []) ≡ base ++ w ∷ [] = map-append (version_at n) front (p ∷ []) in
      let count : length after ≡ length trees = ap length is ∙ length-set trees j new in
      let of : (x : Version) (k : ℕ) → shard_of (length trees) x ≡ k → shard_of (length after) x ≡ k = λ x k e. ap (λ (c : ℕ). shard_of c x) count ∙ e in
      let from : (x : Version) (k : ℕ) → shard_of (length after) x ≡ k → shard_of (length trees) x ≡ k = λ x k e. ap (λ (c : ℕ). shard_of c x) (sym count) ∙ e in
      let was : In v base → In v (versions_at n (front ++ p ∷ [])) = λ h. subst (In v) (sym more) (in_left v base (w ∷ []) h) in
      ⊎_elim
      (λ (t : (i ≡ j) × (new ≡ tree)). (
        (λ h. ⊎_elim
            (λ (e : v ≡ w). (subst (In v) (sym more) (in_right v base (w ∷ []) (inl (sym e))), of v i (ap (shard_of (length trees)) e ∙ here ∙ sym t.0)))
            (λ (o : In v (versions_in old)). let b = (bear j old v there).0 o in (was b.0, of v i (b.1 ∙ sym t.0)))
            (adds.2 v (subst (λ (s : Shape). In v (versions_in s)) (sym t.1) h))),
        (λ h. subst (λ (s : Shape). In v (versions_in s)) t.1 (⊎_elim
            (λ (b : In v base). adds.1 v ((bear j old v there).1 (b, from v i h.1 ∙ t.0)))
            (λ (last : In v (w ∷ [])). ⊎_elim (λ (e : w ≡ v). subst (λ (x : Version). In x (versions_in new)) e adds.0) (λ (none : ⊥). absurd none) last)
            (in_split v base (w ∷ []) (subst (In v) more h.0)))),
      ))
      (λ (t : (i ≢ j) × (get_elem? trees i ≡ some tree)). (
        (λ h. let b = (bear i tree v t.1).0 h in (was b.0, of v i b.1)),
        (λ h. ⊎_elim
            (λ (b : In v base). (bear i tree v t.1).1 (b, from v i h.1))
            (λ (last : In v (w ∷ [])). ⊎_elim (λ (e : w ≡ v). absurd (t.0 (sym (from v i h.1) ∙ ap (shard_of (length trees)) (sym e) ∙ here))) (λ (none : ⊥). absurd none) last)
            (in_split v base (w ∷ []) (subst (In v) more h.0))),
      ))
      (at_set trees j i new tree (ap (λ (l : List Shape). get_elem? l i) (sym is) ∙ at))
