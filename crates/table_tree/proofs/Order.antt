-- Lists in a strict order, an insertion into them, and what is on each side of an element.
use Rattle.std.proofs.Common.{◌≡◌, ◌≢◌, List, [], ◌∷◌, ◌++◌, refl, sym, ap, ◌∙◌}
use Rattle.std.specs.List.{AllByRecursion}
use Rattle.std.specs.List.Sorted.{IsStrictlySortedBy}
use Rattle.std.specs.Cmp.{IsTotalOrder}
use Rattle.std.specs.Ordering.{ordering_reverse, match_ordering}
use Rattle.std.specs.declared.cmp.Ordering.{Ordering}
use Rattle.std.specs.declared.cmp.Ordering.TheVariants.{Less, Equal, Greater}
use Rattle.std.specs.BTreeSet.{insert_key}
use Rattle.std.proofs.lemmas.Cmp.{alike_right}

module _ {X : Type 0} where
  pub all_front : (P : X → Type 0) (l m : List X) → AllByRecursion P (l ++ m) → AllByRecursion P l
  all_front P [] m a = tt
  all_front P (x ∷ l) m a = (a.0, all_front P l m a.1)

  pub all_back : (P : X → Type 0) (l m : List X) → AllByRecursion P (l ++ m) → AllByRecursion P m
  all_back P [] m a = a
  all_back P (x ∷ l) m a = all_back P l m a.1

  pub all_both : (P : X → Type 0) (l m : List X) → AllByRecursion P l → AllByRecursion P m → AllByRecursion P (l ++ m)
  all_both P [] m a b = b
  all_both P (x ∷ l) m a b = (a.0, all_both P l m a.1 b)

  pub all_mapped : (P Q : X → Type 0) → ((x : X) → P x → Q x) → (l : List X) → AllByRecursion P l → AllByRecursion Q l
  all_mapped P Q f [] a = tt
  all_mapped P Q f (x ∷ l) a = (f x a.0, all_mapped P Q f l a.1)

module _ {X : Type 0} (R : X → X → Ordering) where
  pub all_inserted : (P : X → Type 0) (k : X) (l : List X) → P k → AllByRecursion P l → AllByRecursion P (insert_key R l k)
  all_inserted P k [] p a = (p, tt)
  all_inserted P k (x ∷ l) p a =
      elim (R k x) as (λ o. AllByRecursion P (match_ordering o (k ∷ x ∷ l) (x ∷ l) (x ∷ insert_key R l k))) [
        | Less ↦ (p, a)
        | Equal ↦ a
        | Greater ↦ (a.0, all_inserted P k l p a.1)
      ]

  pub sorted_front : (l m : List X) → IsStrictlySortedBy R (l ++ m) → IsStrictlySortedBy R l
  unfolding IsStrictlySortedBy
  sorted_front [] m s = tt
  sorted_front (x ∷ l) m s = (all_front (λ y. R x y ≡ Less) l m s.0, sorted_front l m s.1)

  pub sorted_back : (l m : List X) → IsStrictlySortedBy R (l ++ m) → IsStrictlySortedBy R m
  unfolding IsStrictlySortedBy
  sorted_back [] m s = s
  sorted_back (x ∷ l) m s = sorted_back l m s.1

  pub sorted_past : (w : X) (r : List X) → IsStrictlySortedBy R (w ∷ r) → AllByRecursion (λ y. R w y ≡ Less) r × IsStrictlySortedBy R r
  unfolding IsStrictlySortedBy
  sorted_past w r s = s

  -- those in front of an element are below it
  pub before_middle : (l : List X) (w : X) (r : List X) → IsStrictlySortedBy R (l ++ w ∷ r) → AllByRecursion (λ y. R y w ≡ Less) l
  unfolding IsStrictlySortedBy
  before_middle [] w r s = tt
  before_middle (x ∷ l) w r s = ((all_back (λ y. R x y ≡ Less) l (w ∷ r) s.0).0, before_middle l w r s.1)

  -- what is below all others is inserted before them
  pub insert_first : (k x : X) (l : List X) → R k x ≡ Less → insert_key R (x ∷ l) k ≡ k ∷ x ∷ l
  insert_first k x l p = ap (λ o. match_ordering o (k ∷ x ∷ l) (x ∷ l) (x ∷ insert_key R l k)) p

  module _ (o : IsTotalOrder R) where
    pub flip_less : (x y : X) → R x y ≡ Less → R y x ≡ Greater
    flip_less x y p = o.antisymm y x ∙ ap ordering_reverse p

    pub flip_greater : (x y : X) → R x y ≡ Greater → R y x ≡ Less
    flip_greater x y p = o.antisymm y x ∙ ap ordering_reverse p

    insert_past : (k x : X) (l : List X) → R x k ≡ Less → insert_key R (x ∷ l) k ≡ x ∷ insert_key R l k
    insert_past k x l p = ap (λ c. match_ordering c (k ∷ x ∷ l) (x ∷ l) (x ∷ insert_key R l k)) (flip_less x k p)

    -- what is above those in front is inserted after them
    pub insert_behind : (k : X) (l r : List X) → AllByRecursion (λ y. R y k ≡ Less) l → insert_key R (l ++ r) k ≡ l ++ insert_key R r k
    insert_behind k [] r a = refl
    insert_behind k (x ∷ l) r a = insert_past k x (l ++ r) a.0 ∙ ap (λ (t : List X). x ∷ t) (insert_behind k l r a.1)

    inserted_here : (k x : X) (l : List X) (c : Ordering) → R k x ≡ c → IsStrictlySortedBy R (x ∷ l) → IsStrictlySortedBy R (insert_key R l k)
        → IsStrictlySortedBy R (match_ordering c (k ∷ x ∷ l) (x ∷ l) (x ∷ insert_key R l k))
    unfolding IsStrictlySortedBy
    inserted_here k x l Less p s t = ((p, all_mapped (λ y. R x y ≡ Less) (λ y. R k y ≡ Less) (λ y q. o.trans k x y p q) l s.0), s)
    inserted_here k x l Equal p s t = s
    inserted_here k x l Greater p s t = (all_inserted (λ y. R x y ≡ Less) k l (flip_greater k x p) s.0, t)

    pub sorted_inserted : (k : X) (l : List X) → IsStrictlySortedBy R l → IsStrictlySortedBy R (insert_key R l k)
    unfolding IsStrictlySortedBy
    sorted_inserted k [] s = (tt, tt)
    sorted_inserted k (x ∷ l) s = inserted_here k x l (R k x) refl s (sorted_inserted k l s.1)

    pub less_le : (k w x : X) → R k w ≡ Less → R w x ≢ Greater → R k x ≡ Less
    less_le k w x p q = go (R w x) refl
      where
        go : (c : Ordering) → R w x ≡ c → R k x ≡ Less
        go Less e = o.trans k w x p e
        go Equal e = sym (alike_right o w x k e) ∙ p
        go Greater e = absurd (q e)
