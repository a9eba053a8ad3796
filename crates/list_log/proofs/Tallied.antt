-- Where the count of a kind is, and that counting keeps it there.
use Rattle.std.proofs.Common.{◌≡◌, ℕ, ◌<◌, ◌≤◌, Bool, true, not, cond, List, [], ◌∷◌, ◌++◌, length, set, get_or, Option, Some, None, BTreeMap, refl, sym, ◌∙◌, ap, subst, arith}
use Rattle.std.specs.BTreeMap.{Updates, get, is_at}
use Rattle.std.specs.List.{position, position_or_len}
use Rattle.std.proofs.lemmas.Grind.{common_steps}
use Rattle.std.proofs.lemmas.List.Folds.{position_or_len-set, position_or_len_push}
use Rattle.std.proofs.lemmas.List.Sums.{prefix_len-le-length}
use Rattle.list_log.specs.Places.{KnowsPlaces, kind_order}
use Rattle.list_log.specs.Totals.{counted, first_one, is_of, one_more}
use Rattle.list_log.specs.declared.tallies.Kind.{Kind}
use Rattle.list_log.specs.declared.tallies.Tally.{Tally}

found : {X : Type 0} (p : X → Bool) (xs : List X) (at : ℕ) → position p xs ≡ Some at → (at < length xs) × (position_or_len p xs ≡ at)
found p xs at is = (grind (arith, common_steps), grind (arith, common_steps))

missed : {X : Type 0} (p : X → Bool) (xs : List X) → position p xs ≡ None → length xs ≤ position_or_len p xs
missed p xs is = grind (arith, common_steps)

-- the count of a kind that has come is the first one that is of it
counted_first : (tag : ℕ) (family : Option ℕ) (ts : List Tally) (d : Tally) → position_or_len (is_of tag family) ts < length ts
    → counted tag family ts ≡ set ts (position_or_len (is_of tag family) ts) (one_more (get_or ts (position_or_len (is_of tag family) ts) d))
counted_first tag family [] d within = absurd (omega (arith, within))
counted_first tag family (t ∷ ts) d within = grind (arith, common_steps, counted_first tag family ts d)

counted_last : (tag : ℕ) (family : Option ℕ) (ts : List Tally) → length ts ≤ position_or_len (is_of tag family) ts → counted tag family ts ≡ ts ++ first_one tag family ∷ []
counted_last tag family [] none = refl
counted_last tag family (t ∷ ts) none = grind (arith, common_steps, counted_last tag family ts)

-- one more of a kind that has come
pub counted_there : (tag : ℕ) (family : Option ℕ) (ts : List Tally) (at : ℕ) (d : Tally) → position (is_of tag family) ts ≡ Some at
    → (at < length ts) × (counted tag family ts ≡ set ts at (one_more (get_or ts at d)))
counted_there tag family ts at d is =
    let it = found (is_of tag family) ts at is in
    (it.0, subst (λ (i : ℕ). counted tag family ts ≡ set ts i (one_more (get_or ts i d))) it.1 (counted_first tag family ts d (omega (arith, it.0, it.1))))

-- the first one of a kind
pub counted_new : (tag : ℕ) (family : Option ℕ) (ts : List Tally) → position (is_of tag family) ts ≡ None → counted tag family ts ≡ ts ++ first_one tag family ∷ []
counted_new tag family ts none = counted_last tag family ts (missed (is_of tag family) ts none)

-- each kind has the place that it had
pub places_stay : (places : BTreeMap Kind ℕ) (ts : List Tally) (at : ℕ) (d : Tally) → KnowsPlaces places ts → KnowsPlaces places (set ts at (one_more (get_or ts at d)))
places_stay places ts at d knows k = grind (arith, common_steps, knows k, position_or_len-set (is_of k.tag k.family) ts at (one_more (get_or ts at d)) d refl)

-- two kinds compare as equal where they are the same
same_kind : (k q : Kind) → is_at (kind_order k) q ≡ is_of q.tag q.family (first_one k.tag k.family)
same_kind k q = grind (arith, common_steps)

its_fields : (k q : Kind) → is_of q.tag q.family (first_one k.tag k.family) ≡ true → (q.tag ≡ k.tag) × (q.family ≡ k.family)
its_fields k q same = (grind (arith, common_steps), grind (arith, common_steps))

position_push : {X : Type 0} (p : X → Bool) (xs : List X) (y : X) → (p y ≡ true → position p xs ≡ None) → position p (xs ++ y ∷ []) ≡ cond (p y) (Some (length xs)) (position p xs)
position_push p xs y none = grind (arith, common_steps, prefix_len-le-length (λ x. not (p x)) xs, position_or_len_push p xs y, none)

-- a new kind has the last place
pub places_with_new : (old new : BTreeMap Kind ℕ) (ts : List Tally) (k : Kind) → KnowsPlaces old ts → position (is_of k.tag k.family) ts ≡ None → Updates kind_order old new k (Some (length ts))
    → KnowsPlaces new (ts ++ first_one k.tag k.family ∷ [])
places_with_new old new ts k knows none updates q =
    let first = first_one k.tag k.family in
    updates.0 q
    ∙ (ap (λ (b : Bool). cond b (Some (length ts)) (get kind_order old q)) (same_kind k q)
    ∙ (ap (λ (o : Option ℕ). cond (is_of q.tag q.family first) (Some (length ts)) o) (knows q)
    ∙ sym (position_push (is_of q.tag q.family) ts first
    (λ same. let fields = its_fields k q same in subst (λ (f : Option ℕ). position (is_of q.tag f) ts ≡ None) (sym fields.1) (subst (λ (t : ℕ). position (is_of t k.family) ts ≡ None) (sym fields.0) none)))))
