-- The writers that a leader takes from the queue are all to be logged, or none of them is.
use Rattle.std.proofs.Common.{◌≡◌, ℕ, zero, suc, ◌+◌, ◌-◌, Bool, true, false, not, ◌⊎◌, inl, inr, List, [], ◌∷◌, length, map, take, Option, Some, None, is_some, slice_get, refl, sym, ◌∙◌, subst, arith, if◌then◌else◌}
use Rattle.std.specs.List.{AllByRecursion, take_while, range_with_len}
use Rattle.std.proofs.lemmas.List.Sums.{take_while-cons}
use Rattle.std.proofs.lemmas.Option.{slice_get-map}
use Rattle.model_base.specs.declared.group.Item.{Item}
use Rattle.model_base.specs.Grouping.{same_bool, size_of, fits, fits_at, group_len}
use Rattle.model_core.specs.Core.{Writer, item_of, is_alone}
use Rattle.model_core.specs.CoreLaw.{SameLogFlag, AreWrites}
use Rattle.model_core_laws.proofs.Lists.{all_weaker, and_parts}

same_bools : (a b : Bool) → same_bool a b ≡ true → a ≡ b
same_bools true true e = refl
same_bools true false e = absurd (cc)
same_bools false true e = absurd (cc)
same_bools false false e = refl

-- if all that pass have a property, the longest prefix of writers that pass has it
all_taken : (p : ℕ → Bool) (P : Writer → Type 0) (ws : List Writer) (a n : ℕ) → ((i : ℕ) (v : Writer) → slice_get ws i ≡ Some v → p (a + i) ≡ true → P v)
    → AllByRecursion P (take (length (take_while p (range_with_len a n))) ws)
all_taken p P ws a zero says = tt
all_taken p P [] a (suc n) says = none (length (take_while p (range_with_len a (suc n))))
  where
    none : (k : ℕ) → AllByRecursion P (take k [])
    none zero = tt
    none (suc k) = tt
all_taken p P (w ∷ ws) a (suc n) says = subst (λ places. AllByRecursion P (take (length places) (w ∷ ws))) (sym (take_while-cons p a (range_with_len (a + 1) n)))
    (by_first (p a) refl (all_taken p P ws (a + 1) n (λ i v at passes. says (suc i) v at (subst (λ k. p k ≡ true) (omega arith) passes))))
  where
    by_first : (b : Bool) → p a ≡ b → AllByRecursion P (take (length (take_while p (range_with_len (a + 1) n))) ws)
        → AllByRecursion P (take (length (if p a then a ∷ take_while p (range_with_len (a + 1) n) else [])) (w ∷ ws))
    by_first false e more = rw e tt
    by_first true e more = rw e (says zero w refl (subst (λ k. p k ≡ true) (omega arith) e), more)

item_at : (ws : List Writer) (i : ℕ) (v : Writer) → slice_get ws i ≡ Some v → slice_get (map item_of ws) i ≡ Some (item_of v)
item_at ws i v at = slice_get-map item_of ws i ∙ rw at refl

-- a writer that fits into its leader's group
fitting : (max : ℕ) (w v : Writer) (items : List Item) (i : ℕ) → slice_get items i ≡ Some (item_of v) → fits_at max (item_of w ∷ items) (1 + i) ≡ true
    → (total : ℕ) × (fits max (item_of w) total (item_of v) ≡ true)
fitting max w v items i at passes =
    let behind : suc i ≡ 1 + i = omega arith in
    let place : slice_get (item_of w ∷ items) (1 + i) ≡ Some (item_of v) = subst (λ k. slice_get (item_of w ∷ items) k ≡ Some (item_of v)) behind at in
    (size_of (take (1 + i + 1) (item_of w ∷ items)), rw place at passes)

-- what holds of each writer that fits into a leader's group holds of those that the leader takes
grouped : (P : Writer → Writer → Type 0) → ((max : ℕ) (w v : Writer) (total : ℕ) → fits max (item_of w) total (item_of v) ≡ true → P w v)
    → (max : ℕ) (w : Writer) (ws : List Writer) → (rest : ℕ) × (group_len max (map item_of (w ∷ ws)) ≡ suc rest) × AllByRecursion (P w) (take rest ws)
grouped P says max w ws =
    let places = take_while (fits_at max (map item_of (w ∷ ws))) (range_with_len 1 (length (map item_of (w ∷ ws)) - 1)) in (
      length places,
      omega arith,
      all_taken (fits_at max (map item_of (w ∷ ws))) (P w) ws 1 (length (map item_of (w ∷ ws)) - 1)
          (λ i v at passes. let fit = fitting max w v (map item_of ws) i (item_at ws i v at) passes in says max w v fit.0 fit.1),
    )

-- such a writer is to be logged if its leader is, and may be slowed down if its leader may
logs_alike : (max : ℕ) (w v : Writer) (total : ℕ) → fits max (item_of w) total (item_of v) ≡ true → v.options.no_log ≡ w.options.no_log
logs_alike max w v total fit = same_bools v.options.no_log w.options.no_log (and_parts _ _ (and_parts _ _ fit).0).1

slows_alike : (max : ℕ) (w v : Writer) (total : ℕ) → fits max (item_of w) total (item_of v) ≡ true → v.options.no_slowdown ≡ w.options.no_slowdown
slows_alike max w v total fit = same_bools v.options.no_slowdown w.options.no_slowdown (and_parts _ _ (and_parts _ _ (and_parts _ _ fit).0).0).1

pub one_flag : (max : ℕ) (ws : List Writer) → SameLogFlag (take (group_len max (map item_of ws)) ws)
one_flag max [] = empty (group_len max [])
  where
    empty : (n : ℕ) → SameLogFlag (take n [])
    empty zero = tt
    empty (suc n) = tt
one_flag max (w ∷ ws) = let g = grouped (λ (w v : Writer). v.options.no_log ≡ w.options.no_log) logs_alike max w ws in rw g.1 g.2

-- both write: who reads the log takes nobody into its group, and goes into none
unread : (since : Option ℕ) → not (is_some since) ≡ true → since ≡ None
unread None e = refl
unread (Some n) e = absurd (cc)

writes_alike : (max : ℕ) (w v : Writer) (total : ℕ) → fits max (item_of w) total (item_of v) ≡ true → (w.since ≡ None) × (v.since ≡ None)
writes_alike max w v total fit =
    let both = (and_parts _ _ (and_parts _ _ (and_parts _ _ (and_parts _ _ fit).0).0).0).0 in
    (unread w.since (and_parts _ _ both).0, unread v.since (and_parts _ _ both).1)

alone_or_writes : (w : Writer) (vs : List Writer) → AllByRecursion (λ (v : Writer). (w.since ≡ None) × (v.since ≡ None)) vs → (length (w ∷ vs) ≡ 1) ⊎ AreWrites (w ∷ vs)
alone_or_writes w [] a = inl refl
alone_or_writes w (v ∷ vs) a = inr (a.0.0, (a.0.1, all_weaker (λ (v : Writer). (w.since ≡ None) × (v.since ≡ None)) (λ (v : Writer). v.since ≡ None) (λ v both. both.1) vs a.1))

pub read_alone : (max : ℕ) (ws : List Writer) → (length (take (group_len max (map item_of ws)) ws) ≡ 1) ⊎ AreWrites (take (group_len max (map item_of ws)) ws)
read_alone max [] = inr (empty (group_len max []))
  where
    empty : (n : ℕ) → AreWrites (take n [])
    empty zero = tt
    empty (suc n) = tt
read_alone max (w ∷ ws) = let g = grouped (λ (w v : Writer). (w.since ≡ None) × (v.since ≡ None)) writes_alike max w ws in rw g.1 (alone_or_writes w (take g.0 ws) g.2)

-- a group whose leader writes is one of writers that write
pub are_writes : (ws : List Writer) → (length ws ≡ 1) ⊎ AreWrites ws → not (is_alone ws) ≡ true → AreWrites ws
are_writes [] alone e = tt
are_writes (w ∷ []) alone e = (unread w.since e, tt)
are_writes (w ∷ v ∷ ws) (inl one) e = absurd (omega arith)
are_writes (w ∷ v ∷ ws) (inr writes) e = writes

-- a group may be slowed down as a whole, or not at all
abbrev pub SameSlowdown : List Writer → Type 0
SameSlowdown [] = Unit {0}
SameSlowdown (w ∷ ws) = AllByRecursion (λ (v : Writer). v.options.no_slowdown ≡ w.options.no_slowdown) ws

pub one_slowdown : (max : ℕ) (ws : List Writer) → SameSlowdown (take (group_len max (map item_of ws)) ws)
one_slowdown max [] = empty (group_len max [])
  where
    empty : (n : ℕ) → SameSlowdown (take n [])
    empty zero = tt
    empty (suc n) = tt
one_slowdown max (w ∷ ws) = let g = grouped (λ (w v : Writer). v.options.no_slowdown ≡ w.options.no_slowdown) slows_alike max w ws in rw g.1 g.2
