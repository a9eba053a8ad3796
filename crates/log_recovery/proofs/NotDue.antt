-- Batches that are not asked for: those before the sequence s, and those that go past `upto`.
use Rattle.std.proofs.Common.{◌≡◌, ◌≢◌, ℕ, zero, suc, ◌<◌, ◌≤◌, nat_le, ◌==◌, not, ◌&&◌, Bool, true, false, cond, List, [], ◌∷◌, ◌++◌, refl, sym, ◌∙◌, ap, arith}
use Rattle.std.proofs.lemmas.Bool.{and_parts, eqb-true, leb-true, false≢true}
use Rattle.model_base.specs.Batch.{count_of}
use Rattle.model_base.specs.Recovery.{Logged, last_of, last_after, last_sequence, AreInOrder}
use Rattle.model_base.specs.Since.{record_of_batch, is_since}
use Rattle.log_recovery.specs.Following.{GoesPast}
use Rattle.log_recovery.specs.Updating.{updates_in}
use Rattle.log_recovery.proofs.Picking.{one_since, updates_append}

some_one : (n : ℕ) → n ≢ 0 → 1 ≤ n
some_one zero some = absurd (some refl)
some_one (suc n) some = omega arith

-- what a batch is that is asked for
record IsAsked (s upto : ℕ) (b : Logged) : Type 0 where
  some : count_of b.records ≢ 0
  from : s ≤ last_of b
  to : last_of b ≤ upto

asked_for : (s upto : ℕ) (b : Logged) → is_since s upto (record_of_batch b) ≡ true → IsAsked s upto b
asked_for s upto b e =
    let parts = and_parts (not (count_of b.records == 0) && nat_le s (last_of b)) (nat_le (last_of b) upto) e in
    let first = and_parts (not (count_of b.records == 0)) (nat_le s (last_of b)) parts.0 in
    record {
      some = λ none. false≢true (ap (λ (n : ℕ). not (n == 0)) (sym none) ∙ first.0);
      from = leb-true s (last_of b) first.1;
      to = leb-true (last_of b) upto parts.1;
    }

-- one that isn't asked for isn't picked
not_picked : (s upto : ℕ) (b : Logged) → (IsAsked s upto b → ⊥) → updates_in s upto (b ∷ []) ≡ []
not_picked s upto b none = by_test (is_since s upto (record_of_batch b)) refl
  where
    by_test : (t : Bool) → is_since s upto (record_of_batch b) ≡ t → updates_in s upto (b ∷ []) ≡ []
    by_test true e = absurd (none (asked_for s upto b e))
    by_test false e = one_since s upto (record_of_batch b) ∙ ap (λ (t : Bool). cond t ((record_of_batch b).bytes ∷ []) []) e

-- the last sequence after a batch that takes sequences
after_some : (last : ℕ) (b : Logged) → count_of b.records ≢ 0 → last_after last b ≡ last_of b
after_some last b some = by_count (count_of b.records == 0) refl
  where
    by_count : (z : Bool) → (count_of b.records == 0) ≡ z → cond z last (last_of b) ≡ last_of b
    by_count true e = absurd (some (eqb-true (count_of b.records) 0 e))
    by_count false e = refl

-- in order, the last sequence doesn't fall
one_rises : (last : ℕ) (bs : List Logged) (b : Logged) → AreInOrder last (b ∷ bs) → last ≤ last_after last b
one_rises last bs b ordered = by_count (count_of b.records == 0) refl
  where
    by_count : (z : Bool) → (count_of b.records == 0) ≡ z → last ≤ cond z last (last_of b)
    by_count true e = omega arith
    by_count false e =
        let may = ordered.0 (λ none. false≢true (sym e ∙ ap (λ (n : ℕ). n == 0) none)) in omega (arith, may.0)

pub order_rises : (last : ℕ) (bs : List Logged) → AreInOrder last bs → last ≤ last_sequence last bs
order_rises last [] ordered = omega arith
order_rises last (b ∷ bs) ordered =
    let here = one_rises last bs b ordered in
    let later = order_rises (last_after last b) bs ordered.1 in
    omega (arith, here, later)

-- None of these is asked for, since they end before the sequence s.
pub none_before : (s upto last : ℕ) (bs : List Logged) → AreInOrder last bs → last_sequence last bs < s → updates_in s upto bs ≡ []
none_before s upto last [] ordered below = refl
none_before s upto last (b ∷ bs) ordered below =
    let rises = order_rises (last_after last b) bs ordered.1 in
    let here : updates_in s upto (b ∷ []) ≡ [] = not_picked s upto b (λ a. let same = after_some last b a.some in omega (arith, rises, below, same, a.from)) in
    let later = none_before s upto (last_after last b) bs ordered.1 below in
    updates_append s upto (b ∷ []) bs ∙ ap (λ (l : List (List ℕ)). l ++ updates_in s upto bs) here ∙ later

-- None of these is asked for, since they begin after `upto`.
pub none_behind : (s upto last : ℕ) (bs : List Logged) → AreInOrder last bs → upto ≤ last → updates_in s upto bs ≡ []
none_behind s upto last [] ordered above = refl
none_behind s upto last (b ∷ bs) ordered above =
    let rises = one_rises last bs b ordered in
    let here : updates_in s upto (b ∷ []) ≡ [] = not_picked s upto b (λ a. let may = ordered.0 a.some in let some = some_one (count_of b.records) a.some in omega (arith, above, may.0, some, a.to)) in
    let later = none_behind s upto (last_after last b) bs ordered.1 (omega (arith, above, rises)) in
    updates_append s upto (b ∷ []) bs ∙ ap (λ (l : List (List ℕ)). l ++ updates_in s upto bs) here ∙ later

-- Nor are those from a batch on that goes past `upto`.
pub none_from_past : (s upto last : ℕ) (b : Logged) (bs : List Logged) → AreInOrder last (b ∷ bs) → GoesPast upto b → updates_in s upto (b ∷ bs) ≡ []
none_from_past s upto last b bs ordered past =
    let same = after_some last b past.0 in
    let here : updates_in s upto (b ∷ []) ≡ [] = not_picked s upto b (λ a. let over = past.1 in omega (arith, over, a.to)) in
    let later = none_behind s upto (last_after last b) bs ordered.1 (let over = past.1 in omega (arith, same, over)) in
    updates_append s upto (b ∷ []) bs ∙ ap (λ (l : List (List ℕ)). l ++ updates_in s upto bs) here ∙ later
