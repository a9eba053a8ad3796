-- What holds of each record that can be drawn holds of all records that a generated client adds.
use Rattle.std.proofs.Common.{◌≡◌, ℕ, zero, suc, ◌+◌, ◌-◌, ◌*◌, ◌%◌, ◌^◌, ◌<◌, Bool, true, false, cond, ◌==◌, [], ◌∷◌, decimal, None, ◌∙◌, arith}
use Rattle.std.specs.List.{AllByRecursion}
use Rattle.std.proofs.lemmas.Fmt.{decimal_by_steps}
use Rattle.std.proofs.lemmas.List.Sums.{fold_push}
use Rattle.std.proofs.lemmas.Nat.{mod_below}
use Rattle.model_base.specs.Batch.{Record, value, deletion}
use Rattle.model_base.specs.Calls.{commit}
use Rattle.model_base.specs.Script.{value_of_digits}
use Rattle.model_base.specs.Generator.{Draw, next_state, number_at, key_of, record_drawn, records_drawn, plain, batch_drawn, batches_drawn}
use Rattle.run_laws.proofs.Lists.{all_both}
use Rattle.run_laws.proofs.Progresses.{AddsOnly}

-- the digits of a number have its value
pub value_of_digits-decimal : (n : ℕ) → n < 2 ^ 64 → value_of_digits (decimal n) ≡ n
value_of_digits-decimal n fits =
    decimal_by_steps (λ m ds. value_of_digits ds ≡ m) (λ m digit. omega arith)
    (λ m ds large so_far.
    let last = fold_push (λ (v d : ℕ). 10 * v + (d - 48)) 0 ds (48 + m % 10) in
    last ∙ omega (arith, so_far))
    n fits

by_kind : (P : Record → Type 0) (is_deletion : Bool) (one other : Draw Record) → P one.made → P other.made → P (cond is_deletion one other).made
by_kind P true one other p q = p
by_kind P false one other p q = q

-- it holds of the client's deletions and of its values below 1000
pub record HoldsOfDrawn (P : ℕ → Record → Type 0) (client : ℕ) : Type 0 where
  pub deletions : (n : ℕ) → n < 100 → P client (deletion None (key_of client n))
  pub values : (n v : ℕ) → n < 100 → v < 1000 → P client (value None (key_of client n) (decimal v))

module _ (P : ℕ → Record → Type 0) (client : ℕ) (drawn : HoldsOfDrawn P client) where
  pub of_drawn : (state : ℕ) → P client (record_drawn client state).made
  of_drawn state =
      let at_key = next_state state in let at_kind = next_state at_key in let at_value = next_state at_kind in
      let n = number_at at_key % 100 in let v = number_at at_value % 1000 in
      by_kind (P client) (number_at at_kind % 4 == 0) (record { made = deletion None (key_of client n); state = at_kind }) (record { made = value None (key_of client n) (decimal v); state = at_value })
      (drawn.deletions n (mod_below (number_at at_key) 100 (omega arith))) (drawn.values n v (mod_below (number_at at_key) 100 (omega arith)) (mod_below (number_at at_value) 1000 (omega arith)))

  of_records : (n state : ℕ) → AllByRecursion (AddsOnly P client) (records_drawn n client state).made
  of_records zero state = tt
  of_records (suc n) state = (of_drawn state, of_records n (record_drawn client state).state)

  pub of_batches : (n state : ℕ) → AllByRecursion (AddsOnly P client) (batches_drawn n client state)
  of_batches zero state = tt
  of_batches (suc n) state =
      let begun = next_state state in let records = of_records (1 + number_at begun % 4) begun in let b = batch_drawn client state in
      all_both (AddsOnly P client) b.made (batches_drawn n client b.state) (all_both (AddsOnly P client) _ (commit plain ∷ []) records (tt, tt)) (of_batches n b.state)
