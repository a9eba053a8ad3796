-- Each value that is drawn is a number below 1000.
use Rattle.std.proofs.Common.{◌≡◌, ℕ, zero, suc, ◌+◌, ◌-◌, ◌*◌, ◌%◌, ◌^◌, ◌<◌, List, [], ◌∷◌, ◌++◌, decimal, ◌∙◌, arith}
use Rattle.std.specs.List.{AllByRecursion}
use Rattle.std.proofs.lemmas.Fmt.{decimal_by_steps}
use Rattle.std.proofs.lemmas.List.Sums.{fold_push}
use Rattle.model_base.specs.Calls.{Command, add, commit}
use Rattle.model_base.specs.Script.{value_of_digits}
use Rattle.model_base.specs.Generator.{next_state, number_at, first_state, record_drawn, records_drawn, plain, batch_drawn, batches_drawn, script_of_seed}
use Rattle.run_generator.specs.Values.{HasSmallValue}
use Rattle.run_generator.proofs.Sizes.{of_drawn, of_each}

-- the digits of a number have its value
value_of_digits-decimal : (n : ℕ) → n < 2 ^ 64 → value_of_digits (decimal n) ≡ n
value_of_digits-decimal n fits =
    decimal_by_steps (λ m ds. value_of_digits ds ≡ m) (λ m digit. omega arith)
    (λ m ds large so_far.
    let last = fold_push (λ (v d : ℕ). 10 * v + (d - 48)) 0 ds (48 + m % 10) in
    last ∙ omega (arith, so_far))
    n fits

record_small : (client state : ℕ) → HasSmallValue (add (record_drawn client state).made)
record_small client state =
    of_drawn (λ r. HasSmallValue (add r)) client state (λ n small. tt) (λ n v small below. omega (arith, below, value_of_digits-decimal v (omega arith)))

small-append : (cs ds : List Command) → AllByRecursion HasSmallValue cs → AllByRecursion HasSmallValue ds → AllByRecursion HasSmallValue (cs ++ ds)
small-append [] ds first second = second
small-append (c ∷ cs) ds first second = (first.0, small-append cs ds first.1 second)

records_small : (n client state : ℕ) → AllByRecursion HasSmallValue (records_drawn n client state).made
records_small zero client state = tt
records_small (suc n) client state = (record_small client state, records_small n client (record_drawn client state).state)

batches_small : (n client state : ℕ) → AllByRecursion HasSmallValue (batches_drawn n client state)
batches_small zero client state = tt
batches_small (suc n) client state =
    let begun = next_state state in
    let records = records_small (1 + number_at begun % 4) client begun in
    small-append (batch_drawn client state).made _ (small-append _ (commit plain ∷ []) records (tt, tt)) (batches_small n client (batch_drawn client state).state)

pub generated_small : (seed clients batches : ℕ) → AllByRecursion (λ cs. AllByRecursion HasSmallValue cs) (script_of_seed seed clients batches)
generated_small seed clients batches =
    of_each (λ cs. AllByRecursion HasSmallValue cs) (λ client. batches_drawn batches client (first_state seed client)) 1 clients (λ client within. batches_small batches client (first_state seed client))
