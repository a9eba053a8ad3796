-- Each command is one that a line of a script may say.
use Rattle.std.proofs.Common.{◌≡◌, ℕ, zero, suc, ◌+◌, ◌%◌, ◌<◌, ◌≤◌, List, [], ◌∷◌, ◌++◌, decimal, arith}
use Rattle.std.specs.List.{AllByRecursion}
use Rattle.model_base.specs.declared.limits.TheConstants.{MAX_CLIENTS}
use Rattle.model_base.specs.Calls as calls
use Rattle.model_base.specs.Generator.{next_state, number_at, first_state, key_of, record_drawn, records_drawn, plain, batch_drawn, batches_drawn, script_of_seed}
use Rattle.run_scripts.specs.Scripts.{IsShort, AddsShort, IsScriptCommand}
use Rattle.run_generator.proofs.Sizes.{key_len, value_len, of_drawn, of_each}

pub key_is_short : (client n : ℕ) → client ≤ MAX_CLIENTS → n < 100 → IsShort (key_of client n)
key_is_short client n few small = let len = key_len client n few small in (len.0, omega (arith, len.1))

pub value_is_short : (v : ℕ) → v < 1000 → IsShort (decimal v)
value_is_short v small = let len = value_len v small in (len.0, omega (arith, len.1))

record_made : (client state : ℕ) → client ≤ MAX_CLIENTS → AddsShort (record_drawn client state).made
record_made client state few =
    of_drawn AddsShort client state (λ n small. (tt, key_is_short client n few small)) (λ n v small below. (tt, key_is_short client n few small, value_is_short v below))

made-append : (cs ds : List calls.Command) → AllByRecursion IsScriptCommand cs → AllByRecursion IsScriptCommand ds → AllByRecursion IsScriptCommand (cs ++ ds)
made-append [] ds first second = second
made-append (c ∷ cs) ds first second = (first.0, made-append cs ds first.1 second)

records_made : (n client state : ℕ) → client ≤ MAX_CLIENTS → AllByRecursion IsScriptCommand (records_drawn n client state).made
records_made zero client state few = tt
records_made (suc n) client state few = (record_made client state few, records_made n client (record_drawn client state).state few)

batches_made : (n client state : ℕ) → client ≤ MAX_CLIENTS → AllByRecursion IsScriptCommand (batches_drawn n client state)
batches_made zero client state few = tt
batches_made (suc n) client state few =
    let begun = next_state state in
    let records = records_made (1 + number_at begun % 4) client begun few in
    made-append (batch_drawn client state).made _ (made-append _ (calls.commit plain ∷ []) records (tt, tt)) (batches_made n client (batch_drawn client state).state few)

generated_made : (seed clients batches : ℕ) → clients ≤ MAX_CLIENTS → AllByRecursion (AllByRecursion IsScriptCommand) (script_of_seed seed clients batches)
generated_made seed clients batches few =
    of_each (AllByRecursion IsScriptCommand) (λ client. batches_drawn batches client (first_state seed client)) 1 clients (λ client within. batches_made batches client (first_state seed client) (omega arith))

pub generated_said : (seed n batches : ℕ) (clients : List (List calls.Command)) → n ≤ MAX_CLIENTS → clients ≡ script_of_seed seed n batches → AllByRecursion (AllByRecursion IsScriptCommand) clients
generated_said seed n batches clients few is = rw is (generated_made seed n batches few)
