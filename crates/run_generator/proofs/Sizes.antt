-- All that a client adds fits into one batch: a record has 12 bytes at most, and a batch four records.
use Rattle.std.proofs.Common.{◌≡◌, ℕ, zero, suc, ◌+◌, ◌*◌, ◌/◌, ◌%◌, ◌<◌, ◌≤◌, Bool, true, false, cond, nat_lt, ◌==◌, List, [], ◌∷◌, ◌++◌, length, map, codes, decimal, None, ap, arith, length-append}
use Rattle.std.specs.List.{AllByRecursion, range_with_len}
use Rattle.std.proofs.lemmas.Bool.{cond-true, lt-ltb}
use Rattle.std.proofs.lemmas.Fmt.{length-decimal-le, decimal_nonempty}
use Rattle.std.proofs.lemmas.List.{append-nil}
use Rattle.std.proofs.lemmas.Nat.{mod_below}
use Rattle.model_base.specs.declared.limits.TheConstants.{MAX_CLIENTS, MAX_SIZE}
use Rattle.model_base.specs.Varint.{varint, varint_within}
use Rattle.model_base.specs.Batch.{Record, value, deletion, count_of, varstring, record_bytes, header, body, size_of_batch}
use Rattle.model_base.specs.Calls.{Command, add, commit}
use Rattle.model_base.specs.Generator.{Draw, next_state, number_at, first_state, key_of, record_drawn, records_drawn, plain, batch_drawn, batches_drawn, script_of_seed}
use Rattle.run_scripts.specs.Scripts.{additions_of}

-- a short length is spelled in one byte
one_byte : (k n : ℕ) → n < 128 → length (varint_within (suc k) n) ≡ 1
unfolding varint_within
one_byte k n small = ap length (cond-true (nat_lt n 128) (n ∷ []) ((128 + n % 128) ∷ varint_within k (n / 128)) (lt-ltb n 128 small))

varstring_len : (w : List ℕ) → length w < 128 → length (varstring w) ≡ length w + 1
varstring_len w small = omega (arith, one_byte 4 (length w) small, length-append (varint (length w)) w)

-- a key has one to six bytes, and a value one to three
pub key_len : (client n : ℕ) → client ≤ MAX_CLIENTS → n < 100 → (1 ≤ length (key_of client n)) × (length (key_of client n) ≤ 6)
key_len client n few small =
    let c = codes "c" ++ decimal client in
    let whole = length-append (c ++ codes "k") (decimal n) in
    let before = length-append c (codes "k") in
    let first = length-append (codes "c") (decimal client) in
    let client_digits : length (decimal client) ≤ 2 = length-decimal-le 2 client (omega arith) (omega arith) (omega arith) in
    let digits : length (decimal n) ≤ 2 = length-decimal-le 2 n (omega arith) (omega arith) (omega arith) in
    (omega (arith, whole, before, first), omega (arith, whole, before, first, client_digits, digits))

pub value_len : (n : ℕ) → n < 1000 → (1 ≤ length (decimal n)) × (length (decimal n) ≤ 3)
value_len n small = (decimal_nonempty n (omega arith), length-decimal-le 3 n (omega arith) (omega arith) (omega arith))

deletion_len : (key : List ℕ) → length key ≤ 6 → length (record_bytes (deletion None key)) ≤ 12
deletion_len key short = omega (arith, varstring_len key (omega arith), ap length (append-nil (varstring key)))

put_len : (key v : List ℕ) → length key ≤ 6 → length v ≤ 3 → length (record_bytes (value None key v)) ≤ 12
put_len key v short few =
    omega (arith, varstring_len key (omega arith), varstring_len v (omega arith), length-append (varstring key) (varstring v ++ []), ap length (append-nil (varstring v)))

by_kind : (P : Record → Type 0) (is_deletion : Bool) (one other : Draw Record) → P one.made → P other.made → P (cond is_deletion one other).made
by_kind P true one other p q = p
by_kind P false one other p q = q

-- what holds of each record that can be drawn holds of the one that is
pub of_drawn : (P : Record → Type 0) (client state : ℕ) → ((n : ℕ) → n < 100 → P (deletion None (key_of client n))) → ((n v : ℕ) → n < 100 → v < 1000 → P (value None (key_of client n) (decimal v))) → P (record_drawn client state).made
of_drawn P client state deleted put =
    let at_key = next_state state in
    let at_kind = next_state at_key in
    let at_value = next_state at_kind in
    let n = number_at at_key % 100 in
    let v = number_at at_value % 1000 in
    let small : n < 100 = mod_below (number_at at_key) 100 (omega arith) in
    let few : v < 1000 = mod_below (number_at at_value) 1000 (omega arith) in
    by_kind P (number_at at_kind % 4 == 0) (record { made = deletion None (key_of client n); state = at_kind }) (record { made = value None (key_of client n) (decimal v); state = at_value }) (deleted n small) (put n v small few)

record_len : (client state : ℕ) → client ≤ MAX_CLIENTS → length (record_bytes (record_drawn client state).made) ≤ 12
record_len client state few =
    of_drawn (λ r. length (record_bytes r) ≤ 12) client state
    (λ n small. deletion_len (key_of client n) (key_len client n few small).1)
    (λ n v small below. put_len (key_of client n) (decimal v) (key_len client n few small).1 (value_len v below).1)

-- how long the records are that commands add
abbrev added_len : List Command → ℕ
added_len cs = length (body (additions_of cs))

added_len-append : (cs ds : List Command) → added_len (cs ++ ds) ≡ added_len cs + added_len ds
added_len-append [] ds = omega arith
added_len-append (add r ∷ cs) ds =
    omega (arith, length-append (record_bytes r) (body (additions_of (cs ++ ds))), length-append (record_bytes r) (body (additions_of cs)), added_len-append cs ds)
added_len-append (other ∷ cs) ds = added_len-append cs ds

records_len : (n client state : ℕ) → client ≤ MAX_CLIENTS → added_len (records_drawn n client state).made ≤ 12 * n
records_len zero client state few = omega arith
records_len (suc n) client state few =
    let r = record_drawn client state in
    omega (arith, record_len client state few, records_len n client r.state few, length-append (record_bytes r.made) (body (additions_of (records_drawn n client r.state).made)))

batch_len : (client state : ℕ) → client ≤ MAX_CLIENTS → added_len (batch_drawn client state).made ≤ 48
batch_len client state few =
    let begun = next_state state in
    let n = number_at begun % 4 in
    let below : n < 4 = mod_below _ 4 (omega arith) in
    omega (arith, below, records_len (1 + n) client begun few, added_len-append (records_drawn (1 + n) client begun).made (commit plain ∷ []))

batches_len : (n client state : ℕ) → client ≤ MAX_CLIENTS → added_len (batches_drawn n client state) ≤ 48 * n
batches_len zero client state few = omega arith
batches_len (suc n) client state few =
    let b = batch_drawn client state in
    omega (arith, batch_len client state few, batches_len n client b.state few, added_len-append b.made (batches_drawn n client b.state))

client_fits : (seed client batches : ℕ) → client ≤ MAX_CLIENTS → batches ≤ 100000 → size_of_batch (additions_of (batches_drawn batches client (first_state seed client))) ≤ MAX_SIZE
client_fits seed client batches few bounded =
    let records = additions_of (batches_drawn batches client (first_state seed client)) in
    omega (arith, bounded, batches_len batches client (first_state seed client) few, length-append (header 0 (count_of records)) (body records))

-- what holds of each client's commands holds of all
pub of_each : (P : List Command → Type 0) (f : ℕ → List Command) (first n : ℕ) → ((client : ℕ) → client < first + n → P (f client)) → AllByRecursion P (map f (range_with_len first n))
of_each P f first zero each = tt
of_each P f first (suc n) each = (each first (omega arith), of_each P f (first + 1) n (λ client within. each client (omega arith)))

pub generated_fits : (seed clients batches : ℕ) → clients ≤ MAX_CLIENTS → batches ≤ 100000 → AllByRecursion (λ cs. size_of_batch (additions_of cs) ≤ MAX_SIZE) (script_of_seed seed clients batches)
generated_fits seed clients batches few bounded =
    of_each (λ cs. size_of_batch (additions_of cs) ≤ MAX_SIZE) (λ client. batches_drawn batches client (first_state seed client)) 1 clients (λ client within. client_fits seed client batches (omega arith) bounded)
