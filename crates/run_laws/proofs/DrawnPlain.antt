-- What a generated client adds and commits: short records with keys of its own, one to four in a batch.
use Rattle.std.proofs.Common.{◌≡◌, ℕ, zero, suc, ◌+◌, ◌*◌, ◌/◌, ◌%◌, ◌^◌, ◌<◌, ◌≤◌, nat_lt, List, [], ◌∷◌, ◌++◌, length, codes, decimal, None, refl, sym, ap, subst, append_assoc, append-nil, arith, length-append}
use Rattle.std.proofs.lemmas.Bool.{cond-true, lt-ltb}
use Rattle.std.proofs.lemmas.Fmt.{length-decimal-le}
use Rattle.std.proofs.lemmas.Nat.{mod_below}
use Rattle.model_base.specs.declared.limits.TheConstants.{MAX_CLIENTS}
use Rattle.model_base.specs.Varint.{varint, varint_within}
use Rattle.model_base.specs.Batch.{Record, value, deletion, varstring, record_bytes}
use Rattle.model_base.specs.Calls.{Command, commit}
use Rattle.model_base.specs.Generator.{next_state, number_at, key_of, record_drawn, records_drawn, plain, batch_drawn, batches_drawn}
use Rattle.run_laws.proofs.Drawn.{HoldsOfDrawn, of_drawn}
use Rattle.run_laws.proofs.Keys.{owner-key_of}
use Rattle.run_laws.proofs.SameMap.{IsOwned}
use Rattle.run_laws.proofs.Plain.{IsShort, IsPlain}
use Rattle.run_laws.proofs.Counts.{additions, additions-append, additions-cons}

pub owned_drawn : (client : ℕ) → client < 2 ^ 64 → HoldsOfDrawn IsOwned client
owned_drawn client fits = record { deletions = λ n small. owner-key_of client n fits; values = λ n v small below. owner-key_of client n fits }

-- a record has 12 bytes at most

one_byte : (k n : ℕ) → n < 128 → length (varint_within (suc k) n) ≡ 1
unfolding varint_within
one_byte k n small = ap length (cond-true (nat_lt n 128) (n ∷ []) ((128 + n % 128) ∷ varint_within k (n / 128)) (lt-ltb n 128 small))

varstring_len : (w : List ℕ) → length w < 128 → length (varstring w) ≡ length w + 1
varstring_len w small = omega (arith, one_byte 4 (length w) small, length-append (varint (length w)) w)

key_len : (client n : ℕ) → client ≤ MAX_CLIENTS → n < 100 → length (key_of client n) ≤ 6
key_len client n few small =
    let c = codes "c" ++ decimal client in
    let whole = length-append (c ++ codes "k") (decimal n) in let before = length-append c (codes "k") in let first = length-append (codes "c") (decimal client) in
    let client_digits : length (decimal client) ≤ 2 = length-decimal-le 2 client (omega arith) (omega arith) (omega arith) in
    let digits : length (decimal n) ≤ 2 = length-decimal-le 2 n (omega arith) (omega arith) (omega arith) in
    omega (arith, whole, before, first, client_digits, digits)

deletion_len : (key : List ℕ) → length key ≤ 6 → length (record_bytes (deletion None key)) ≤ 12
deletion_len key short = omega (arith, varstring_len key (omega arith), ap length (append-nil (varstring key)))

put_len : (key v : List ℕ) → length key ≤ 6 → length v ≤ 3 → length (record_bytes (value None key v)) ≤ 12
put_len key v short few =
    omega (arith, varstring_len key (omega arith), varstring_len v (omega arith), length-append (varstring key) (varstring v ++ []), ap length (append-nil (varstring v)))

abbrev IsShortOf : ℕ → Record → Type 0
IsShortOf client r = IsShort r

short_drawn : (client : ℕ) → client ≤ MAX_CLIENTS → HoldsOfDrawn IsShortOf client
short_drawn client few = record {
  deletions = λ n small. ((refl, refl), deletion_len (key_of client n) (key_len client n few small));
  values = λ n v small below. ((refl, refl), put_len (key_of client n) (decimal v) (key_len client n few small) (length-decimal-le 3 v (omega arith) (omega arith) (omega arith)));
}

-- n more records of its batch may come before a client's next commands
plain_records : (n client state before : ℕ) (commands : List Command) → client ≤ MAX_CLIENTS → IsPlain (before + n) commands → IsPlain before ((records_drawn n client state).made ++ commands)
plain_records zero client state before commands few is = let same : before + 0 ≡ before = omega arith in subst (λ k. IsPlain k commands) same is
plain_records (suc n) client state before commands few is =
    let same : before + suc n ≡ before + 1 + n = omega arith in let r = record_drawn client state in
    (of_drawn IsShortOf client (short_drawn client few) state, plain_records n client r.state (before + 1) commands few (subst (λ k. IsPlain k commands) same is))

pub plain_batches : (n client state : ℕ) → client ≤ MAX_CLIENTS → IsPlain 0 (batches_drawn n client state)
plain_batches zero client state few = tt
plain_batches (suc n) client state few =
    let begun = next_state state in let more = number_at begun % 4 in let below : more < 4 = mod_below (number_at begun) 4 (omega arith) in
    let b = batch_drawn client state in let rest = batches_drawn n client b.state in let records = records_drawn (1 + more) client begun in
    let whole : IsPlain 0 (records.made ++ (commit plain ∷ [] ++ rest)) =
    plain_records (1 + more) client begun 0 (commit plain ∷ rest) few (refl, omega arith, omega arith, plain_batches n client b.state few) in
    subst (IsPlain 0) (sym (append_assoc records.made (commit plain ∷ []) rest)) whole

-- a client adds at most four records for each batch

records_added : (n client state : ℕ) → additions (records_drawn n client state).made ≡ n
records_added zero client state = refl
records_added (suc n) client state =
    let r = record_drawn client state in omega (arith, records_added n client r.state, additions-cons r.made (records_drawn n client r.state).made)

pub batches_added : (n client state : ℕ) → additions (batches_drawn n client state) ≤ 4 * n
batches_added zero client state = omega arith
batches_added (suc n) client state =
    let begun = next_state state in let more = number_at begun % 4 in let below : more < 4 = mod_below (number_at begun) 4 (omega arith) in
    let b = batch_drawn client state in let records = records_drawn (1 + more) client begun in
    omega (arith, below, records_added (1 + more) client begun, additions-append records.made (commit plain ∷ []), additions-append b.made (batches_drawn n client b.state), batches_added n client b.state)
