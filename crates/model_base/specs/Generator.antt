-- The script that a seed makes, drawn by a linear congruential generator, and the summary of its outcome.
use Rattle.std.specs.Prelude.{ℕ, zero, suc, ◌+◌, ◌*◌, ◌/◌, ◌%◌, ◌^◌, false, List, [], ◌∷◌, ◌++◌, length, map, sum_by, codes, decimal, ◌==◌, if◌then◌else◌, None}
use Rattle.std.specs.List.{range_with_len}
use Rattle.model_base.specs.declared.write.WriteOptions.{WriteOptions}
use Rattle.model_base.specs.Batch.{Record, value, deletion}
use Rattle.model_base.specs.History.{Entry}
use Rattle.model_base.specs.Calls.{Command, add, commit, Outcome}
use Rattle.model_base.specs.Script.{Script, value_of_digits}
use Rattle.model_base.specs.Text.{line}

-- the generator's state after a draw, and the number that a draw gives when it reaches a state
abbrev pub next_state : ℕ → ℕ
next_state state = (state * 1103515245 + 12345) % 2 ^ 31

abbrev pub number_at : ℕ → ℕ
number_at state = state / 65536

-- the state from which a client draws
abbrev pub first_state : ℕ → ℕ → ℕ
first_state seed client = (seed + client) % 2 ^ 31

-- the first n numbers that are drawn from a state, in order
abbrev pub numbers_from : ℕ → ℕ → List ℕ
numbers_from zero state = []
numbers_from (suc n) state = number_at (next_state state) ∷ numbers_from n (next_state state)

-- what was made by some draws, and the state after them
pub record Draw (A : Type 0) : Type 0 where
  pub made : A
  pub state : ℕ

-- each client has keys of its own
abbrev pub key_of : ℕ → ℕ → List ℕ
key_of client n = codes "c" ++ decimal client ++ codes "k" ++ decimal n

-- one draw gives the key's number, one the kind, and for a value one more gives the value's number
abbrev pub record_drawn : ℕ → ℕ → Draw Record
record_drawn client state =
    let at_key = next_state state in let key = key_of client (number_at at_key % 100) in
    let at_kind = next_state at_key in let at_value = next_state at_kind in
    if number_at at_kind % 4 == 0 then record { made = deletion None key; state = at_kind }
    else record { made = value None key (decimal (number_at at_value % 1000)); state = at_value }

abbrev pub with_rest : Draw Record → Draw (List Command) → Draw (List Command)
with_rest r rest = record { made = add r.made ∷ rest.made; state = rest.state }

-- n records, one after another
abbrev pub records_drawn : ℕ → ℕ → ℕ → Draw (List Command)
records_drawn zero client state = record { made = []; state = state }
records_drawn (suc n) client state = let r = record_drawn client state in with_rest r (records_drawn n client r.state)

abbrev pub plain : WriteOptions
plain = record { sync = false; no_log = false; no_slowdown = false }

-- a draw gives the number of records of a batch, from one to four; after them it is committed
abbrev pub batch_drawn : ℕ → ℕ → Draw (List Command)
batch_drawn client state =
    let at_count = next_state state in let records = records_drawn (1 + number_at at_count % 4) client at_count in
    record records { made = records.made ++ commit plain ∷ [] }

abbrev pub batches_drawn : ℕ → ℕ → ℕ → List Command
batches_drawn zero client state = []
batches_drawn (suc n) client state =
    let batch = batch_drawn client state in batch.made ++ batches_drawn n client batch.state

-- The script of a seed, for this number of clients with this number of batches each. A client's batches don't depend on
-- the others.
abbrev pub script_of_seed : ℕ → ℕ → ℕ → Script
script_of_seed seed clients batches =
    map (λ client. batches_drawn batches client (first_state seed client)) (range_with_len 1 clients)

abbrev pub number_line : List ℕ → ℕ → List ℕ
number_line word n = line (word ∷ decimal n ∷ [])

-- What is printed of its outcome: the numbers of clients, of accepted batches and of counted records, the last
-- sequence, the number of keys, and the sum of their values as numbers. It is the same in every order of the clients'
-- batches, since no two clients have a key in common.
abbrev pub summary_text : Outcome → List ℕ
summary_text o =
    number_line (codes "clients") (length o.transcripts) ++ number_line (codes "batches") (length o.history)
    ++ number_line (codes "records") (sum_by (λ (e : Entry). e.count) o.history) ++ number_line (codes "last") o.last
    ++ number_line (codes "keys") (length o.state)
    ++ number_line (codes "sum") (sum_by (λ p. value_of_digits p.1) o.state)
