-- The summary of a script whose batches are all accepted, by the script alone.
use Rattle.std.specs.Prelude.{ℕ, List, [], ◌∷◌, ◌++◌, length, sum_by, flat_map, codes}
use Rattle.model_base.specs.Batch.{Record, count_of}
use Rattle.model_base.specs.Calls.{Command, add, commit}
use Rattle.model_base.specs.Map.{Pairs, after_records}
use Rattle.model_base.specs.Script.{Script, value_of_digits}
use Rattle.model_base.specs.Generator.{number_line}

-- the batches that a client's commands make: each commit ends one, of what was added before it
abbrev pub batches_after : List Record → List Command → List (List Record)
batches_after pending [] = []
batches_after pending (add r ∷ commands) = batches_after (pending ++ r ∷ []) commands
batches_after pending (commit how ∷ commands) = pending ∷ batches_after [] commands
batches_after pending (other ∷ commands) = batches_after pending commands

-- the batches of all clients, one client after another
abbrev pub batches_of : Script → List (List Record)
batches_of script = flat_map (batches_after []) script

-- the map that all their records make, in that order
abbrev pub map_of_batches : List (List Record) → Pairs
map_of_batches batches = after_records [] (flat_map (λ records. records) batches)

-- how many of their records count, and so take a sequence
abbrev pub count_of_batches : List (List Record) → ℕ
count_of_batches batches = sum_by count_of batches

-- What is printed: the numbers of clients, of batches and of counted records, the last sequence (which is the same
-- number as that of the records, since sequences begin at 1), the number of keys, and the sum of their values
abbrev pub summary_of : Script → List ℕ
summary_of script =
    let batches = batches_of script in let state = map_of_batches batches in
    number_line (codes "clients") (length script) ++ number_line (codes "batches") (length batches)
    ++ number_line (codes "records") (count_of_batches batches) ++ number_line (codes "last") (count_of_batches batches)
    ++ number_line (codes "keys") (length state)
    ++ number_line (codes "sum") (sum_by (λ p. value_of_digits p.1) state)
