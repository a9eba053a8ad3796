-- Where each client's entries end, by the parts that the groups made.
use Rattle.std.specs.Prelude.{ℕ, List, map, flat_map}
use Rattle.model_base.specs.History.{Entry, last_sequence}
use Rattle.model_base.specs.Outcomes.{entries_of_client}

-- for each entry of a client, in order, the last sequence of the part that has it; this is the last one that its group
-- was given
abbrev pub ends_in : ℕ → List (List Entry) → List ℕ
ends_in client parts =
    flat_map (λ part. map (λ (e : Entry). last_sequence 0 part) (entries_of_client client part)) parts
