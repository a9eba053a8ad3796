-- The versions that a batch's records make.
use Rattle.std.specs.Prelude.{ℕ, ◌+◌, List, [], ◌∷◌, Some, None}
use Rattle.model_base.specs.Batch.{Record, value, deletion, single_deletion, log_data}
use Rattle.model_base.specs.Map.{key_in}
use Rattle.table_rule.specs.declared.content.Version.{Version}

-- one for each record that counts, with the sequence 0; a single deletion makes one like a deletion
abbrev pub new_versions : List Record → List Version
new_versions [] = []
new_versions (value family key v ∷ records) =
    record { key = key_in family key; value = Some v; sequence = 0 } ∷ new_versions records
new_versions (deletion family key ∷ records) =
    record { key = key_in family key; value = None; sequence = 0 } ∷ new_versions records
new_versions (single_deletion family key ∷ records) =
    record { key = key_in family key; value = None; sequence = 0 } ∷ new_versions records
new_versions (log_data blob ∷ records) = new_versions records

-- these versions, with sequences that count up from `first`
abbrev pub number_from : ℕ → List Version → List Version
number_from first [] = []
number_from first (v ∷ versions) = record v { sequence = first } ∷ number_from (first + 1) versions
