-- What is kept of a log of three records, of which the second one is damaged. It is that of the rows of `list_log`.
use Rattle.std.specs.Prelude.{ℕ, ◌-◌, ◌^◌, List, [], ◌∷◌}
use Rattle.list_log.specs.Rows.{first_record, third_record}
use Rattle.log_salvage.specs.declared.keeping.Range.{Range}

-- all sequences from this one on
abbrev pub all_from : ℕ → Range
all_from sequence = record { from = sequence; to = 2 ^ 64 - 1 }

abbrev pub first_and_third : List (List ℕ)
first_and_third = first_record ∷ third_record ∷ []

abbrev pub only_third : List (List ℕ)
only_third = third_record ∷ []
