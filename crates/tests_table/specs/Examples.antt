-- A batch with a record of each kind, and the versions that it makes.
use Rattle.std.specs.Prelude.{ℕ, List, [], ◌∷◌, Some, None, codes}
use Rattle.model_base.specs.Batch.{Record, value, deletion, single_deletion, log_data}
use Rattle.model_base.specs.Map.{key_at}
use Rattle.table_rule.specs.declared.content.Version.{Version}
use Rattle.table_rule.specs.declared.content.MemberVersions.{MemberVersions}
use Rattle.table_rule.specs.Batches.{new_versions, number_from}

abbrev pub one_of_each : List Record
one_of_each =
    log_data (codes "note") ∷ value None (codes "a") (codes "1") ∷ deletion (Some 7) (codes "b")
    ∷ single_deletion None (codes "c") ∷ []

-- the versions that it makes, with sequences from `first` on
abbrev pub versions_from : ℕ → List Version
versions_from first = number_from first (new_versions one_of_each)

abbrev pub put_a : ℕ → Version
put_a sequence = record { key = key_at 0 (codes "a"); value = Some (codes "1"); sequence = sequence }

abbrev pub delete_b : ℕ → Version
delete_b sequence = record { key = key_at 7 (codes "b"); value = None; sequence = sequence }

abbrev pub delete_c : ℕ → Version
delete_c sequence = record { key = key_at 0 (codes "c"); value = None; sequence = sequence }

-- its three versions, with these sequences
abbrev pub three_at : ℕ → ℕ → ℕ → List Version
three_at a b c = put_a a ∷ delete_b b ∷ delete_c c ∷ []

-- the versions of this member
abbrev pub of_member : ℕ → List Version → MemberVersions
of_member member versions = record { member = member; versions = versions }
