-- The batches that recovery reads, as they are shown.
use Rattle.std.specs.Prelude.{◌≡◌, ℕ, Bool, true, false, List, map, Some, None}
use Rattle.model_base.specs.declared.batch.BatchError.{BatchError}
use Rattle.model_base.specs.declared.batch.BatchError.TheVariants.{Short, BadVarint, Tag, Count}
use Rattle.model_base.specs.Batch.{Record, tag_of, named_by, strings_of, count_of}
use Rattle.batch_operations.specs.Operations.{Operation}
use Rattle.batch_operations.specs.Shown.{ShownRecord, Shows}

abbrev pub shown_operation : Record → Operation
shown_operation r = record { tag = tag_of r; family = named_by r; strings = strings_of r }

abbrev pub shown_batch : ℕ → List Record → ShownRecord
shown_batch sequence records = record {
  head = Some (record { sequence = sequence; count = count_of records });
  operations = map shown_operation records;
  fault = None;
}

-- what recovery refuses a batch for is a tag: more tags are shown than recovery reads
abbrev pub is_for_tag : BatchError → Bool
is_for_tag (Tag t) = true
is_for_tag Short = false
is_for_tag BadVarint = false
is_for_tag (Count said found) = false

-- what these bytes show ends with this fault
pub record ShowsFault (bytes : List ℕ) (error : BatchError) : Type 0 where
  pub shown : ShownRecord
  pub shows : Shows bytes shown
  pub fault : shown.fault ≡ Some error
