-- The sizes of the records that lines add, and plans whose batches aren't too large.
use Rattle.std.specs.Prelude.{ℕ, ◌+◌, ◌-◌, ◌^◌, min, nat_le, ◌≤◌, Bool, true, List, [], ◌∷◌, ◌++◌, length, Option, Some, None, if◌then◌else◌}
use Rattle.model_base.specs.declared.limits.TheConstants.{MAX_SIZE}
use Rattle.model_base.specs.Batch.{Record, is_counted, record_bytes, size_of_batch}
use Rattle.model_base.specs.Progress.{families_in, first_missing}
use Rattle.model_base.specs.Calls.{Command, add, clear, commit}
use Rattle.run_command_list.specs.Kinds.{record_added}

-- how many bytes a record has, if there is one, and how many sequences it takes
abbrev pub record_size : Option Record → ℕ
record_size None = 0
record_size (Some r) = length (record_bytes r)

abbrev pub record_count : Option Record → ℕ
record_count None = 0
record_count (Some r) = if is_counted r then 1 else 0

-- a record's family, if it has one and there isn't that family
abbrev pub missing_in : ℕ → Option Record → Option ℕ
missing_in families None = None
missing_in families (Some r) = first_missing families (families_in (r ∷ []))

-- Each commit of these commands, by a client that has these records in its batch, has a batch of at most 16 MiB, even
-- if no commit before it is accepted.
abbrev pub AreSmall : List Record → List Command → Type 0
AreSmall added [] = Unit {0}
AreSmall added (add r ∷ left) = AreSmall (added ++ r ∷ []) left
AreSmall added (clear ∷ left) = AreSmall [] left
AreSmall added (commit how ∷ left) = (size_of_batch added ≤ MAX_SIZE) × AreSmall added left
AreSmall added (other ∷ left) = AreSmall added left

abbrev pub IsSmallPlan : List Command → Type 0
IsSmallPlan plan = AreSmall [] plan

-- The batch's size, line by line

-- whether a command may come where the batch has this size; a commit may not, if the batch is too large
abbrev pub fits : Command → ℕ → Bool
fits (commit how) size = nat_le size MAX_SIZE
fits other size = true

-- a size with the bytes of one more record, at most the largest 64-bit number
abbrev pub size_with : Option Record → ℕ → ℕ
size_with added size = min (size + record_size added) (2 ^ 64 - 1)

-- the size of the batch after a command
abbrev pub size_after : Command → ℕ → ℕ
size_after clear size = 12
size_after other size = size_with (record_added other) size
