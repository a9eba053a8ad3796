-- The one group of commits whose log write failed.
use Rattle.std.specs.Prelude.{◌≡◌, ℕ, ◌+◌, ◌<◌, false, nat_le, if◌then◌else◌, List, [], ◌∷◌, ◌++◌, length, Some, slice_get}
use Rattle.std.specs.List.{AllZip}
use Rattle.model_base.specs.declared.write.WriteOptions.{WriteOptions}
use Rattle.model_base.specs.declared.write.Refusal.TheVariants as no
use Rattle.model_base.specs.Batch.{Record, count_of}
use Rattle.model_base.specs.History.{max_sequence}
use Rattle.model_base.specs.Attempts.{Attempt, faulted}
use Rattle.model_base.specs.Groups.{Member, IsGroup, IsCommit}
use Rattle.model_base.specs.Progress.{batch_after}
use Rattle.model_base.specs.Calls.{commit, refused, Call, Outcome}

-- those of a group's batches whose runs fit, after the sequence that was given last
abbrev pub batches_that_fit : ℕ → List (List Record) → List (List Record)
batches_that_fit last [] = []
batches_that_fit last (r ∷ rs) =
    if nat_le (last + count_of r) max_sequence
    then r ∷ batches_that_fit (last + count_of r) rs else batches_that_fit last rs

-- a commit that a leader took into its group had these records, was to be logged, and was answered the log's fault
pub record IsLost (attempts : List (List Attempt)) (count : ℕ) (m : Member) (records : List Record) : Type 0 where
  pub stands : IsCommit attempts m
  pub records_are : stands.attempt.records ≡ records
  pub to_log : stands.attempt.options.no_log ≡ false
  pub status : stands.attempt.status ≡ faulted count

-- One whole group was answered the log's fault, and these are its batches whose runs fit after `last`, the sequence
-- that was given last in the whole run. There is at least one.
pub record IsLostGroup (group_bytes : ℕ) (attempts : List (List Attempt)) (count last : ℕ)
    (batches : List (List Record)) : Type 0 where
  pub members : List Member
  pub is_group : IsGroup group_bytes members
  pub all : List (List Record)
  pub each : AllZip (IsLost attempts count) members all
  pub batches_are : batches ≡ batches_that_fit last all
  pub some : 0 < length batches

-- What the transcripts show of such a commit: it was to be logged, had these records, and was answered the log's fault
pub record IsFaultedBatch (o : Outcome) (count : ℕ) (records : List Record) : Type 0 where
  pub client : ℕ
  pub calls : List Call
  pub before : List Call
  pub after : List Call
  pub how : WriteOptions
  pub of_client : slice_get o.transcripts client ≡ Some calls
  pub there : calls ≡ before ++ record { command = commit how; reply = refused (no.LogFault count) } ∷ after
  pub to_log : how.no_log ≡ false
  pub same : records ≡ batch_after before
