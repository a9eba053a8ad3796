-- What the answers to commits show of the log: how much of it had been written by then.
use Rattle.std.specs.Prelude.{◌≡◌, ℕ, ◌+◌, ◌-◌, ◌<◌, ◌≤◌, Bool, true, false, nat_le, if◌then◌else◌, List, [], ◌∷◌, ◌++◌, length, map, filter, fold, ◌==◌, Option, Some, None, IfSome, slice_get, ⊤}
use Rattle.std.specs.List.{AllByRecursion}
use Rattle.model_base.specs.Batch.{Record, count_of}
use Rattle.model_base.specs.History.{max_sequence}
use Rattle.model_base.specs.LogContents.{GroupCall, WroteBatch}
use Rattle.model_accounts.specs.Sights.{LoggedBatch}
use Rattle.engine_rule.specs.Plans.{CommitRequest, last_with}

abbrev pub has_worked : Option ℕ → Bool
has_worked None = true
has_worked (Some count) = false

-- those of the calls that worked
abbrev pub worked_in : List GroupCall → List GroupCall
worked_in calls = filter (λ (c : GroupCall). has_worked c.failed) calls

-- a batch that went into the log: the first sequence of its run, its records, and whether it was to be synced
pub record WrittenBatch : Type 0 where
  pub first : ℕ
  pub records : List Record
  pub sync : Bool

-- What the answer to a client's commit shows: how many calls of the log writer had worked by then, and the commit's
-- batch, where that went into the log. Then the last one of these calls wrote it.
pub record LogSight : Type 0 where
  pub client : ℕ
  pub made : ℕ
  pub batch : Option WrittenBatch

-- a client's own
abbrev pub sights_of : ℕ → List LogSight → List LogSight
sights_of client sights = filter (λ (s : LogSight). s.client == client) sights

-- how many calls the client knows of, by its newest answer
abbrev pub logged_by : List LogSight → ℕ
logged_by sights = fold (λ knew (s : LogSight). s.made) 0 sights

abbrev pub batch_with : ℕ → ℕ → Option WrittenBatch → List LoggedBatch
batch_with knew knows None = []
batch_with knew knows (Some b) =
    record { knew = knew; knows = knows; first = b.first; records = b.records; sync = b.sync } ∷ []

-- the client's batches that went into the log, where it knew this number of calls before these answers
abbrev pub batches_of : ℕ → List LogSight → List LoggedBatch
batches_of knew [] = []
batches_of knew (s ∷ sights) = batch_with knew s.made s.batch ++ batches_of s.made sights

-- the last one of the first `made` of these calls wrote the batch
pub record IsNewest (worked : List GroupCall) (made : ℕ) (b : WrittenBatch) : Type 0 where
  pub call : GroupCall
  pub some : 1 ≤ made
  pub there : slice_get worked (made - 1) ≡ Some call
  pub wrote : WroteBatch b.first b.records b.sync call

-- where these calls have worked, the answer shows no more of them, and shows the call that wrote its batch
pub record IsShown (worked : List GroupCall) (s : LogSight) : Type 0 where
  pub within : s.made ≤ length worked
  pub newest : IfSome s.batch (IsNewest worked s.made)

-- A later answer shows no less. A later batch of the same client was written by a later call.
pub record ShowsMore (s t : LogSight) : Type 0 where
  pub made : s.made ≤ t.made
  pub later : s.client ≡ t.client → IfSome t.batch (λ (b : WrittenBatch). s.made < t.made)

abbrev pub ShowMore : List LogSight → Type 0
ShowMore [] = ⊤
ShowMore (s ∷ sights) = AllByRecursion (ShowsMore s) sights × ShowMore sights

-- the answers show these calls, which worked, in their order
pub record ShowTheLog (worked : List GroupCall) (sights : List LogSight) : Type 0 where
  pub each : AllByRecursion (IsShown worked) sights
  pub order : ShowMore sights

-- Of a group whose requests were answered when this number of calls had worked: where those that fit after `last` have
-- runs, and where none has one

abbrev pub written_if : Bool → Bool → WrittenBatch → Option WrittenBatch
written_if no_log fits b = if no_log then None else (if fits then Some b else None)

abbrev pub sight_at : ℕ → ℕ → CommitRequest → LogSight
sight_at made last q = record {
  client = q.client;
  made = made;
  batch = written_if q.options.no_log (nat_le (last + count_of q.records) max_sequence)
      (record { first = last + 1; records = q.records; sync = q.options.sync });
}

abbrev pub sights_with : ℕ → ℕ → List CommitRequest → List LogSight
sights_with made last [] = []
sights_with made last (q ∷ requests) = sight_at made last q ∷ sights_with made (last_with last q.records) requests

abbrev pub sights_without : ℕ → List CommitRequest → List LogSight
sights_without made requests =
    map (λ (q : CommitRequest). record { client = q.client; made = made; batch = None }) requests
