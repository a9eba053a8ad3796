-- What a client was told `ok` of, and how much of the log had been written by then.
use Rattle.std.specs.Prelude.{◌≡◌, ℕ, ◌+◌, List, ◌∷◌, ◌++◌, take, drop, Some, slice_get}
use mathlib.Core.List.{IsPrefix}
use Rattle.model_base.specs.declared.history.Flag.TheVariants.{Sync}
use Rattle.model_base.specs.declared.write.WriteOptions.{WriteOptions}
use Rattle.model_base.specs.Batch.{Record}
use Rattle.model_base.specs.History.{Entry, flag_of}
use Rattle.model_base.specs.Outcomes.{entries_of_client}
use Rattle.model_base.specs.Trace.{Trace, Settings}
use Rattle.model_base.specs.Progress.{Progress, fresh}
use Rattle.model_base.specs.Runs.{Step, Run}
use Rattle.model_base.specs.Calls.{commit, accepted, Call}
use Rattle.model_base.specs.LogContents.{GroupCall}

-- A client with these calls was told `ok` of this batch, which it had asked to be synced, under the run that begins
-- with `first`. By then it knew that the first `knew` calls of the log writer had returned, and its accepted batches
-- were its first entries in the trace.
pub record IsAcknowledged (settings : Settings) (trace : Trace) (client : ℕ) (calls : List Call) (first knew : ℕ)
    (records : List Record) : Type 0 where
  pub before : List Call
  pub how : WriteOptions
  pub last : ℕ
  pub after : List Call
  pub there : calls ≡ before ++ record { command = commit how; reply = accepted first last records } ∷ after
  pub to_sync : flag_of how ≡ Sync
  pub p : Progress
  pub q : Progress
  pub run : Run settings trace client fresh before p
  pub step : Step settings trace client p (commit how) (accepted first last records) q
  pub mine : IsPrefix q.mine (entries_of_client client trace.entries)
  pub knows : q.logged ≡ knew

-- one of these entries has this batch, under the run that begins with `first`
pub record HasBatch (first : ℕ) (records : List Record) (group : List Entry) : Type 0 where
  pub before : List Entry
  pub entry : Entry
  pub after : List Entry
  pub there : group ≡ before ++ entry ∷ after
  pub run : entry.first ≡ first
  pub batch : entry.records ≡ records

-- Of each batch that a client was told `ok` of, and had asked to be synced: the group with k groups before it has the
-- batch, and what a crash leaves has the group (`Has`), once the calls have returned that the client knew of by then.
-- `since before after` is what a crash may leave once the calls `before` have returned, during the calls `after` or
-- later.
abbrev pub KeepAcknowledged : {Image : Type 0} → Settings → Trace → List (List Call) → List (List Entry)
    → List GroupCall → (List GroupCall → List GroupCall → Image → Type 0) → (ℕ → Image → Type 0) → Type 0
KeepAcknowledged {Image} settings trace transcripts groups made since Has = (i : ℕ) (calls : List Call)
    (first knew : ℕ) (records : List Record) → slice_get transcripts i ≡ Some calls
    → IsAcknowledged settings trace (i + 1) calls first knew records
    → (k : ℕ) × (group : List Entry) × (slice_get groups k ≡ Some group) × HasBatch first records group
    × ((image : Image) → since (take knew made) (drop knew made) image → Has k image)
