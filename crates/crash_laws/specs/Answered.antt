-- Each batch that a client was answered `ok` for, and had asked to be synced: what its client knew of the log by then,
-- and when the next call finds it.
use Rattle.std.specs.Prelude.{◌≡◌, ℕ, ◌+◌, ◌≤◌, true, slice_get, List, ◌∷◌, ◌++◌, length, Some}
use Rattle.base_devices.specs.declared.disk.Disk.{Ghosts}
use Rattle.model_base.specs.declared.history.Flag.TheVariants.{Sync}
use Rattle.model_base.specs.declared.write.WriteOptions.{WriteOptions}
use Rattle.model_base.specs.Batch.{Record}
use Rattle.model_base.specs.History.{Entry, flag_of}
use Rattle.model_base.specs.Trace.{Trace, Settings}
use Rattle.model_base.specs.Calls.{commit, accepted, Call as Answered}
use Rattle.model_base.specs.LogContents.{IsLoggedBy}
use Rattle.model_runs.specs.Acknowledged.{IsAcknowledged, HasBatch}
use Rattle.run_outcome.specs.Running.{Before, RecoversTo}
use Rattle.crash_laws.specs.Restarts.{Call, execution_of, number_of, groups_in, IsLeftAfter, HaveGroups}

-- One of these calls of a client committed a batch that should be synced, and was answered `ok`, with this run and
-- these records.
pub record WasAnswered (calls : List Answered) (first last : ℕ) (records : List Record) : Type 0 where
  pub before : List Answered
  pub how : WriteOptions
  pub after : List Answered
  pub there : calls ≡ before ++ record { command = commit how; reply = accepted first last records } ∷ after
  pub to_sync : flag_of how ≡ Sync

-- The batch is acknowledged: by then its client knew that the first `knew` calls that wrote the log had returned, which
-- are no more than there are. One of these, which it hadn't known of before its commit, wrote the batch and synced.
pub record KnewByThen (settings : Settings) (trace : Trace) (client : ℕ) (calls : List Answered) (first : ℕ)
    (records : List Record) : Type 0 where
  pub knew : ℕ
  pub within : knew ≤ length trace.log_calls
  pub acknowledged : IsAcknowledged settings trace client calls first knew records
  pub wrote : IsLoggedBy trace.log_calls acknowledged.p.logged knew first records true

-- The client with the number i + 1 made these calls in a call of `run`. The batch is acknowledged, and one of the
-- groups that were logged has it. Once the calls have returned that its client knew of by then, the next call finds
-- this group and all before it, whatever a crash leaves.
pub record IsFoundAgain {D : Type 0} {disk : Ghosts D} (call : Call disk) (i : ℕ) (calls : List Answered) (first : ℕ)
    (records : List Record) : Type 0 where
  pub known : KnewByThen (execution_of call).settings call.ran.is_outcome.run.trace (i + 1) calls first records
  pub k : ℕ
  pub group : List Entry
  pub there : slice_get (groups_in call) k ≡ Some group
  pub has : HasBatch first records group
  pub found : (image : List ℕ) (next : Before) → RecoversTo (number_of call) image next
      → IsLeftAfter call known.knew image → HaveGroups call (k + 1) next.batches
