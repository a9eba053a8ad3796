-- A process that is killed while the machine goes on: what its log has then, and what the next call goes on from.
--
-- What a program has appended is in the file, synced or not, and it stays there when the program ends. That is taken
-- for granted, as the model of a crash is. Only the call during which the process was killed may be done or not, whole
-- or in part.
use Rattle.std.specs.Prelude.{◌≡◌, ◌⊎◌, ℕ, ◌+◌, ◌<◌, ◌≤◌, min, false, slice_get, List, [], ◌∷◌, ◌++◌, length, take, drop, Some}
use Rattle.base_devices.specs.Disk.{Disk}
use Rattle.base_devices.specs.declared.disk.Disk.{Ghosts}
use Rattle.model_base.specs.declared.write.WriteOptions.{WriteOptions}
use Rattle.model_base.specs.Batch.{Record}
use Rattle.model_base.specs.Log.{text_after}
use Rattle.model_base.specs.History.{Entry}
use Rattle.model_base.specs.Trace.{Trace, Settings}
use Rattle.model_base.specs.Calls.{commit, accepted, Call as Answered}
use Rattle.model_base.specs.Progress.{Progress, fresh}
use Rattle.model_base.specs.Runs.{Step, Run}
use Rattle.model_base.specs.LogContents.{records_of}
use Rattle.model_base.specs.Recovery.{Logged, NoChance}
use Rattle.log_writer.specs.declared.writer.LogWriter.{LogWriter}
use Rattle.log_writer.specs.Words.{disk_of}
use Rattle.log_writer.specs.Written.{IsWritten, Wrote}
use Rattle.model_runs.specs.Acknowledged.{HasBatch}
use Rattle.run_outcome.specs.Running.{Before, RecoversTo, HasFirst, beginning_of, batches_of_log}
use Rattle.run_execution.specs.Ends.{HasOpenedAs}
use Rattle.crash_laws.specs.Restarts.{Call, execution_of, number_of, groups_in, calls_in, AreFirst, HaveGroups, NoneByChance, IsAfterGroups, IsAlone, kept_in}

-- One of these calls of a client committed a batch that goes into the log, synced or not, and was answered `ok`, with
-- this run and these records.
pub record WasAccepted (calls : List Answered) (first last : ℕ) (records : List Record) : Type 0 where
  pub before : List Answered
  pub how : WriteOptions
  pub after : List Answered
  pub there : calls ≡ before ++ record { command = commit how; reply = accepted first last records } ∷ after
  pub to_log : how.no_log ≡ false

-- With that answer the client knew that the first `knew` calls that wrote the log had returned.
pub record KnewThen (settings : Settings) (trace : Trace) (client : ℕ) (calls : List Answered) (first knew : ℕ)
    (records : List Record) : Type 0 where
  pub last : ℕ
  pub was : WasAccepted calls first last records
  pub p : Progress
  pub q : Progress
  pub run : Run settings trace client fresh was.before p
  pub step : Step settings trace client p (commit was.how) (accepted first last records) q
  pub knows : q.logged ≡ knew

module _ {D : Type 0} {disk : Ghosts D} where
  -- The process was killed while its log was being opened, which is new or is resumed. The file is as it was found, or
  -- it was truncated after what the log keeps.
  abbrev pub IsKilledInOpening : Call disk → List ℕ → Type 0
  IsKilledInOpening call file =
      IsAlone call.start × ((file ≡ call.found.content) ⊎ (file ≡ call.ran.before.kept))

  -- The process was killed once the first `n` of the calls that wrote the log had returned, and before the next one of
  -- them had. Then the log writer was between these and the others, and its disk held `held`. A call that writes the
  -- log appends at the disk's place, and syncs. So the file has each byte in front of the place as it was. What it has
  -- after them is left open: exactly what the disk held there, if no call was under way, and otherwise perhaps some of
  -- what that call should have appended.
  pub record IsKilledAfter (call : Call disk) (n : ℕ) (file : List ℕ) : Type 0 where
    pub between : LogWriter D disk
    pub written : IsWritten (beginning_of call.start call.ran.before) call.opened (take n (calls_in call)) between
    pub last : LogWriter D disk
    pub wrote : Wrote between (drop n (calls_in call)) last
    pub is_ended : disk_of last ≡ call.ended
    pub held : Disk
    pub tells : disk.told (disk_of between) ≡ Some held
    pub in_front : HasFirst held.place held.content file

  -- the log's text up to the end of the first `n` groups
  abbrev pub text_of_first : Call disk → ℕ → List ℕ
  text_of_first call n = text_after (beginning_of call.start call.ran.before) (records_of (take n (groups_in call)))

  -- Recovery of the file meets no fragment with a right checksum, except those that this text has at the same place.
  -- So nothing in the file is right by chance, and no fragment of a later record is there.
  abbrev pub HasNoMore : Call disk → ℕ → List ℕ → Type 0
  HasNoMore call n file = NoChance (number_of call) file (text_of_first call n)

  -- No call was under way, and none of the first `n` had failed. The log is new or was resumed, and was opened as `run`
  -- opens it, so that nothing was on its disk after it.
  pub record IsAtRest {call : Call disk} {n : ℕ} {file : List ℕ} (killed : IsKilledAfter call n file) : Type 0 where
    pub rests : file ≡ killed.held.content
    pub worked : n ≤ length (groups_in call)
    pub alone : IsAlone call.start
    pub is_opened : HasOpenedAs call.start call.ran.before call.opened killed.written.begun

  -- one of the groups that were logged has the batch, and it is found with all groups before it
  pub record FindsBatch (call : Call disk) (first : ℕ) (records : List Record) (batches : List Logged) : Type 0 where
    pub k : ℕ
    pub group : List Entry
    pub there : slice_get (groups_in call) k ≡ Some group
    pub has : HasBatch first records group
    pub have : HaveGroups call (k + 1) batches

  -- What the next call goes on from, if the process was killed then.
  pub record IsAfterKill (call : Call disk) (n : ℕ) (file : List ℕ) (next : Before) : Type 0 where
    -- First come all batches that the log kept, and then one for each group that the calls had written, synced or not.
    -- (Each call wrote one, except for the last of all, which may have failed.) There is no premise on chance.
    pub all : HaveGroups call (min n (length (groups_in call))) next.batches
    -- No others follow, if nothing more is in the file. Then the call goes on from the printed history up to the
    -- last of these groups.
    pub none_else : HasNoMore call n file → (next.batches ≡ batches_of_log call.ran.before (take n (groups_in call)))
        × IsAfterGroups call (take n (groups_in call)) next
    -- If more may be there, of a call that was under way or had failed, these are still the first batches of the log.
    pub first : NoneByChance call file → AreFirst call next.batches
    -- Each batch that goes into the log, and that a client was answered `ok` for, is among them, if the calls had
    -- returned that the client knew of by then.
    pub acknowledged : (i : ℕ) (calls : List Answered) (first knew : ℕ) (records : List Record)
        → slice_get call.outcome.transcripts i ≡ Some calls
        → KnewThen (execution_of call).settings call.ran.is_outcome.run.trace (i + 1) calls first knew records
        → knew ≤ n → FindsBatch call first records next.batches

  -- What it goes on from, if the process was killed while the log was being opened: what this call went on from.
  pub record IsAfterOpening (call : Call disk) (next : Before) : Type 0 where
    pub all : next.batches ≡ kept_in call
    pub state : IsAfterGroups call [] next

  -- The client with the number i + 1 made these calls in a call of `run`, and was answered `ok` for a batch that goes
  -- into the log. By then it knew that some first calls that wrote the log had returned, and one of these wrote the
  -- group that has the batch. Once they have, the next call finds it, whenever the process is killed.
  pub record OutlivesProcess (call : Call disk) (i : ℕ) (calls : List Answered) (first : ℕ) (records : List Record)
      : Type 0 where
    pub knew : ℕ
    pub within : knew ≤ length (calls_in call)
    pub known : KnewThen (execution_of call).settings call.ran.is_outcome.run.trace (i + 1) calls first knew records
    pub k : ℕ
    pub group : List Entry
    pub there : slice_get (groups_in call) k ≡ Some group
    pub has : HasBatch first records group
    pub written : k < knew
    pub found : (n : ℕ) (file : List ℕ) (next : Before) → knew ≤ n → IsKilledAfter call n file
        → RecoversTo (number_of call) file next → HaveGroups call (k + 1) next.batches
