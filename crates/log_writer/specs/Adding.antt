-- A call of `add_group`, and what it does to the log.
use Rattle.std.specs.Prelude.{◌≡◌, ℕ, ◌+◌, Bool, true, List, [], length, flat_map, Option, Some, None, Result, Ok, Err, IfSome, MatchOption}
use Rattle.base_devices.specs.declared.disk.Disk.{Ghosts}
pub use Rattle.model_base.specs.LogContents.{GroupCall, record_of_call}
use Rattle.model_base.specs.Batch.{IsBatch}
use Rattle.model_base.specs.Log.{record_text}
use Rattle.log_batch.specs.Contents.{Contents}
use Rattle.log_writer.specs.declared.errors.Fault.{Fault}
use Rattle.log_writer.specs.declared.writer.LogWriter.{LogWriter}
use Rattle.log_writer.specs.Groups.{batches_of}
use Rattle.log_writer.specs.Puts.{Puts}
use Rattle.log_writer.specs.Words.{disk_of, number_of, len_of, fault_of}

abbrev pub count_of_fault : {T : Type 0} → Result T Fault → Option ℕ
count_of_fault (Ok x) = None
count_of_fault (Err fault) = Some fault.count

-- the call with these arguments and this answer
abbrev pub call_of : {T : Type 0} → ℕ → List Contents → Bool → Result T Fault → GroupCall
call_of first members sync result = record {
  first = first;
  batches = batches_of members;
  sync = sync;
  failed = count_of_fault result;
}

-- the fault of a call, if it had one, as an answer
abbrev pub answer_of : Option ℕ → Result (Unit {0}) ℕ
answer_of None = Ok tt
answer_of (Some count) = Err count

-- the record of the call is a batch, so that each of its additions can be read back
abbrev pub HasBatch : GroupCall → Type 0
HasBatch c = IsBatch (record_of_call c) c.first (flat_map (λ records. records) c.batches)

module _ {D : Type 0} {ghosts : Ghosts D} where
  -- the log is longer by these bytes, and has no fault
  pub record Grows (bytes : List ℕ) (old new : LogWriter D ghosts) : Type 0 where
    pub len : len_of new ≡ len_of old + length bytes
    pub fault : fault_of new ≡ None

  -- the log takes no more, and keeps the disk's count of faults
  pub record Stops (old new : LogWriter D ghosts) (count : ℕ) : Type 0 where
    pub len : len_of new ≡ len_of old
    pub fault : fault_of new ≡ Some count
    pub count_is : count ≡ ghosts.faults (disk_of new)

  -- the text of the call's record, as it is at the end of the log
  abbrev pub text_at_end : GroupCall → LogWriter D ghosts → List ℕ
  text_at_end c log = record_text (number_of log) (len_of log) (record_of_call c)

  -- The call put the record's text at the end of the log, and synced it if that was asked; or it failed, and the log
  -- takes no more. After an earlier fault nothing is done. What is written is a batch.
  pub record Adds (c : GroupCall) (old new : LogWriter D ghosts) : Type 0 where
    pub number : number_of new ≡ number_of old
    pub dead : IfSome (fault_of old) (λ count. (c.failed ≡ Some count) × (new ≡ old))
    pub put : fault_of old ≡ None
        → Puts ghosts (disk_of old) (disk_of new) (text_at_end c old) c.sync (answer_of c.failed)
    pub kept : fault_of old ≡ None → MatchOption c.failed (Grows (text_at_end c old) old new) (Stops old new)
    pub batch : c.failed ≡ None → HasBatch c

  -- the disk was synced; the log is as it was
  pub record Syncs (old new : LogWriter D ghosts) : Type 0 where
    pub number : number_of new ≡ number_of old
    pub len : len_of new ≡ len_of old
    pub fault : fault_of new ≡ None
    pub put : Puts ghosts (disk_of old) (disk_of new) [] true (answer_of None)

  -- the sync failed, and the log takes no more
  pub record FailsToSync (old new : LogWriter D ghosts) (count : ℕ) : Type 0 where
    pub number : number_of new ≡ number_of old
    pub stops : Stops old new count
    pub put : Puts ghosts (disk_of old) (disk_of new) [] true (answer_of (Some count))
