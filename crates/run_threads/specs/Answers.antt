-- What one command of a client results in.
use Rattle.std.specs.Prelude.{◌≡◌, ◌⊎◌, ◌≤◌, ℕ, List, [], ◌∷◌, ◌++◌, Option, Result, Ok, Err, MatchOption}
use Rattle.std.specs.List.{AllZip}
use Rattle.model_base.specs.declared.limits.TheConstants.{MAX_SIZE}
use Rattle.model_base.specs.declared.memory.NoMemory.{NoMemory}
use Rattle.model_base.specs.Batch.{Record, size_of_batch}
use Rattle.model_base.specs.History as history
use Rattle.model_base.specs.Trace.{Settings}
use Rattle.model_base.specs.Calls as calls
use Rattle.log_batch.specs.Contents.{Contents}
use Rattle.run_outcome.specs.declared.history_entry.HistoryEntry.{HistoryEntry}
use Rattle.run_batches.specs.declared.accepted.AcceptedBatch.{AcceptedBatch}
use Rattle.run_outcome.specs.declared.reply.Reply.{Reply}
use Rattle.run_outcome.specs.Shows.{ShowsReply, ShowsEntry}
use Rattle.run_outcome.specs.Histories.{entries_of}
use Rattle.run_scripts.specs.Scripts.{additions_of}
use Rattle.model_accounts.specs.Accounts.{Account}
use Rattle.run_threads.specs.declared.batches.ClientBatches.{ClientBatches}
use Rattle.run_threads.specs.declared.batches.CurrentBatch.{CurrentBatch}
use Rattle.run_threads.specs.declared.batches.CurrentBatch.TheVariants.{Nothing, Pending, Accepted}
use Rattle.model_accounts.specs.ClientRuns.{Goes, Lacks}

-- the records of the batch in the making, which is begun with its first record
abbrev pub records_in : CurrentBatch → List Record
records_in Nothing = []
records_in (Pending batch) = batch.records
records_in (Accepted kept) = []

-- the accepted batch that is still at hand
abbrev pub last_accepted : CurrentBatch → List (AcceptedBatch Contents)
last_accepted Nothing = []
last_accepted (Pending batch) = []
last_accepted (Accepted kept) = kept ∷ []

-- a client's accepted batches: those of the list, and the one at hand
abbrev pub accepted_in : ClientBatches → List (AcceptedBatch Contents)
accepted_in batches = batches.list ++ last_accepted batches.current

-- what a client gets for a call: the call's reply, or nothing where it has none
abbrev pub ShowsTold : Option Reply → calls.Call → Type 0
ShowsTold told c = MatchOption told (c.reply ≡ calls.quiet) (λ (reply : Reply). ShowsReply reply c)

-- the client goes on with this command, and got its reply
pub record GoesOn (settings : Settings) (v : Account) (before : List Record) (command : calls.Command)
    (told : Option Reply) (w : Account) (after : List Record) : Type 0 where
  pub reply : calls.Reply
  pub shows : ShowsTold told (record { command = command; reply = reply })
  pub goes : Goes settings v before command reply w after

-- it goes on, or its call found no memory
abbrev pub Answers : Settings → Account → List Record → calls.Command → Result (Option Reply) NoMemory → Account
    → List Record → Type 0
Answers settings v before command (Ok told) w after = GoesOn settings v before command told w after
Answers settings v before command (Err none) w after = Lacks settings v before command w

-- the batches of a history are these entries
abbrev pub ShowsEntries : List (HistoryEntry Contents) → List history.Entry → Type 0
ShowsEntries shown entries = AllZip ShowsEntry shown entries

-- the accepted batches of a client are these entries
abbrev pub ShowsAccepted : ℕ → List (AcceptedBatch Contents) → List history.Entry → Type 0
ShowsAccepted client kept entries = ShowsEntries (entries_of client kept) entries

-- these records and what the commands add fit into one batch
abbrev pub HasRoom : List Record → List calls.Command → Type 0
HasRoom records commands = size_of_batch (records ++ additions_of commands) ≤ MAX_SIZE

-- what a command leaves in the batch: nothing, or what was there with what the command adds
abbrev pub IsLeft : List Record → calls.Command → List Record → Type 0
IsLeft before command after = (after ≡ []) ⊎ (after ≡ before ++ additions_of (command ∷ []))
