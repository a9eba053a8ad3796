-- What may keep a commit from being accepted, and a read of the log from giving its records, by the script and the
-- clients' calls.
use Rattle.std.specs.Prelude.{◌≡◌, ◌⊎◌, ℕ, ◌+◌, ◌<◌, ◌≤◌, Bool, true, false, List, [], ◌∷◌, ◌++◌, fold, sum_by, Some, slice_get}
use Rattle.std.specs.List.{AllByRecursion}
use Rattle.model_base.specs.declared.write.WriteOptions.{WriteOptions}
use Rattle.model_base.specs.Batch.{Record, count_of, size_of_batch}
use Rattle.model_base.specs.History.{max_sequence}
use Rattle.model_base.specs.Trace.{Settings}
use Rattle.model_base.specs.Progress.{added_by, batch_after, families_in}
use Rattle.model_base.specs.Calls.{Command, commit, updates, stop, unstop, slow, Reply, accepted, updates_found, done, Call, Outcome}
use Rattle.model_base.specs.Script.{Script}

-- how many records a command commits of the client's current batch: all that count, if it is a commit, and otherwise
-- none
abbrev pub count_committed : List Record → Command → ℕ
count_committed batch (commit how) = count_of batch
count_committed batch other = 0

-- How many records a client's calls commit, where `batch` is its batch before them. Each commit counts the whole batch
-- that the client then has, so a batch that was refused and is committed again is counted again.
abbrev pub count_of_commits : List Record → List Call → ℕ
count_of_commits batch [] = 0
count_of_commits batch (c ∷ calls) =
    count_committed batch c.command + count_of_commits (added_by batch c.command c.reply) calls

-- There are sequences for the batches of all commits that the clients reached, each batch as often as it was committed.
abbrev pub HasRoom : Settings → Outcome → Type 0
HasRoom settings o = settings.start + sum_by (count_of_commits []) o.transcripts ≤ max_sequence

-- a command that asks the controller to stop or to slow writes
abbrev pub asks_to_wait : Command → Bool
asks_to_wait stop = true
asks_to_wait (slow rate) = true
asks_to_wait other = false

-- no client of a script has such a command
abbrev pub HoldsNothingUp : Script → Type 0
HoldsNothingUp script = AllByRecursion (AllByRecursion (λ command. asks_to_wait command ≡ false)) script

-- the commit may wait, or no client of the script asks the controller to stop or to slow writes
abbrev pub IsNotHeldUp : Script → WriteOptions → Type 0
IsNotHeldUp script how = (how.no_slowdown ≡ false) ⊎ HoldsNothingUp script

-- Whether a client holds a stop token, by its calls that were answered `done`: after one more call, and after all of
-- them
abbrev pub stopping_with : Bool → Command → Reply → Bool
stopping_with stopping stop done = true
stopping_with stopping unstop done = false
stopping_with stopping other reply = stopping

abbrev pub stops_after : List Call → Bool
stops_after calls = fold (λ stopping c. stopping_with stopping c.command c.reply) false calls

-- The client with this number (from 0) reaches a commit: after these calls it commits with these options, and gets this
-- reply.
pub record ReachesCommit (o : Outcome) (client : ℕ) (before : List Call) (how : WriteOptions) (reply : Reply)
    : Type 0 where
  pub calls : List Call
  pub there : slice_get o.transcripts client ≡ Some calls
  pub after : List Call
  pub split : calls ≡ before ++ record { command = commit how; reply = reply } ∷ after

-- the batch after these calls has a counted record and isn't too large; each of its records is in a family that there
-- is; if it was to be synced, it was to be logged too; and the client doesn't hold a stop token itself
pub record PassesChecks (settings : Settings) (before : List Call) (how : WriteOptions) : Type 0 where
  pub some : 1 ≤ count_of (batch_after before)
  pub fits : size_of_batch (batch_after before) ≤ settings.batch_bytes
  pub there : AllByRecursion (λ family. family < settings.families) (families_in (batch_after before))
  pub logged : how.sync ≡ true → how.no_log ≡ false
  pub no_stop : stops_after before ≡ false

-- just this batch was accepted, under some run of sequences
abbrev pub IsAccepted : List Record → Reply → Type 0
IsAccepted batch reply = (first : ℕ) × (last : ℕ) × (reply ≡ accepted first last batch)

-- The client with this number (from 0) reaches a read of the log: after these calls it reads from the sequence s on,
-- and gets this reply.
pub record ReachesUpdates (o : Outcome) (client : ℕ) (before : List Call) (s : ℕ) (reply : Reply) : Type 0 where
  pub calls : List Call
  pub there : slice_get o.transcripts client ≡ Some calls
  pub after : List Call
  pub split : calls ≡ before ++ record { command = updates s; reply = reply } ∷ after

-- the log's records were given, up to some sequence
abbrev pub IsGiven : Reply → Type 0
IsGiven reply = (at : ℕ) × (records : List (List ℕ)) × (reply ≡ updates_found at records)
