-- What clients ask, what they are answered, and the outcome of a whole run.
use Rattle.std.specs.Prelude.{ℕ, List, Option}
use Rattle.model_base.specs.declared.write.WriteOptions.{WriteOptions}
use Rattle.model_base.specs.declared.write.Refusal.{Refusal}
use Rattle.model_base.specs.Batch.{Record}
use Rattle.model_base.specs.Map.{Key, Pairs, Rows}
use Rattle.model_base.specs.History.{Entry}

-- a line of a client's script
pub data Command : Type 0 where
  -- add a record to the batch, and empty it
  add : Record → Command
  clear : Command
  commit : WriteOptions → Command
  get : Key → Command
  many : List Key → Command
  -- a family, and between which keys
  scan : ℕ → List ℕ → List ℕ → Command
  -- the log's records from this sequence on
  updates : ℕ → Command
  -- take the two tokens of the write controller, and give them back
  stop : Command
  unstop : Command
  slow : ℕ → Command
  unslow : Command

pub data Reply : Type 0 where
  -- the answer to `add` and `clear`, of which nothing is printed
  quiet : Reply
  -- the first and the last sequence, and the records that were written
  accepted : ℕ → ℕ → List Record → Reply
  refused : Refusal → Reply
  -- the sequence of the read, and what it found there
  found : ℕ → Option (List ℕ) → Reply
  found_each : ℕ → List (Option (List ℕ)) → Reply
  rows : ℕ → Rows → Reply
  -- the sequence of the read, and the log's records up to it
  updates_found : ℕ → List (List ℕ) → Reply
  -- the log's disk failed in the read, and this is its count of faults
  read_failed : ℕ → Reply
  done : Reply
  held : Reply
  not_held : Reply
  no_memory : Reply

pub record Call : Type 0 where
  pub command : Command
  pub reply : Reply

-- each client's calls with their replies, the one history, the sequence published last and the map at it, the lengths
-- of the logs that were begun (there is one, unless the run has several), and the log's fault
pub record Outcome : Type 0 where
  pub transcripts : List (List Call)
  pub history : List Entry
  pub last : ℕ
  pub state : Pairs
  pub log_lens : List ℕ
  pub fault : Option ℕ
