-- The history's entries of clients' accepted batches.
use Rattle.std.specs.Prelude.{ℕ, ◌+◌, ◌-◌, ◌^◌, min, List, [], ◌∷◌, ◌++◌}
use Rattle.model_base.specs.Batch.{count_of}
use Rattle.log_batch.specs.Contents.{Contents}
use Rattle.run_outcome.specs.declared.history_entry.HistoryEntry.{HistoryEntry}
use Rattle.run_batches.specs.declared.accepted.AcceptedBatch.{AcceptedBatch}

-- the last sequence of a batch's run, or 2^64 - 1 if it would be greater
abbrev pub last_in : Contents → ℕ
last_in batch = min (batch.sequence + (count_of batch.records - 1)) (2 ^ 64 - 1)

-- the entry of a client's accepted batch, with its number among that client's accepted batches
abbrev pub entry_of : ℕ → ℕ → AcceptedBatch Contents → HistoryEntry Contents
entry_of client ordinal kept = record {
  client = client;
  ordinal = ordinal;
  run = record { first = kept.batch.sequence; last = last_in kept.batch };
  flag = kept.flag;
  batch = kept.batch;
}

-- the entries of a client's accepted batches in order, the first with this ordinal
abbrev pub entries_from : ℕ → ℕ → List (AcceptedBatch Contents) → List (HistoryEntry Contents)
entries_from client ordinal [] = []
entries_from client ordinal (kept ∷ rest) = entry_of client ordinal kept ∷ entries_from client (ordinal + 1) rest

abbrev pub entries_of : ℕ → List (AcceptedBatch Contents) → List (HistoryEntry Contents)
entries_of client kept = entries_from client 1 kept

-- the entries of clients one after another, from the client with this number on
abbrev pub entries_by : ℕ → List (List (AcceptedBatch Contents)) → List (HistoryEntry Contents)
entries_by client [] = []
entries_by client (kept ∷ others) = entries_of client kept ++ entries_by (client + 1) others

abbrev pub entries_of_all : List (List (AcceptedBatch Contents)) → List (HistoryEntry Contents)
entries_of_all lists = entries_by 1 lists
