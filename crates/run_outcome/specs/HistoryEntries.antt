-- The entries of the model's history that the code's values represent.
use Rattle.std.specs.Prelude.{◌+◌, ◌-◌, List}
use Rattle.model_base.specs.Batch.{Record}
use Rattle.model_base.specs.History as history
use Rattle.run_outcome.specs.declared.history_entry.HistoryEntry.{HistoryEntry}

-- the model's entry, where `records` gives the records of the batch
abbrev pub entry_of : {B : Type 0} → (HistoryEntry B → List Record) → HistoryEntry B → history.Entry
entry_of records e = record {
  client = e.client;
  ordinal = e.ordinal;
  first = e.run.first;
  count = e.run.last + 1 - e.run.first;
  flag = e.flag;
  records = records e;
}
