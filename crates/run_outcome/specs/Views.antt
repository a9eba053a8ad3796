-- The entries that a history holds.
use Rattle.std.specs.Prelude.{List}
use Rattle.log_batch.specs.Contents.{Contents}
use Rattle.run_outcome.specs.declared.history_entry.HistoryEntry.{HistoryEntry}
use Rattle.run_outcome.specs.declared.history.Batches.{Batches}
use Rattle.run_outcome.specs.declared.history.Batches.TheVariants.{OfOne, OfAll}
use Rattle.run_outcome.specs.Histories.{entries_of}

abbrev pub entries_in : Batches → List (HistoryEntry Contents)
entries_in (OfOne list) = entries_of 1 list
entries_in (OfAll merged) = merged
