use Rattle.std.proofs.Common.{◌≡◌, take, fold}
use Rattle.model_base.specs.Map.{Pairs, after_records}
use Rattle.log_batch.specs.Contents.{Contents}
use Rattle.run_outcome.specs.declared.history_entry.HistoryEntry.{HistoryEntry}
use Rattle.run_threads.proofs.state.state_of.Given as goal

-- the map is that of the batches so far
abbrev pub invariant-loop-at : goal.invariant-loop-at
invariant-loop-at l = l.map ≡ fold (λ (m : Pairs) (e : HistoryEntry Contents). after_records m e.batch.records) l.fn.opening (take l.at l.history)
