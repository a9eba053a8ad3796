use Rattle.std.proofs.Common.{◌≡◌, List, length, take, fold, ap, sym, ◌∙◌, arith}
use Rattle.std.proofs.Math.Seq.{take-length}
use Rattle.model_base.specs.Map.{Pairs, after_records}
use Rattle.log_batch.specs.Contents.{Contents}
use Rattle.run_outcome.specs.declared.history_entry.HistoryEntry.{HistoryEntry}
use Rattle.run_threads.proofs.Shown.{fold_next, fold_shown}
use Rattle.run_threads.proofs.state.state_of.Goals as goal

pub loop-at-preserved : goal.loop-at-preserved
loop-at-preserved c =
    c.in_ok-write_records.ensures.ok ∙ ap (after_records c.loop-at.map) c.records.ensures.value
    ∙ (ap (λ m. after_records m c.entry.result.batch.records) c.loop-at.invariant ∙ sym (fold_next c.args.opening c.args.history.now c.loop-at.at c.entry.result c.entry.ensures))

pub returns : goal.returns
returns c entries shows =
    let history = c.args.history.now in
    let after = λ (xs : List (HistoryEntry Contents)). fold (λ (m : Pairs) (e : HistoryEntry Contents). after_records m e.batch.records) c.args.opening xs in
    let end : c.loop-at.at ≡ length history = omega arith in
    c.loop-at.invariant ∙ (ap (λ n. after (take n history)) end ∙ (ap after (take-length history) ∙ fold_shown c.args.opening history entries shows))
