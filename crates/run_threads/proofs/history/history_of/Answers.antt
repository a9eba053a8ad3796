use Rattle.std.proofs.Common.{List, sym, subst, arith}
use Rattle.log_batch.specs.Contents.{Contents}
use Rattle.run_outcome.specs.declared.history_entry.HistoryEntry.{HistoryEntry}
use Rattle.run_threads.specs.Answers.{ShowsEntries}
use Rattle.run_threads.proofs.Alone.{alone_shows}
use Rattle.run_threads.proofs.Shown.{sorted_result_shows}
use Rattle.run_threads.proofs.history.history_of.Goals as goal

pub returns : goal.returns
returns c start entries make = sorted_result_shows start c.args.lists.items entries make c.of_all.result c.of_all.ensures.rising c.of_all.ensures.kept

pub returns-then-len-eq1 : goal.returns-then-len-eq1
returns-then-len-eq1 c start entries make =
    subst (λ (shown : List (HistoryEntry Contents)). ShowsEntries shown entries) (sym c.of_one.ensures)
    (alone_shows start c.args.lists.items c.remove.result entries make (omega (arith, c.len.ensures, c.args.lists.ok.0, c.if-len-eq1.true)) c.remove.ensures.value)
