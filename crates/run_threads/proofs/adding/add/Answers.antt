use Rattle.std.proofs.Common.{◌≡◌, ◌++◌, ◌∷◌, [], List, refl, ap, sym, ◌∙◌}
use Rattle.model_base.specs.Batch.{Record}
use Rattle.model_base.specs.Calls as calls
use Rattle.log_batch.specs.Contents.{Contents}
use Rattle.log_batch.specs.View.{record_of}
use Rattle.run_threads.specs.declared.batches.CurrentBatch.{CurrentBatch}
use Rattle.run_threads.specs.Answers.{records_in, last_accepted}
use Rattle.run_threads.proofs.adding.add.Goals as goal

pub returns-in-Ok-clause-answers : goal.returns-in-Ok-clause-answers
returns-in-Ok-clause-answers c = λ settings a own.
    let pending = records_in c.args.batches.now.current in
    let more = record_of c.args.view in
    let same : c.add-outcome.new.self.records ≡ pending ++ more ∷ [] =
    ap (λ (b : Contents). b.records) c.in-Ok.ensures.ok ∙ ap (λ (l : List Record). l ++ more ∷ []) c.in_ok-batch.ensures.records in
    record { reply = calls.quiet; shows = refl; goes = rw same (c.commits_are_steps.ensures.added settings a pending more own) }

-- the batch was taken out, and is put back
pub returns-in-Ok-clause-kept : goal.returns-in-Ok-clause-kept
returns-in-Ok-clause-kept c =
    ap (λ (a : CurrentBatch). c.begin.new.batches.list ++ last_accepted a) (sym c.in_ok-batch.ensures.out) ∙ c.in_ok-batch.ensures.kept
