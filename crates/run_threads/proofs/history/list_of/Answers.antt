use Rattle.std.proofs.Common.{◌++◌, ap, sym, ◌∙◌}
use Rattle.std.proofs.lemmas.List.{append-nil}
use Rattle.run_threads.specs.Answers.{last_accepted}
use Rattle.run_threads.proofs.Last.{none_accepted}
use Rattle.run_threads.proofs.history.list_of.Goals as goal
use Rattle.run_threads.proofs.history.list_of.Goals.{in-Accepted+in_ok-push, in_default}

pub returns : goal.returns
returns c =
    let list = c.args.batches.list in
    elim c.match-current.branch [
      | in-Accepted+in_ok-push w ↦ w.list-is ∙ (w.in_ok-push.ensures.ok ∙ ap (λ h. list ++ last_accepted h) (sym w.in-Accepted.is))
      | in_default w ↦ w.list-is ∙ (sym (append-nil list) ∙ ap (λ kept. list ++ kept) (sym (none_accepted c.args.batches.current w.in_default.not-Accepted)))
    ]
