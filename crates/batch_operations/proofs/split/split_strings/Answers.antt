use Rattle.std.proofs.Common.{ℕ, List, [], ◌∷◌, ◌++◌, sym, ◌∙◌, ap, arith, append-nil}
use Rattle.std.proofs.lemmas.Result.{err_from_is_err_and}
use Rattle.model_base.specs.Batch.{varstring}
use Rattle.batch_operations.proofs.split.split_strings.Goals as goal

pub returns-in_err-second-in_default-clause-err : goal.returns-in_err-second-in_default-clause-err
returns-in_err-second-in_default-clause-err c =
    let exit = err_from_is_err_and c.from_residual-in_err-second-in_default.result c.from_residual-in_err-second-in_default.ensures.1 in
    let first = c.in_ok-first-in_default in
    let spelled = first.ensures.spelled ∙ ap (λ (l : List ℕ). l ++ first.later.now) (sym (append-nil (varstring first.first.now))) in
    rw (exit.1, exit.2) (first.first.now ∷ [], first.later.now, omega arith, (first.ensures.short, tt), spelled, c.in_err-second-in_default.ensures.err)
