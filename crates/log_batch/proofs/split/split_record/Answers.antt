use Rattle.std.proofs.Common.{refl, arith, ◌∷◌, [], sym, ap, ◌∙◌, ◌++◌, List, ℕ, append-nil}
use Rattle.std.proofs.lemmas.Result.{err_from_is_err_and}
use Rattle.model_base.specs.Batch.{varstring}
use Rattle.log_batch.proofs.OneRecord.{no_strings, two_strings}
use Rattle.log_batch.proofs.split.split_record.Goals as goal

pub returns-in_err-value-in-1-clause-err : goal.returns-in_err-value-in-1-clause-err
returns-in_err-value-in-1-clause-err c =
    let exit = err_from_is_err_and c.from_residual-in_err-value-in-1.result c.from_residual-in_err-value-in-1.ensures.1 in
    let two = two_strings _ c.in-1.is in
    let key = c.in_ok-key-in-1 in
    rw (exit.1, exit.2) (no_strings c.args.bytes.now c.in_ok-family.strings.now _ c.in_ok-family.family (key.key.now ∷ []) key.behind.now c.in_err-value-in-1.field-0.0
    c.requires refl two.0 c.in_ok-family.ensures.named c.in_ok-family.ensures.fits c.in_ok-family.ensures.spelled (omega (arith, two.1)) (key.ensures.short, tt)
    (key.ensures.spelled ∙ ap (λ (l : List ℕ). l ++ key.behind.now) (sym (append-nil (varstring key.key.now)))) c.in_err-value-in-1.ensures.err)
