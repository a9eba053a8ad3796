use Rattle.std.proofs.Common.{get_or, refl, sym, ◌∙◌}
use Rattle.std.proofs.lemmas.Result.{err_from_is_err_and}
use Rattle.batch_operations.proofs.OneOperation.{unknown_tag, family_missing, strings_missing, spelled_in_front}
use Rattle.batch_operations.proofs.Layouts.{at_most_two}
use Rattle.batch_operations.proofs.split.split_operation.Goals as goal

pub returns-in_default-clause-err : goal.returns-in_default-clause-err
returns-in_default-clause-err c = unknown_tag c.args.bytes.now _ c.requires refl (rw (← c.layout_of.ensures) c.in_default.is)

pub returns-in_err-family-clause-err : goal.returns-in_err-family-clause-err
returns-in_err-family-clause-err c =
    let exit = err_from_is_err_and c.from_residual.result c.from_residual.ensures.1 in
    let wrong = c.in_err-family.ensures.err in
    rw (exit.1, exit.2) (family_missing c.args.bytes.now _ c.in-Some.layout _ c.requires refl (rw (← c.layout_of.ensures) c.in-Some.is) wrong.0 wrong.1)

pub returns-in_err-strings-clause-err : goal.returns-in_err-strings-clause-err
returns-in_err-strings-clause-err c =
    let exit = err_from_is_err_and c.from_residual-in_err-strings.result c.from_residual-in_err-strings.ensures.1 in
    let family = c.in_ok-family.ensures in
    rw (exit.1, exit.2) (strings_missing c.args.bytes.now c.in_ok-family.later.now _ c.in-Some.layout c.in_ok-family.family _ c.requires refl (rw (← c.layout_of.ensures) c.in-Some.is)
    family.named family.fits family.spelled c.in_err-strings.ensures.err)

pub returns-clause-spelled : goal.returns-clause-spelled
returns-clause-spelled c =
    spelled_in_front c.args.bytes.now c.in_ok-family.later.now _ c.in_ok-strings.rest.now c.requires refl c.in_ok-family.ensures.spelled c.in_ok-strings.ensures.spelled

pub returns-clause-is : goal.returns-clause-is
returns-clause-is c = record {
  layout = c.in-Some.layout;
  known = rw (← c.layout_of.ensures) c.in-Some.is;
  named = c.in_ok-family.ensures.named;
  family = c.in_ok-family.ensures.fits;
  as_many = c.in_ok-strings.ensures.as_many;
  short = c.in_ok-strings.ensures.short;
}

pub split_strings-requires : goal.split_strings-requires
split_strings-requires c = at_most_two (get_or c.args.bytes.now 0 0) c.in-Some.layout (sym c.layout_of.ensures ∙ c.in-Some.is)
