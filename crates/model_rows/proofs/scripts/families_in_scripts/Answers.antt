use Rattle.std.proofs.Common.{refl}
use Rattle.std.specs.Fmt.{digits}
use Rattle.model_rows.proofs.scripts.families_in_scripts.Goals as goal

pub returns-clause-records : goal.returns-clause-records
unfolding digits
returns-clause-records c = refl

pub returns-clause-reads : goal.returns-clause-reads
unfolding digits
returns-clause-reads c = refl

pub returns-clause-greatest : goal.returns-clause-greatest
unfolding digits
returns-clause-greatest c = refl

pub returns-clause-too_great : goal.returns-clause-too_great
unfolding digits
returns-clause-too_great c = refl

pub returns-clause-leading_zero : goal.returns-clause-leading_zero
unfolding digits
returns-clause-leading_zero c = refl

pub returns-clause-no_key : goal.returns-clause-no_key
unfolding digits
returns-clause-no_key c = refl

pub returns-clause-half_a_place : goal.returns-clause-half_a_place
unfolding digits
returns-clause-half_a_place c = refl

pub returns-clause-no_place : goal.returns-clause-no_place
unfolding digits
returns-clause-no_place c = refl
