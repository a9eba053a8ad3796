use Rattle.std.proofs.Common.{refl}
use Rattle.std.specs.Fmt.{digits}
use Rattle.model_rows.proofs.scripts.faults_of_scripts.Goals as goal

pub returns-clause-unknown_word : goal.returns-clause-unknown_word
unfolding digits
returns-clause-unknown_word c = refl

pub returns-clause-too_few_words : goal.returns-clause-too_few_words
unfolding digits
returns-clause-too_few_words c = refl

pub returns-clause-two_spaces : goal.returns-clause-two_spaces
unfolding digits
returns-clause-two_spaces c = refl

pub returns-clause-leading_zero : goal.returns-clause-leading_zero
unfolding digits
returns-clause-leading_zero c = refl

pub returns-clause-wrong_number : goal.returns-clause-wrong_number
unfolding digits
returns-clause-wrong_number c = refl

pub returns-clause-tab : goal.returns-clause-tab
unfolding digits
returns-clause-tab c = refl

pub returns-clause-unknown_flag : goal.returns-clause-unknown_flag
unfolding digits
returns-clause-unknown_flag c = refl

pub returns-clause-flags_turned : goal.returns-clause-flags_turned
unfolding digits
returns-clause-flags_turned c = refl

pub returns-clause-flag_twice : goal.returns-clause-flag_twice
unfolding digits
returns-clause-flag_twice c = refl

pub returns-clause-word_behind_clear : goal.returns-clause-word_behind_clear
unfolding digits
returns-clause-word_behind_clear c = refl

pub returns-clause-two_keys : goal.returns-clause-two_keys
unfolding digits
returns-clause-two_keys c = refl
