use Rattle.std.proofs.Common.{refl}
use Rattle.std.specs.Fmt.{digits}
use Rattle.program_words.proofs.laws.words_that_are_lawful.Goals as goal

pub returns : goal.returns
unfolding digits
returns c = record { run = refl; run_by_number = refl; number_before_others = refl; number_behind_others = refl; going_on = refl; going_on_by_number = refl; going_on_behind_others = refl; recover = refl; recover_by_number = refl; recover_by_mode = refl; recover_by_name = refl; going_on_by_mode = refl; run_over_logs = refl; run_in_families = refl; recover_logs = refl; replay = refl; replay_in_families = refl; generate_in_families = refl; generate = refl }
