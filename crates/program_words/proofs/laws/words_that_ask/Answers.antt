use Rattle.std.proofs.Common.{refl}
use Rattle.clap.proofs.OnLiterals.{clap_on_literals}
use Rattle.program_words.specs.Meaning.{invocation_in}
use Rattle.program_words.proofs.laws.words_that_ask.Goals as goal

pub returns : goal.returns
unfolding invocation_in clap_on_literals
returns c = record { run = refl; run_with_groups = refl; run_in_shards = refl; run_in_one = refl; run_in_most_shards = refl; run_in_two_stages = refl; run_by_number = refl; run_by_most = refl; going_on = refl; going_on_by_number = refl; going_on_behind_others = refl; recover = refl; recover_by_number = refl; recover_by_most = refl; recover_by_mode = refl; going_on_by_mode = refl; mode_alone = refl; run_over_logs = refl; run_in_families = refl; replay_in_families = refl; generate_in_families = refl; recover_logs = refl; replay = refl; pipelined = refl; with_equals_sign = refl; with_leading_zero = refl; generate = refl; generate_in_shards = refl; generate_in_two_stages = refl }
