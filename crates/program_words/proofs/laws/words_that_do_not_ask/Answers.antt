use Rattle.std.proofs.Common.{refl}
use Rattle.clap.proofs.OnLiterals.{clap_on_literals}
use Rattle.program_words.specs.Meaning.{invocation_in}
use Rattle.program_words.proofs.laws.words_that_do_not_ask.Goals as goal

pub returns : goal.returns
unfolding invocation_in clap_on_literals
returns c = record { no_command = refl; unknown_command = refl; unknown_word = refl; option_of_another_command = refl; option_without_value = refl; option_twice = refl; flag_twice = refl; flag_of_another_command = refl; below_range = refl; above_range = refl; no_shards = refl; too_many_shards = refl; number_zero = refl; number_above_range = refl; number_without_value = refl; number_twice = refl; number_zero_of_run = refl; number_above_range_of_run = refl; number_without_value_of_run = refl; number_twice_of_run = refl; number_of_generate = refl; number_of_replay = refl; resume_with_value = refl; resume_with_word = refl; resume_twice = refl; resume_of_recover = refl; resume_of_generate = refl; resume_of_replay = refl; unknown_mode = refl; unknown_mode_of_run = refl; mode_without_value = refl; mode_twice = refl; mode_of_replay = refl; mode_of_generate = refl; no_log = refl; too_many_logs = refl; no_log_bytes = refl; too_many_log_bytes = refl; log_bytes_of_recover = refl; logs_of_replay = refl; no_family = refl; too_many_families = refl; families_of_recover = refl; unknown_table = refl; table_twice = refl; table_of_recover = refl; table_of_replay = refl; seed_above_range = refl; no_clients = refl; too_many_clients = refl; too_many_batches = refl; too_few_numbers = refl; too_many_numbers = refl; option_of_generate = refl; last_of_generate = refl; help_of_command = refl; help = refl; version = refl }
