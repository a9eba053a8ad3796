use Rattle.std.proofs.Common.{refl}
use Rattle.clap.proofs.OnLiterals.{clap_on_literals}
use Rattle.list_words.proofs.laws.words_that_clap_answers.Goals as goal

pub returns : goal.returns
unfolding clap_on_literals
returns c = record { help = refl; whole_help = refl; version = refl; nothing = refl; no_path = refl; two_paths = refl; no_number = refl; no_mode = refl }
