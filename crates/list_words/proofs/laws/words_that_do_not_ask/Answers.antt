use Rattle.std.proofs.Common.{refl}
use Rattle.clap.proofs.OnLiterals.{clap_on_literals}
use Rattle.list_words.specs.Asked.{asked_in}
use Rattle.list_words.proofs.laws.words_that_do_not_ask.Goals as goal

pub returns : goal.returns
unfolding asked_in clap_on_literals
returns c = record { nothing = refl; no_path = refl; two_paths = refl; other_command = refl; path_first = refl; other_option = refl; no_number = refl; no_mode = refl; help = refl }
