use Rattle.std.proofs.Common.{refl}
use Rattle.clap.proofs.OnLiterals.{clap_on_literals}
use Rattle.list_words.specs.Asked.{asked_in}
use Rattle.list_words.proofs.laws.words_that_ask.Goals as goal

pub returns : goal.returns
unfolding asked_in clap_on_literals
returns c = record { list = refl; path_last = refl; key = refl; state = refl; state_by_mode = refl }
