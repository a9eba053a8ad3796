use Rattle.program_words.proofs.Levels.{lawful_asks}
use Rattle.program_words.proofs.laws.lawful_words.Goals as goal

pub returns : goal.returns
returns c words asked e = lawful_asks _ asked e
