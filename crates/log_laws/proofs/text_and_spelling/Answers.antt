use Rattle.log_laws.proofs.Written.{text_spells, spells_on}
use Rattle.log_laws.proofs.Synced.{spells_one}
use Rattle.log_laws.proofs.text_and_spelling.Goals as goal

pub returns : goal.returns
returns c = record { spelled = text_spells; goes_on = spells_on; one = spells_one }
