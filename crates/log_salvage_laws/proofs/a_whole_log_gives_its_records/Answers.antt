use Rattle.log_salvage_laws.proofs.GivesItself.{gives_itself}
use Rattle.log_salvage_laws.proofs.a_whole_log_gives_its_records.Goals as goal

pub returns : goal.returns
returns c = gives_itself
