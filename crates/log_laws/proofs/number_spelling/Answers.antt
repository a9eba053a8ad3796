use Rattle.log_laws.proofs.Varints.{varint_spells, one_varint}
use Rattle.log_laws.proofs.number_spelling.Goals as goal

pub returns : goal.returns
returns c = record { spelled = varint_spells; one = one_varint }
