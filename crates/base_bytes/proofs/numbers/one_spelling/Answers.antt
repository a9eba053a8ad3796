use Rattle.base_bytes.proofs.Spellings.{varint_spells, spelled_as, one_varint}
use Rattle.base_bytes.proofs.numbers.one_spelling.Goals as goal

pub returns-clause-spelled : goal.returns-clause-spelled
returns-clause-spelled c = varint_spells

pub returns-clause-only : goal.returns-clause-only
returns-clause-only c = spelled_as

pub returns-clause-unique : goal.returns-clause-unique
returns-clause-unique c = one_varint
