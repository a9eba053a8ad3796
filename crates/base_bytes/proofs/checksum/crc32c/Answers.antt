use Rattle.std.proofs.Common.{[], refl}
use Rattle.base_bytes.proofs.checksum.crc32c.Goals as goal

pub returns : goal.returns
returns c = c.extend.ensures [] refl
