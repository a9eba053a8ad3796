use Rattle.base_bytes.proofs.Crc.Slices.{digits-words_in, are_bytes}
use Rattle.base_bytes.proofs.checksum.words_of.Goals as goal

pub returns : goal.returns
returns c = digits-words_in c.args.chunk.now c.told-chunk (are_bytes c.args.chunk.now c.requires.bytes)
