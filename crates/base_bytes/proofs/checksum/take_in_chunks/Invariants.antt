use Rattle.std.proofs.Common.{◌≡◌, take, fold}
use Rattle.base_bytes.specs.Register.{take_in_byte}
use Rattle.base_bytes.proofs.checksum.take_in_chunks.Given as goal

-- the register has taken in the chunks so far
abbrev pub invariant-loop-chunk : goal.invariant-loop-chunk
invariant-loop-chunk l = l.register ≡ fold (fold take_in_byte) l.first (take l.chunk-index l.chunks)
