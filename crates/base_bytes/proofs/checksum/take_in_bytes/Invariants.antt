use Rattle.std.proofs.Common.{◌≡◌, take, fold}
use Rattle.base_bytes.specs.Register.{take_in_byte}
use Rattle.base_bytes.proofs.checksum.take_in_bytes.Given as goal

-- the register has taken in the bytes so far
abbrev pub invariant-loop-byte : goal.invariant-loop-byte
invariant-loop-byte l = l.register ≡ fold take_in_byte l.first (take l.byte-index l.bytes)
