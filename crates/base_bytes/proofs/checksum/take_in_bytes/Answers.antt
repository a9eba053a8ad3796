use Rattle.std.proofs.Common.{fold, ap, ◌∙◌, arith}
use Rattle.std.proofs.lemmas.List.{take_all}
use Rattle.base_bytes.specs.Register.{take_in_byte}
use Rattle.base_bytes.proofs.Crc.Table.{take_in_byte-more}
use Rattle.base_bytes.proofs.checksum.take_in_bytes.Goals as goal

pub loop-byte-preserved : goal.loop-byte-preserved
loop-byte-preserved c =
    let i = c.loop-byte.byte-index in
    take_in_byte-more c.args.first c.loop-byte.register c.args.bytes.now i c.from.result
    (omega arith) c.from.ensures (omega (arith, c.type_inv.bytes i, c.from.ensures)) c.loop-byte.invariant

pub returns : goal.returns
returns c = c.loop-byte.invariant ∙ ap (fold take_in_byte c.args.first) (take_all c.loop-byte.byte-index c.args.bytes.now c.loop-byte-test.false)
