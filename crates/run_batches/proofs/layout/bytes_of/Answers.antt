use Rattle.std.proofs.Common.{arith}
use Rattle.run_batches.proofs.Additions.{own_batch}
use Rattle.run_batches.proofs.layout.bytes_of.Goals as goal

pub returns : goal.returns
returns c =
    own_batch c.bytes.result.now c.args.batch.now c.bytes.ensures c.records.ensures.readable (omega (arith, c.sequence.ensures, c.sequence.type_inv)) (omega (arith, c.count.ensures, c.count.type_inv))
