use Rattle.std.proofs.Common.{arith}
use Rattle.log_reader.proofs.NextSeen.{are_bytes}
use Rattle.log_reader.proofs.InBlocks.{seen_there, part_in}
use Rattle.log_reader.proofs.see.see.Goals as goal

pub returns-clause-seen : goal.returns-clause-seen
returns-clause-seen c = λ file start offset is reaches.
    seen_there c.args.number file c.args.block.now start c.args.at offset c.read_fragment.result c.requires.in_block c.requires.in_file (are_bytes c.args.block.now (λ k. omega (arith, c.type_inv.block k))) is reaches c.read_fragment.ensures

pub returns-clause-lies : goal.returns-clause-lies
returns-clause-lies c = part_in c.args.number c.args.block.now c.args.at c.read_fragment.result _ c.read_fragment.ensures
