use Rattle.std.proofs.Common.{arith}
use Rattle.log_writer.specs.ReadLaws.{not_read}
use Rattle.log_writer.proofs.ReadsIn.{only_bytes, no_more_bytes}
use Rattle.log_writer.proofs.reads.read_current.Goals as goal

pub returns-then-which-eq0-clause-bytes : goal.returns-then-which-eq0-clause-bytes
returns-then-which-eq0-clause-bytes g c = only_bytes c.args.current.now c.args.which c.args.at c.read_at.new.buf c.read_at.result c.if-which-eq0.true c.read_at.ensures.bytes

pub returns-else-which-eq0-clause-bytes : goal.returns-else-which-eq0-clause-bytes
returns-else-which-eq0-clause-bytes g c = no_more_bytes c.args.current.now c.args.which c.args.at c.args.buf.now (omega (arith, c.if-which-eq0.false))

pub returns-else-which-eq0-clause-current : goal.returns-else-which-eq0-clause-current
returns-else-which-eq0-clause-current g c = not_read c.args.current.now
