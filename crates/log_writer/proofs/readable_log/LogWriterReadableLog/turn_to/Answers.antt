use Rattle.std.proofs.Common.{arith}
use Rattle.log_writer.specs.ReadLaws.{not_read}
use Rattle.log_writer.proofs.readable_log.LogWriterReadableLog.turn_to.Goals as goal

pub returns-clause-chosen : goal.returns-clause-chosen
returns-clause-chosen g c = omega (arith, c.requires.there)

pub returns-clause-stays : goal.returns-clause-stays
returns-clause-stays g c = not_read c.args.self.now
