use Rattle.std.proofs.Common.{arith}
use Rattle.line_rule.proofs.Passes.{peeks_second}
use Rattle.line_writers.proofs.line_writers.WriterList.has_groups.Goals as goal

pub load-requires : goal.load-requires
load-requires g c = let z = c.args.self.now.sized in (c.requires.0, omega arith, peeks_second _ _ _ _ _)
