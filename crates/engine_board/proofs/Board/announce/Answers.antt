use Rattle.std.proofs.Common.{arith}
use Rattle.engine_board.proofs.Steps.{announces}
use Rattle.engine_board.proofs.Board.announce.Goals as goal

pub load-requires : goal.load-requires
load-requires c = (c.requires, omega (arith, c.args.self.now.sized.0), announces _ _ _)
