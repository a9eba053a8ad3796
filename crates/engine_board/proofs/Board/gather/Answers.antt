use Rattle.std.proofs.Common.{◌∙◌, arith}
use Rattle.engine_board.proofs.Steps.{marks, gathers}
use Rattle.engine_board.proofs.Board.gather.Goals as goal

pub fetch_max-requires : goal.fetch_max-requires
fetch_max-requires c = (c.requires, omega (arith, c.args.self.now.sized.0), marks _ _ _ _)

pub load-requires : goal.load-requires
load-requires c = (c.fetch_max.ensures.0 ∙ c.requires, omega (arith, c.args.self.now.sized.0), gathers _ _ _)
