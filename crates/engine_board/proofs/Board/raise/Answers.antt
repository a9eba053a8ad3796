use Rattle.std.proofs.Common.{arith}
use Rattle.engine_board.proofs.Steps.{raises}
use Rattle.engine_board.proofs.Board.raise.Goals as goal

pub fetch_max-requires : goal.fetch_max-requires
fetch_max-requires c = (c.requires, omega (arith, c.args.self.now.sized.0), raises _ _ _ _)
