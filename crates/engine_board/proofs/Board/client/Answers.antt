use Rattle.std.proofs.Common.{arith}
use Rattle.engine_board.proofs.Steps.{splits}
use Rattle.engine_board.proofs.Board.client.Goals as goal

pub split_seat-requires : goal.split_seat-requires
split_seat-requires c = (c.requires, omega (arith, c.args.self.now.sized.0), splits _ _)
