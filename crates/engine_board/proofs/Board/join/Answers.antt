use Rattle.std.proofs.Common.{◌∙◌, arith}
use Rattle.engine_board.proofs.Steps.{joins}
use Rattle.engine_board.proofs.Board.join.Goals as goal

pub join_seat-requires : goal.join_seat-requires
join_seat-requires c =
    let r = c.requires in
    (r.0, r.1 ∙ r.0, r.2, omega (arith, c.args.self.now.sized.0), joins _ _ _ _)
