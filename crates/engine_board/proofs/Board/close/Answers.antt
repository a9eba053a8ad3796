use Rattle.engine_board.proofs.Board.close.Goals as goal

pub returns : goal.returns
returns c =
    let last = c.close_with.ensures.values.2 in
    record { met = last.1.0.met _ _ _ _ last.1.1 last.1.1 }
