use Rattle.std.proofs.Common.{refl}
use Rattle.engine_board.proofs.Steps.{opens}
use Rattle.engine_board.proofs.Board.open.Goals as goal

pub of_words-requires : goal.of_words-requires
of_words-requires c = opens _ 0 0 refl
