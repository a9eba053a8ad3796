use Rattle.std.proofs.Common.{rules}
use Rattle.engine_controller.proofs.Moves.{joins}
use Rattle.engine_controller.proofs.words.join.Goals as goal

pub join_pass-requires : goal.join_pass-requires
join_pass-requires c =
    let own = c.requires in
    (search rules, (search rules, ((own.cell, own.other.0, own.other.1), joins _ _ _ _)))
