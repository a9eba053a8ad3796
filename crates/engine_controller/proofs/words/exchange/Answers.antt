use Rattle.engine_controller.proofs.Moves.{exchanges}
use Rattle.engine_controller.proofs.words.exchange.Goals as goal

pub exchange_as-requires : goal.exchange_as-requires
exchange_as-requires g c =
    let r = c.requires in
    record { cell = r.cell; rule = λ eq same here. exchanges eq same here _ _ _ _ _ _ _ _ r.picked.0 r.picked.1 r.may r.new r.held_up r.shown r.tokens r.unsaid _ r.view }
