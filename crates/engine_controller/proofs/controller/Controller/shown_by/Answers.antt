use Rattle.std.proofs.Common.{ap, ◌∙◌}
use Rattle.model_base.specs.Tokens.{shown_by_tokens}
use Rattle.engine_controller.specs.Noted.{Noted}
use Rattle.engine_controller.specs.Rule.{history_of}
use Rattle.engine_controller.proofs.controller.Controller.shown_by.Goals as goal

pub returns : goal.returns
returns g c = c.note.invariant.2 ∙ ap (λ (n : Noted). shown_by_tokens (history_of n.seen)) c.note.view_is
