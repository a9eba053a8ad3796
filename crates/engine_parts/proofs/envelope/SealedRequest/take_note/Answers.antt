use Rattle.std.proofs.Common.{◌∙◌, ap, sym, None}
use Rattle.engine_parts.specs.declared.requests.Request.{Request}
use Rattle.engine_parts.proofs.Letters.{request_is}
use Rattle.engine_parts.proofs.Views.{noting_as}
use Rattle.engine_parts.proofs.envelope.SealedRequest.take_note.Goals as goal

pub returns-clause-after : goal.returns-clause-after
returns-clause-after c =
    let q = c.in-Asked.request in
    let same = sym (request_is c.self.inside.letter.value c.self.inside.asked q (sym c.deref_mut.ensures.value ∙ c.in-Asked.is)) ∙ c.self.view_is in
    noting_as q c.take.new.self None _ _ _ _ c.take.ensures.after ∙ ap (λ (x : Request). record x { note = None }) same
