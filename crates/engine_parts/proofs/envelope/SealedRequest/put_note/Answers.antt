use Rattle.std.proofs.Common.{◌∙◌, ap, refl, sym, Some}
use Rattle.engine_parts.specs.declared.requests.Request.{Request}
use Rattle.engine_parts.proofs.Letters.{request_is}
use Rattle.engine_parts.proofs.Views.{noting_as}
use Rattle.engine_parts.proofs.envelope.SealedRequest.put_note.Goals as goal

pub returns : goal.returns
returns c =
    let q = c.in-Asked.request in
    let same = sym (request_is c.self.inside.letter.value c.self.inside.asked q (sym c.deref_mut.ensures.value ∙ c.in-Asked.is)) ∙ c.self.view_is in
    noting_as q (Some c.args.note) (Some c.args.note) _ _ _ _ refl ∙ ap (λ (x : Request). record x { note = Some c.args.note }) same
