use Rattle.std.proofs.Common.{◌∙◌, ap, sym, Some}
use Rattle.engine_parts.specs.declared.requests.Answer.{Answer}
use Rattle.engine_parts.proofs.Letters.{answer_is}
use Rattle.engine_parts.proofs.envelope.SealedAnswer.put_note.Goals as goal

pub returns : goal.returns
returns c =
    let p = c.in-Told.answer in
    let same = sym (answer_is c.self.inside.letter.value c.self.inside.told p (sym c.deref_mut.ensures.value ∙ c.in-Told.is)) ∙ c.self.view_is in
    ap (λ (x : Answer). record x { note = Some c.args.note }) same
