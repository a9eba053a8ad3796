use Rattle.std.proofs.Common.{◌≡◌, ◌∙◌, ap, refl, subst, sym, Option, None, Some}
use mathlib.Core.List.{IsPrefix}
use Rattle.engine_controller.specs.Noted.{Noted}
use Rattle.engine_controller.specs.Passes.{client_of, seen_by}
use Rattle.engine_parts.specs.declared.requests.Request.{Request}
use Rattle.engine_parts.specs.Handled.{noted_in}
use Rattle.engine_parts.proofs.Views.{goes_none, legal_seen}
use Rattle.engine_parts.proofs.asking.learn_of.Goals as goal

pub returns-in-Some-clause-same : goal.returns-in-Some-clause-same
returns-in-Some-clause-same g c =
    let q : Request = c.args.request.now in
    let kept : Some c.copies-learned.result.1 ≡ q.note = ap Some c.copies-learned.ensures.1 ∙ (sym c.in-Some.is ∙ c.take_note.ensures.value) in
    c.put_note.ensures ∙ (ap (λ (x : Request). record x { note = Some c.copies-learned.result.1 }) c.take_note.ensures.after ∙ ap (λ (o : Option Noted). record q { note = o }) kept)

pub returns-in_default-clause-seen : goal.returns-in_default-clause-seen
returns-in_default-clause-seen g c = goes_none (client_of c.args.pass.now) (seen_by c.args.pass.now) (legal_seen c.args.pass.now)

pub returns-in_default-clause-noted : goal.returns-in_default-clause-noted
returns-in_default-clause-noted g c =
    let none : c.args.request.now.note ≡ None = sym c.take_note.ensures.value ∙ c.in_default.is in
    subst (λ (o : Option Noted). IsPrefix (noted_in o) (seen_by c.args.pass.now)) (sym none) (seen_by c.args.pass.now, refl)

pub returns-in_default-clause-same : goal.returns-in_default-clause-same
returns-in_default-clause-same g c =
    let q : Request = c.args.request.now in
    let none : None ≡ q.note = sym c.in_default.is ∙ c.take_note.ensures.value in
    c.take_note.ensures.after ∙ ap (λ (o : Option Noted). record q { note = o }) none
