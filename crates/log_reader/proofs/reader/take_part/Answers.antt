use Rattle.std.proofs.Common.{◌≡◌, ℕ, List, Option, Some, sym, ◌∙◌, ap, subst}
use Rattle.model_base.specs.declared.log.EndReason.TheVariants as ends
use Rattle.model_base.specs.Log.{Kind}
use Rattle.model_base.specs.Reading.{ReadingEnds, IsRecord}
use Rattle.log_reader.specs.declared.reader.Continuation.{Continuation}
use Rattle.log_reader.specs.Windows.{offset_of, bytes_of}
use Rattle.log_reader.specs.Steps.{HasReadPart, continuation_of}
use Rattle.log_reader.proofs.OneMore.{ends_in_order, goes_further, ends_record}
use Rattle.log_reader.proofs.reader.take_part.Goals as goal

-- how the record continues, with the fragment's offset written in another way
continuation_there : (kind : Kind) (begun : Option ℕ) (at place : ℕ) (t : Continuation) → at ≡ place → t ≡ continuation_of kind begun at → continuation_of kind begun place ≡ t
continuation_there kind begun at place t same e = ap (continuation_of kind begun) (sym same) ∙ sym e

pub returns-in-Misplaced-clause-step : goal.returns-in-Misplaced-clause-step
returns-in-Misplaced-clause-step c = λ file place offset on s n.
    let w = c.args.window.now in
    subst (λ (at : ℕ). ReadingEnds c.args.number file place at ends.BadOrder) (sym c.offset-at.ensures)
    (ends_in_order c.args.number file place offset w.start (bytes_of w) w.at c.args.kind c.args.start c.args.end c.args.begun c.args.in_hand.now.items s n
    (continuation_there n.kind c.args.begun c.offset-at.result (offset_of w) _ c.offset-at.ensures (c.in-Misplaced.ensures n.kind n.code_is)))

pub returns-in-Ok-clause-step : goal.returns-in-Ok-clause-step
returns-in-Ok-clause-step c = λ file place offset on s n.
    let w = c.args.window.now in
    let first : ℕ = c.in-More.first in
    let new : List ℕ = c.add_part.new.in_hand.items in
    subst (λ (place_now : ℕ). HasReadPart c.args.number file place (Some first) new place_now) (sym c.in-Ok.ensures.there)
    (goes_further c.args.number file place offset w.start (bytes_of w) w.at c.args.kind c.args.start c.args.end first c.args.begun c.args.in_hand.now.items new s n
    (continuation_there n.kind c.args.begun c.offset-at.result (offset_of w) _ c.offset-at.ensures (c.in-More.ensures n.kind n.code_is)) c.in-Ok.ensures.added)

pub returns-in-Ok-add_part-clause-step : goal.returns-in-Ok-add_part-clause-step
returns-in-Ok-add_part-clause-step c = λ file place offset on s n.
    let w = c.args.window.now in
    let first : ℕ = c.in-Last.first in
    let new : List ℕ = c.add_part-in-Last.new.in_hand.items in
    subst (λ (end : ℕ). IsRecord c.args.number file place first end new) (sym (c.offset.ensures ∙ c.in-Ok-add_part.ensures.there))
    (ends_record c.args.number file place offset w.start (bytes_of w) w.at c.args.kind c.args.start c.args.end first c.args.begun c.args.in_hand.now.items new s n
    (continuation_there n.kind c.args.begun c.offset-at.result (offset_of w) _ c.offset-at.ensures (c.in-Last.ensures n.kind n.code_is)) c.in-Ok-add_part.ensures.added)
