use Rattle.std.proofs.Common.{refl, sym, ap, ◌∙◌, subst}
use mathlib.Core.List.{IsPrefix}
use Rattle.crossbeam_utils.specs.Seq.{cell_view}
use Rattle.engine_controller.specs.Noted.{Noted}
use Rattle.engine_controller.specs.Rule.{seen_in, history_of}
use Rattle.engine_controller.proofs.Moves.{sees_turn}
use Rattle.engine_controller.proofs.Steps.{one_note}
use Rattle.engine_controller.proofs.Owned.{own_follows}
use Rattle.engine_controller.proofs.Tellings.{joined_is, learns, learns_note, follows_goes, sees_shown}
use Rattle.engine_controller.proofs.controller.Controller.learn.Goals as goal

pub join-requires : goal.join-requires
join-requires g c =
    let own = c.requires.own in
    record { cell = own.cell; other = (ap (λ (n : Noted). n.cell) c.note.view_is ∙ c.requires.note ∙ sym own.cell, c.note.invariant.1) }

pub load-found-requires : goal.load-found-requires
load-found-requires g c =
    let joined = c.join.ensures in
    record {
      cell = joined.cell ∙ c.requires.own.cell;
      rule = sees_turn _ _ _ _ (one_note _) _ (joined_is _ _ _ c.requires.own.view c.note.invariant.0 joined.view);
    }

pub returns-clause-own : goal.returns-clause-own
returns-clause-own g c =
    let own = c.requires.own in
    let joined = c.join.ensures in
    let told = c.load-found.ensures in
    own_follows _ _ _ own (told.cell ∙ joined.cell ∙ own.cell) (learns _ _ _ own.view c.note.invariant.0 joined.view _ _ _ told.rule) (sees_shown _ _ _ _ told.rule) refl

pub returns-clause-seen : goal.returns-clause-seen
returns-clause-seen g c = follows_goes _ _ (learns _ _ _ c.requires.own.view c.note.invariant.0 c.join.ensures.view _ _ _ c.load-found.ensures.rule)

pub returns-clause-noted : goal.returns-clause-noted
returns-clause-noted g c =
    subst (λ (n : Noted). IsPrefix (history_of n.seen) (history_of (seen_in (cell_view c.load-found.new.seat)))) c.note.view_is
    (learns_note _ _ _ c.requires.own.view c.note.invariant.0 c.join.ensures.view _ _ _ c.load-found.ensures.rule)
