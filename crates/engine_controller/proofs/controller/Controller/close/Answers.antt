use Rattle.std.proofs.Common.{◌≡◌, ℕ, List, Some, length, sym, ap, ◌∙◌, subst}
use Rattle.std.specs.Prelude.{slice_get}
use Rattle.std.specs.List.{AllByRecursion}
use Rattle.engine_controller.specs.declared.pass.Pass.{Pass}
use Rattle.engine_controller.specs.Rule.{Fits, history_of}
use Rattle.engine_controller.specs.Passes.{board_of}
use Rattle.engine_controller.proofs.Moves.{moves, closes_turn}
use Rattle.engine_controller.proofs.Closings.{is_history, at_next, taken_next, taken_all, joins_next, joined_all}
use Rattle.engine_controller.proofs.Spoken.{Grows, grows_next}
use Rattle.engine_controller.proofs.Heard.{heard_at_closing}
use Rattle.engine_controller.proofs.controller.Controller.close.Goals as goal

pub loop-pass-init : goal.loop-pass-init
loop-pass-init g c = (c.requires.all.others_are.cell, c.requires.all.others_are.view, c.into_iter-pass-iterator.ensures.into_iter_gives.0, c.requires.all.others_are.board, λ i p e. absurd (cc (e)))

pub split-seat-requires : goal.split-seat-requires
split-seat-requires g c =
    let own = c.requires.all.each (length c.loop-pass.yielded) c.in-Some.pass (at_next c.loop-pass.yielded c.loop-pass.pass-iterator.rest.items c.args.passes.clients.items c.next.new.self.rest.items c.in-Some.pass c.loop-pass.invariant.2 c.in-Some.ensures.steps.0) in
    record { cell = own.0.cell; rule = moves _ _ }

pub join-requires : goal.join-requires
join-requires g c =
    let own = c.requires.all.each (length c.loop-pass.yielded) c.in-Some.pass (at_next c.loop-pass.yielded c.loop-pass.pass-iterator.rest.items c.args.passes.clients.items c.next.new.self.rest.items c.in-Some.pass c.loop-pass.invariant.2 c.in-Some.ensures.steps.0) in
    let i = c.loop-pass.invariant in
    let cut = c.split-seat.ensures.given in
    record { cell = i.0; other = (cut.0 ∙ own.0.cell ∙ sym i.0, cut.2) }

pub join-requires-in-loop-pass : goal.join-requires-in-loop-pass
join-requires-in-loop-pass g c =
    let own = c.requires.all.each (length c.loop-pass.yielded) c.in-Some.pass (at_next c.loop-pass.yielded c.loop-pass.pass-iterator.rest.items c.args.passes.clients.items c.next.new.self.rest.items c.in-Some.pass c.loop-pass.invariant.2 c.in-Some.ensures.steps.0) in
    let i = c.loop-pass.invariant in
    (i.3, own.0.board ∙ sym i.3, own.0.alone)

pub loop-pass-preserved : goal.loop-pass-preserved
loop-pass-preserved g c =
    let i = c.loop-pass.invariant in
    let cut = c.split-seat.ensures.given in
    let joined = c.join.ensures in
    let known = c.join-in-loop-pass.ensures in (
      joined.cell ∙ i.0,
      joins_next c.args.self.clients c.loop-pass.yielded c.in-Some.pass _ _ _ joined.view i.1 cut.1,
      taken_next c.loop-pass.yielded c.loop-pass.pass-iterator.rest.items c.args.passes.clients.items c.next.new.self.rest.items c.in-Some.pass i.2 c.in-Some.ensures.steps.0,
      known.0 ∙ i.3,
      grows_next c.loop-pass.yielded c.in-Some.pass c.loop-pass.first.seat.me.0 _ (ap (λ m. m.0) known.1) i.4,
    )

pub load-requires : goal.load-requires
load-requires g c = record { cell = c.loop-pass.invariant.0; rule = closes_turn _ _ }

pub returns : goal.returns
returns g c =
    let told = c.load.ensures.rule in
    let i = c.loop-pass.invariant in
    let all = c.requires.all in
    let passes : List Pass = c.args.passes.clients.items in
    let whole = taken_all c.loop-pass.yielded c.loop-pass.pass-iterator.rest.items passes i.2 (sym c.loop-pass.pass-iterator.rest.ok.0 ∙ c.in-None.ensures.steps.0) in
    let observers = joined_all c.args.self.clients c.loop-pass.yielded passes _ i.1 whole all.number in
    let fits = subst (AllByRecursion (Fits told.calls)) observers told.fits in
    let grown = subst (λ (l : List Pass). (j : ℕ) (p : Pass) → slice_get l j ≡ Some p → Grows (board_of p) c.loop-pass.first.seat.me.0) whole i.4 in
    let heard = heard_at_closing c.args.self passes all.each told.calls fits told.marks c.loop-pass.first.seat.me.0 grown c.close.ensures.met in
    record { history = (history_of told.calls, is_history passes (λ j p e. let own = all.each j p e in (own.0.view, own.1)) told.calls fits heard) }
