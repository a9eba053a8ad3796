use Rattle.std.proofs.Common.{arith, sym, ◌∙◌, subst}
use Rattle.engine_controller.specs.Numbers.{numbers_of, action_of}
use Rattle.engine_controller.specs.Rule.{MayCall}
use Rattle.engine_controller.proofs.Moves.{sees_turn}
use Rattle.engine_controller.proofs.Steps.{no_notes}
use Rattle.engine_controller.proofs.Tellings.{sees_follows, follows_trans, follows_client, follows_view, follows_asked, follows_makes}
use Rattle.engine_controller.proofs.Unchanged.{noted_by}
use Rattle.engine_controller.proofs.controller.Controller.call.Goals as goal

pub load-found-requires : goal.load-found-requires
load-found-requires g c =
    let r = c.requires in
    record { cell = r.cell; rule = sees_turn _ _ _ _ no_notes _ r.view }

pub loop-init : goal.loop-init
loop-init g c =
    let told = c.load-found.ensures in
    (told.cell, sees_follows _ _ _ _ told.rule, told.rule.range)

pub after-wait-requires-clause-rate : goal.after-wait-requires-clause-rate
after-wait-requires-clause-rate g c = c.loop.invariant.2.rate

pub after-wait-requires-clause-room : goal.after-wait-requires-clause-room
after-wait-requires-clause-room g c = let range = c.loop.invariant.2 in (omega (arith, range.stops), omega (arith, range.delays), let few = c.if-found-lt18446744073709551615.true in omega (arith, few))

pub exchange-requires-clause-cell : goal.exchange-requires-clause-cell
exchange-requires-clause-cell g c = c.loop.invariant.0 ∙ c.requires.cell

pub exchange-requires-clause-view : goal.exchange-requires-clause-view
exchange-requires-clause-view g c = follows_view _ _ c.loop.invariant.1

pub exchange-requires-clause-may : goal.exchange-requires-clause-may
exchange-requires-clause-may g c = subst (MayCall c.args.action) (sym (follows_asked _ _ c.loop.invariant.1)) c.requires.may

pub exchange-requires-clause-held_up : goal.exchange-requires-clause-held_up
exchange-requires-clause-held_up g c =
    let found = c.loop.found in
    noted_by c.args.client _ found.held_up c.after-wait.result.0.held_up (numbers_of found) (action_of c.args.action) c.after-wait.ensures.held_up (c.requires.client ∙ sym (follows_client _ _ c.loop.invariant.1))

pub exchange-requires-clause-tokens : goal.exchange-requires-clause-tokens
exchange-requires-clause-tokens g c = c.after-wait.ensures.tokens

pub exchange-requires-clause-unsaid : goal.exchange-requires-clause-unsaid
exchange-requires-clause-unsaid g c = c.requires.unsaid

pub exchange-requires-clause-shown : goal.exchange-requires-clause-shown
exchange-requires-clause-shown g c = c.after-wait.ensures.shown

pub returns-in-Ok-clause-cell : goal.returns-in-Ok-clause-cell
returns-in-Ok-clause-cell g c = c.exchange.ensures.cell ∙ c.loop.invariant.0

pub returns-in-Ok-clause-made : goal.returns-in-Ok-clause-made
returns-in-Ok-clause-made g c = (
  c.loop.found,
  follows_makes _ _ _ _ _ c.loop.invariant.1 c.in-Ok.ensures.ok,
  c.new.ensures ∙ (λ i. record { stops = c.loop.found.stops; delays = c.loop.found.delays; wait = c.after-wait.ensures.wait i }),
  c.after-wait.ensures.shown,
  c.after-wait.ensures.tokens,
)

pub loop-preserved-in-Err : goal.loop-preserved-in-Err
loop-preserved-in-Err g c =
    let told = c.in-Err.ensures.err in
    (c.exchange.ensures.cell ∙ c.loop.invariant.0, follows_trans _ _ _ c.loop.invariant.1 (sees_follows _ _ _ _ told), told.range)

pub load-found-requires-else-found-lt18446744073709551615 : goal.load-found-requires-else-found-lt18446744073709551615
load-found-requires-else-found-lt18446744073709551615 g c =
    let i = c.loop.invariant in
    record { cell = i.0 ∙ c.requires.cell; rule = sees_turn _ _ _ _ no_notes _ (follows_view _ _ i.1) }

pub loop-preserved : goal.loop-preserved
loop-preserved g c =
    let told = c.load-found-else-found-lt18446744073709551615.ensures in
    (told.cell ∙ c.loop.invariant.0, follows_trans _ _ _ c.loop.invariant.1 (sees_follows _ _ _ _ told.rule), told.rule.range)
