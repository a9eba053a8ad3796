use Rattle.std.proofs.Common.{◌≡◌, ℕ, Option, Some, None, refl, sym, ap, ◌∙◌}
use Rattle.std.specs.Prelude.{IfSome}
use Rattle.std.specs.Option.{unwrap_or}
use Rattle.crossbeam_utils.specs.Seq.{cell_view}
use Rattle.model_base.specs.Controller.{delay, after_delay}
use Rattle.engine_controller.specs.Rule.{seen_in, history_of}
use Rattle.engine_controller.specs.Looks.{look_of, look_at}
use Rattle.engine_controller.specs.Numbers.{numbers_of}
use Rattle.engine_controller.specs.Passes.{client_of, seen_by}
use Rattle.engine_controller.proofs.Moves.{is_free_at, is_not_free}
use Rattle.engine_controller.proofs.Owned.{own_calls}
use Rattle.engine_controller.proofs.Tellings.{sees_follows, follows_makes, made_ends, ends_told}
use Rattle.engine_controller.proofs.Unchanged.{unslowed}
use Rattle.engine_controller.proofs.controller.Controller.delay.Goals as goal

-- the moment that was picked is the last one that the clock answered
last_moment : (last : Option ℕ) → IfSome last (λ moment. moment ≡ unwrap_or last 0)
last_moment None = tt
last_moment (Some moment) = refl

pub ask_unslowed-found-requires-clause-picked : goal.ask_unslowed-found-requires-clause-picked
ask_unslowed-found-requires-clause-picked g c = (unwrap_or (g.Time.Clock.last c.args.clock.now) 0, last_moment (g.Time.Clock.last c.args.clock.now), refl)

pub returns-then-found-eq0-2-clause-own : goal.returns-then-found-eq0-2-clause-own
returns-then-found-eq0-2-clause-own g c =
    let own = c.requires.own in
    let told = c.ask_unslowed-found.ensures in
    own_calls _ _ _ _ _ own (told.cell ∙ own.cell) (told.asks.made (is_free_at c.ask_unslowed-found.result c.if-found-eq0.true c.if-found-eq0-2.true)) refl refl refl refl

pub returns-then-found-eq0-2-clause-asked : goal.returns-then-found-eq0-2-clause-asked
returns-then-found-eq0-2-clause-asked g c =
    let old = c.args.pass.now in
    let last = g.Time.Clock.last c.args.clock.now in
    let now = unwrap_or last 0 in
    let bytes = c.args.bytes in
    let found = c.ask_unslowed-found.result in
    let no_stops = c.if-found-eq0.true in
    let no_delays = c.if-found-eq0-2.true in
    let wait : 0 ≡ (after_delay (numbers_of found) now bytes).wait = sym (ap (λ a. a.wait) (unslowed (numbers_of found) now bytes no_delays)) in
    let told : look_of c.new.result ≡ look_at (numbers_of found) (delay now bytes) = c.new.ensures ∙ (λ i. record { stops = sym no_stops i; delays = sym no_delays i; wait = wait i }) in
    let made = c.ask_unslowed-found.ensures.asks.made (is_free_at found no_stops no_delays) in
    (now, last_moment last, ends_told (client_of old) (seen_by old) (delay now bytes) (look_at (numbers_of found) (delay now bytes)) (look_of c.new.result) (history_of (seen_in (cell_view c.ask_unslowed-found.new.seat))) told (made_ends _ _ _ _ made))

pub returns-clause-own : goal.returns-clause-own
returns-clause-own g c =
    let own = c.requires.own in
    let asked = c.ask_unslowed-found.ensures in
    let told = c.call.ensures in
    let busy = is_not_free c.ask_unslowed-found.result c.else-found-eq0.either in
    let made = follows_makes _ _ _ _ _ (sees_follows _ _ _ _ (asked.asks.other busy)) told.made.1 in
    own_calls _ _ _ _ _ own (told.cell ∙ asked.cell ∙ own.cell) made told.made.3 refl refl refl

pub returns-clause-asked : goal.returns-clause-asked
returns-clause-asked g c =
    let old = c.args.pass.now in
    let now = c.now-now.result in
    let bytes = c.args.bytes in
    let busy = is_not_free c.ask_unslowed-found.result c.else-found-eq0.either in
    let told = c.call.ensures.made in
    let made = follows_makes _ _ _ _ _ (sees_follows _ _ _ _ (c.ask_unslowed-found.ensures.asks.other busy)) told.1 in
    (now, c.now-now.ensures.last, ends_told (client_of old) (seen_by old) (delay now bytes) (look_at (numbers_of told.0) (delay now bytes)) (look_of c.call.result.0) (history_of (seen_in (cell_view c.call.new.seat))) told.2 (made_ends _ _ _ _ made))
