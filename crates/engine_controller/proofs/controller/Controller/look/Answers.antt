use Rattle.std.proofs.Common.{◌≤◌, refl, sym, ◌∙◌, subst}
use Rattle.crossbeam_utils.specs.Seq.{cell_view}
use Rattle.model_base.specs.Controller as controller
use Rattle.model_base.specs.Controller.{look}
use Rattle.engine_controller.specs.Rule.{seen_in, history_of}
use Rattle.engine_controller.specs.Looks.{look_of, look_at}
use Rattle.engine_controller.specs.Numbers.{numbers_of}
use Rattle.engine_controller.specs.Passes.{client_of, seen_by}
use Rattle.engine_controller.proofs.Moves.{looks_turn}
use Rattle.engine_controller.proofs.Owned.{own_calls}
use Rattle.engine_controller.proofs.Tellings.{made_ends, ends_told}
use Rattle.engine_controller.proofs.controller.Controller.look.Goals as goal

pub load-found-requires : goal.load-found-requires
load-found-requires g c =
    let own = c.requires.own in
    record { cell = own.cell; rule = looks_turn _ _ _ _ own.view }

pub returns-clause-own : goal.returns-clause-own
returns-clause-own g c =
    let own = c.requires.own in
    let told = c.load-found.ensures in
    own_calls _ _ _ _ _ own (told.cell ∙ own.cell) told.rule refl refl refl refl

pub returns-clause-asked : goal.returns-clause-asked
returns-clause-asked g c =
    let old = c.args.pass.now in
    let told = c.load-found.ensures in
    ends_told (client_of old) (seen_by old) look (look_at (numbers_of c.load-found.result) look) (look_of c.new.result) (history_of (seen_in (cell_view c.load-found.new.seat))) c.new.ensures (made_ends _ _ _ _ told.rule)

pub returns-clause-stopped : goal.returns-clause-stopped
returns-clause-stopped g c = λ holds. subst (λ (l : controller.Look). 1 ≤ l.stops) (sym c.new.ensures) (c.load-found.ensures.rule.own_stop holds)
