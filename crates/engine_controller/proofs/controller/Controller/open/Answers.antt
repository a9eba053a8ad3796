use Rattle.std.proofs.Common.{◌≡◌, ◌+◌, false, List, length, arith, refl, sym, ap, ◌∙◌}
use Rattle.engine_controller.specs.declared.pass.Pass.{Pass}
use Rattle.engine_controller.specs.Rule.{others}
use Rattle.engine_controller.proofs.Totals.{length_snoc, each_snoc, get_none}
use Rattle.engine_controller.proofs.Moves.{cuts, fewer_is, next_is}
use Rattle.engine_controller.proofs.Spoken.{IsFresh, own_fresh}
use Rattle.engine_controller.proofs.controller.Controller.open.Goals as goal

pub loop-known-init : goal.loop-known-init
loop-known-init g c =
    let empty = c.in_ok-passes.ensures.items in
    (ap length empty, c.in_ok-cell.ensures.0, c.in_ok-cell.ensures.1, λ i p e. absurd (get_none _ p i empty e), c.in_ok-board.ensures.new.0)

pub split-seat-requires : goal.split-seat-requires
split-seat-requires g c =
    let i = c.loop-known.invariant in
    record { cell = i.1; rule = cuts _ c.loop-known.known (omega (arith, c.loop-known-test.true, c.requires.clients.1)) _ i.2 }

pub client-requires : goal.client-requires
client-requires g c = c.loop-known.invariant.4

pub loop-known-preserved : goal.loop-known-preserved
loop-known-preserved g c =
    let i = c.loop-known.invariant in
    let items = c.in_ok-push.ensures.items in
    let cut = c.split-seat.ensures in
    let own = c.client.ensures in
    let passes : List Pass = c.loop-known.passes.items in
    let pushed : Pass = record { seat = c.split-seat.result; number = c.loop-known.known + 1; stopping = false; slowing = false; shown = 0; board = c.client.result; said = 0; tokens = 0 } in (
      length_snoc passes _ pushed c.loop-known.known items i.0,
      cut.kept.0 ∙ i.1,
      fewer_is c.loop-known.known _ _ cut.kept.1 i.2,
      each_snoc (IsFresh c.in_ok-cell.cell.table.shared.table_id c.in_ok-board.board.words.shared.table_id) passes _ pushed items i.3
          (cut.given.0 ∙ i.1, next_is c.loop-known.known (length passes) _ _ cut.given.1 i.2 i.0, ap (λ n. n + 1) (sym i.0), refl, refl, refl, own.new.0 ∙ i.4, own.new.1, refl, refl),
      own.same.0 ∙ i.4,
    )

pub returns : goal.returns
returns g c =
    let i = c.loop-known.invariant in
    let all : c.loop-known.known ≡ c.args.clients = omega (arith, c.loop-known.auto.known-end, c.loop-known-test.false) in
    record {
      new = record {
        opened_for = refl;
        number = i.0 ∙ all;
        each = λ j p e. own_fresh _ j p (i.3 j p e);
        others_are = record { cell = i.1; view = i.2 ∙ ap others all; board = i.4 };
      };
    }
