use Rattle.std.proofs.Common.{◌≡◌, ◌+◌, List, [], ◌∷◌, ◌++◌, take, sym, subst, arith}
use Rattle.std.specs.List.{AllZip}
use Rattle.replay_core.specs.declared.state.Seat.{Seat}
use Rattle.replay_core.specs.Fresh.{IsFresh}
use Rattle.replay_core.proofs.OpeningLemmas.{zip_more}
use Rattle.replay_core.proofs.opening.new_seats.Goals as goal

pub loop-plan-preserved : goal.loop-plan-preserved
loop-plan-preserved c =
    let plans = c.args.plans.now in
    let i = c.loop-plan.plan-index in
    let fresh : IsFresh c.plan-item.result c.in_ok-new.field-0 = c.in_ok-new.ensures c.plan-item.result (omega arith) in
    let pushed : c.push.new.self.items ≡ c.loop-plan.seats.items ++ c.in_ok-new.field-0 ∷ [] = c.in_ok-push.ensures.items in
    let P : List Seat → Type 0 = λ xs. AllZip IsFresh (take (i + 1) plans) xs in (
      subst P (sym pushed) (zip_more IsFresh plans c.loop-plan.seats.items i c.plan-item.result c.in_ok-new.field-0 c.loop-plan-test.true c.plan-item.is c.loop-plan.invariant.0 fresh),
      omega (arith, c.in_ok-push.ensures.len),
    )
