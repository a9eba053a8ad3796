use Rattle.std.proofs.Common.{◌≢◌, ℕ, ◌+◌, drop, subst, refl, sym, ◌∙◌, arith}
use Rattle.model_core.specs.Core as core
use Rattle.run_command_list.specs.declared.command_kind.CommandKind.TheVariants.{Addition, Clear}
use Rattle.run_command_list.specs.Kinds.{kind_of}
use Rattle.run_command_list.specs.Views.{command_of}
use Rattle.replay_plans.specs.Ahead.{IsAhead}
use Rattle.replay_plans.specs.Plans.{added_between}
use Rattle.replay_plans.proofs.AheadLemmas.{Reached, past_addition, past_clear, calls_alone, at_call, at_end}
use Rattle.replay_plans.proofs.ahead.look_ahead.Goals.{in-Addition, in-Clear}
use Rattle.replay_plans.proofs.ahead.look_ahead.Goals as goal

pub loop-place-init : goal.loop-place-init
loop-place-init c = λ calls client begun within. record { now = calls; answers = refl; same = refl; begun = begun; onward = omega arith }

pub returns-in-Commit : goal.returns-in-Commit
returns-in-Commit c = λ calls client begun within.
    let x = command_of c.line.result.now in
    let alone : (kind_of x ≢ Addition) × (kind_of x ≢ Clear) = rw c.kind.ensures at (calls_alone c.kind.result c.in-Commit.is) in
    at_call c.args.plan.now c.args.at c.args.from c.loop-place.place c.loop-place.begin calls client x c.line.ensures alone (c.loop-place.invariant calls client begun within)

pub loop-place-preserved : goal.loop-place-preserved
loop-place-preserved c = λ calls client begun within.
    let plan = c.args.plan.now in
    let x = command_of c.line.result.now in
    let reached = c.loop-place.invariant calls client begun within in
    let P : ℕ → Type 0 = λ b. Reached plan c.args.at c.args.from (c.loop-place.place + 1) b calls client in
    elim c.match-kind.branch [
      | in-Addition w ↦
          subst P (sym w.begin-is) (past_addition plan c.args.at c.args.from c.loop-place.place c.loop-place.begin calls client x c.line.ensures (sym c.kind.ensures ∙ w.in-Addition.is) reached)
      | in-Clear w ↦
          subst P (sym w.begin-is) (past_clear plan c.args.at c.args.from c.loop-place.place c.loop-place.begin calls client x c.line.ensures (sym c.kind.ensures ∙ w.in-Clear.is) reached)
    ]

pub returns : goal.returns
returns c = λ calls client begun within.
    let plan = c.args.plan.now in
    let P : ℕ → Type 0 = λ n. IsAhead plan c.args.at (record { call = n; next = n; from = c.loop-place.begin }) calls client
    (core.ahead calls (added_between c.args.from c.args.at plan) (drop c.args.at plan) client) in
    subst P (sym c.len-end.ensures) (at_end plan c.args.at c.args.from c.loop-place.place c.loop-place.begin calls client (omega (arith, within)) (c.loop-place.invariant calls client begun within))
