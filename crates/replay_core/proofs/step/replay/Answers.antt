use Rattle.std.proofs.Common.{◌≡◌, ◌+◌, List, length, take, sym, ap, ◌∙◌, subst, arith}
use Rattle.std.proofs.Math.Seq.{take-length}
use Rattle.model_core.specs.declared.event.Event.{Event}
use Rattle.model_core.specs.CoreLaw.{IsCore}
use Rattle.model_core.specs.Step as table
use Rattle.replay_core.specs.declared.step.Counts.{Counts}
use Rattle.replay_core.specs.Counted.{counts_after_event}
use Rattle.replay_core.specs.Replay.{IsReplay}
use Rattle.replay_core.proofs.ReplayLemmas.{one_more, counted_sum, none_came}
use Rattle.replay_core.proofs.step.replay.Goals as goal

pub loop-event-preserved : goal.loop-event-preserved
loop-event-preserved c =
    let i = c.loop-event.event-index in
    let old = c.loop-event.counts in
    let more : counts_after_event c.step-came.result old ≡ c.after_event-counts.result = sym c.after_event-counts.ensures in
    let sum : c.after_event-counts.result.taken + c.after_event-counts.result.skipped ≡ i + 1 =
    ap (λ (k : Counts). k.taken + k.skipped) c.after_event-counts.ensures ∙ counted_sum c.step-came.result old ∙ ap (λ n. n + 1) c.loop-event.invariant.0 in (
      sum,
      λ none.
          let before = none_came c.step-came.result old (ap (λ (k : Counts). k.taken) more ∙ none) in
          c.step-came.ensures.unchanged before.0 ∙ c.loop-event.invariant.1 before.1,
      c.step-came.ensures.plans ∙ c.loop-event.invariant.2,
      λ o s is_core m.
          let P : Counts → Type 0 = λ k. IsReplay o k c.step-came.new.self (table.replay o s (take (i + 1) c.args.events.now)) × IsCore o (table.replay o s (take (i + 1) c.args.events.now)).state in
          subst P more (one_more o s c.args.events.now i _ old c.loop-event.state c.step-came.new.self c.step-came.result c.loop-event-test.true (c.loop-event.invariant.3 o s is_core m) (λ t. c.step-came.ensures.takes o t)),
    )

pub returns-clause-replays : goal.returns-clause-replays
returns-clause-replays c = λ o s is_core m.
    let events = c.args.events.now in
    let end : c.loop-event.event-index ≡ length events = omega arith in
    let all : take c.loop-event.event-index events ≡ events = ap (λ n. take n events) end ∙ take-length events in
    let P : List Event → Type 0 = λ xs. IsReplay o c.loop-event.counts c.loop-event.state (table.replay o s xs) in
    subst P all (c.loop-event.invariant.3 o s is_core m).0
