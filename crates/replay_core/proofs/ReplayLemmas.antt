-- One more event of a list.
use Rattle.std.proofs.Common.{◌≡◌, ℕ, ◌+◌, ◌<◌, Bool, true, false, List, length, take, get_or, Option, Some, None, refl, sym, ap, subst, arith}
use Rattle.std.proofs.lemmas.List.Sums.{fold_more}
use Rattle.model_core.specs.declared.event.Event.{Event}
use Rattle.model_core.specs.Core as core
use Rattle.model_core.specs.CoreLaw.{IsCore}
use Rattle.model_core.specs.Step.{step, Replayed, after_event, replay}
use Rattle.model_core_laws.proofs.Kept.{kept}
use Rattle.replay_core.specs.declared.state.State.{State}
use Rattle.replay_core.specs.declared.step.Counts.{Counts}
use Rattle.replay_core.specs.Counted.{counts_after_event}
use Rattle.replay_core.specs.Replay.{IsReplay}
use Rattle.replay_core.specs.Shows.{Shows, ShowsStep}

after_step : (o : core.Options) (r : Replayed) (event : Event) (counts : Counts) (old new : State) (came : Bool) (v : Option core.State) → step o r.state event ≡ v → IsReplay o counts old r → IsCore o r.state
    → ShowsStep v o r.state came new → IsReplay o (counts_after_event came counts) new (after_event r v) × IsCore o (after_event r v).state
after_step o r event counts old new true None e is core stepped = cc
after_step o r event counts old new false None e is core stepped = (record { taken = is.taken; skipped = ap (λ n. n + 1) is.skipped; state = stepped.1 }, core)
after_step o r event counts old new true (Some t) e is core stepped = (record { taken = ap (λ n. n + 1) is.taken; skipped = is.skipped; state = stepped.1 }, (kept o r.state t event core e).0)
after_step o r event counts old new false (Some t) e is core stepped = cc

pub one_more : (o : core.Options) (s : core.State) (events : List Event) (i : ℕ) (d : Event) (counts : Counts) (old new : State) (came : Bool) → i < length events
    → IsReplay o counts old (replay o s (take i events)) × IsCore o (replay o s (take i events)).state
    → ((s : core.State) → IsCore o s → Shows old o s → ShowsStep (step o s (get_or events i d)) o s came new)
    → IsReplay o (counts_after_event came counts) new (replay o s (take (i + 1) events)) × IsCore o (replay o s (take (i + 1) events)).state
one_more o s events i d counts old new came within so_far stepped =
    let r : Replayed = replay o s (take i events) in
    let start : Replayed = record { state = s; taken = 0; skipped = 0 } in
    let event : Event = get_or events i d in
    let next : replay o s (take (i + 1) events) ≡ after_event r (step o r.state event) = fold_more (λ (r : Replayed) (event : Event). after_event r (step o r.state event)) start events i d within in
    let P : Replayed → Type 0 = λ q. IsReplay o (counts_after_event came counts) new q × IsCore o q.state in
    subst P (sym next) (after_step o r event counts old new came (step o r.state event) refl so_far.0 so_far.1 (stepped r.state so_far.1 so_far.0.state))

pub counted_sum : (came : Bool) (counts : Counts) → (counts_after_event came counts).taken + (counts_after_event came counts).skipped ≡ counts.taken + counts.skipped + 1
counted_sum true counts = omega arith
counted_sum false counts = omega arith

-- where no event has come, the last one hasn't come either
pub none_came : (came : Bool) (counts : Counts) → (counts_after_event came counts).taken ≡ 0 → (came ≡ false) × (counts.taken ≡ 0)
none_came true counts e = absurd (omega (arith, e))
none_came false counts e = (refl, e)
