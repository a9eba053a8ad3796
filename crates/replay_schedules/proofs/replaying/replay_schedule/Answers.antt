-- The core shows the state that the machine reached.
use Rattle.std.proofs.Common.{◌≡◌, List, length, ap, sym, ◌∙◌, subst}
use Rattle.std.specs.List.{AllByRecursion}
use Rattle.run_scripts.specs.Schedules.{schedule_of}
use Rattle.replay_plans.specs.declared.plan.ClientPlan.{ClientPlan}
use Rattle.replay_core.specs.Replay.{IsReplay}
use Rattle.replay_core.specs.Shown.{options_of, plans_in}
use Rattle.run_scripts.specs.Scripts.{commands_of}
use Rattle.replay_schedules.specs.Replayed.{replayed_of}
use Rattle.replay_schedules.proofs.ReplayedClients.{AreSaid, transcripts_shown}
use Rattle.replay_schedules.proofs.Replayings.{are_said, is_replay, is_core, has_replies}
use Rattle.replay_schedules.proofs.SmallPlans.{small_plans}
use Rattle.replay_schedules.proofs.replaying.replay_schedule.Goals as goal

pub new-requires-clause-small : goal.new-requires-clause-small
new-requires-clause-small c =
    small_plans c.in_ok-plans.plans.items c.args.schedule.script c.in_ok-plans.ensures c.requires.fits

pub returns : goal.returns
returns c =
    let o = c.args.options in
    let s = c.args.schedule in
    let m = (replayed_of o (schedule_of s)).state in
    let core = c.replay-counts.new.state in
    let given : List ClientPlan = c.in_ok-plans.plans.items in
    let kept : plans_in core ≡ given = c.replay-counts.ensures.plans ∙ c.in_ok-core.ensures.plans in
    let same : given ≡ commands_of s.script = c.in_ok-plans.ensures in
    let is : IsReplay (options_of o) c.replay-counts.result core (replayed_of o (schedule_of s)) =
    is_replay o s given c.in_ok-core.core core c.replay-counts.result same c.in_ok-core.ensures.shows (rw c.deref.ensures.value at c.replay-counts.ensures.replays) in
    let said : AllByRecursion AreSaid (plans_in core) = subst (AllByRecursion AreSaid) (sym kept) (are_said given s.script same c.requires.commands) in
    record {
      taken = sym is.taken;
      skipped = sym is.skipped;
      transcripts = transcripts_shown (options_of o) m (plans_in core) c.in_ok-transcripts_of.field-0.items (is_core o s) said (has_replies o s (plans_in core) (kept ∙ same))
          (c.in_ok-transcripts_of.ensures (options_of o) m (is_core o s) is.state);
      history = c.in_ok-history_of.ensures (options_of o) m (is_core o s) is.state;
      last = sym (c.last.ensures (options_of o) m is.state);
      pairs = sym (c.in_ok-map.ensures (options_of o) m (is_core o s) is.state);
      groups = ap length (sym (c.logged.ensures (options_of o) m is.state));
    }
