use Rattle.std.proofs.Common.{◌≡◌, ◌+◌, take}
use Rattle.model_core.specs.Core as core
use Rattle.model_core.specs.CoreLaw.{IsCore}
use Rattle.model_core.specs.Step as table
use Rattle.replay_core.specs.Shown.{plans_in}
use Rattle.replay_core.specs.Shows.{Shows}
use Rattle.replay_core.specs.Replay.{IsReplay}
use Rattle.replay_core.proofs.step.replay.Given as goal

abbrev pub invariant-loop-event : goal.invariant-loop-event
invariant-loop-event l = (l.counts.taken + l.counts.skipped ≡ l.event-index)
    × (l.counts.taken ≡ 0 → l.state ≡ l.initial.state)
    × (plans_in l.state ≡ plans_in l.initial.state)
    × ((o : core.Options) (s : core.State) → IsCore o s → Shows l.initial.state o s → IsReplay o l.counts l.state (table.replay o s (take l.event-index l.events)) × IsCore o (table.replay o s (take l.event-index l.events)).state)
