-- The result of a list of events.
use Rattle.std.specs.Prelude.{◌≡◌, List}
use Rattle.model_core.specs.declared.event.Event.{Event}
use Rattle.model_core.specs.Core as core
use Rattle.model_core.specs.CoreLaw.{IsCore}
use Rattle.model_core.specs.Step as table
use Rattle.replay_core.specs.declared.state.State.{State}
use Rattle.replay_core.specs.declared.step.Counts.{Counts}
use Rattle.replay_core.specs.Shows.{Shows}

-- the counts and the state of the code are those of the machine after the events
pub record IsReplay (o : core.Options) (counts : Counts) (new : State) (r : table.Replayed) : Type 0 where
  pub taken : counts.taken ≡ r.taken
  pub skipped : counts.skipped ≡ r.skipped
  pub state : Shows new o r.state

-- from each state of the machine that `old` shows
abbrev pub Replays : List Event → State → Counts → State → Type 0
Replays events old counts new = (o : core.Options) (s : core.State) → IsCore o s → Shows old o s
    → IsReplay o counts new (table.replay o s events)
