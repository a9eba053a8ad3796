-- What an event does in the code, by what it does in the machine of events.
use Rattle.std.specs.Prelude.{Bool, List, take, drop, map, Option}
use Rattle.model_core.specs.Core as core
use Rattle.model_core.specs.CoreLaw.{IsCore}
use Rattle.model_core.specs.Step.{leave}
use Rattle.replay_core.specs.declared.state.State.{State}
use Rattle.replay_core.specs.Mirrors.{Mirrors, MirrorsStep}
use Rattle.replay_core.specs.Shown.{shown_writer}

-- From each state of the machine that the code's state mirrors, the event comes in both or in neither.
abbrev pub Steps : (core.Options → core.State → Option core.State) → State → Bool → State → Type 0
Steps event old came new = (o : core.Options) (s : core.State) → IsCore o s → Mirrors o old s
    → MirrorsStep (event o s) o s came new

-- the writers of the group in hand
abbrev pub hand_in : State → List core.Writer
hand_in r = take r.in_hand (drop r.in_second (map (shown_writer r.plans.items) r.linked.items))

-- The group in hand leaves with these answers, and the log is free.
abbrev pub HandLeaves : (List core.Writer → List core.Writer) → State → State → Type 0
HandLeaves answered old new = (o : core.Options) (s : core.State) → Mirrors o old s
    → Mirrors o new (record (leave s (answered (hand_in old))) { log = core.free })
