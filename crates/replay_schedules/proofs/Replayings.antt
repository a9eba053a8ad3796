-- The core that was run shows the result of the schedule.
use Rattle.std.proofs.Common.{◌≡◌, List, [], ◌∷◌, sym, subst}
use Rattle.std.specs.List.{AllByRecursion}
use Rattle.model_core.specs.Core.{opening_state}
use Rattle.model_core.specs.CoreLaw.{IsCore}
use Rattle.model_core.specs.Replies.{AreRepliesOf}
use Rattle.model_core_laws.proofs.Kept.{every_list}
use Rattle.model_core_laws.proofs.Answered.{replies}
use Rattle.replay_core.specs.declared.state.CoreOptions.{CoreOptions}
use Rattle.replay_core.specs.Shown.{options_of}
use Rattle.run_scripts.specs.declared.schedule.Schedule.{Schedule}
use Rattle.run_scripts.specs.declared.script.Script.{Script}
use Rattle.run_scripts.specs.Schedules.{schedule_of}
use Rattle.run_scripts.specs.Scripts.{HasClientsCommands, IsClientsCommand, commands_of}
use Rattle.replay_plans.specs.declared.plan.ClientPlan.{ClientPlan}
use Rattle.replay_core.specs.declared.state.State as code
use Rattle.replay_core.specs.declared.step.Counts.{Counts}
use Rattle.replay_core.specs.Replay.{IsReplay, Replays}
use Rattle.replay_core.specs.Shows.{Shows}
use Rattle.replay_schedules.specs.Replayed.{replayed_of}
use Rattle.replay_schedules.proofs.ReplayedClients.{AreSaid}

each_said : (plans : List ClientPlan) → AllByRecursion (AllByRecursion IsClientsCommand) plans → AllByRecursion AreSaid plans
each_said [] said = tt
each_said (p ∷ plans) said = (said.0, each_said plans said.1)

-- the plans of a script's clients have commands that a script may have
pub are_said : (plans : List ClientPlan) (script : Script) → plans ≡ commands_of script → HasClientsCommands script → AllByRecursion AreSaid plans
are_said plans script same said = each_said plans (subst (AllByRecursion (AllByRecursion IsClientsCommand)) (sym same) said)

-- the core was opened with the script's commands, and took its events
pub is_replay : (o : CoreOptions) (s : Schedule) (plans : List ClientPlan) (old new : code.State) (counts : Counts) → plans ≡ commands_of s.script
    → Shows old (options_of o) (opening_state (options_of o) plans) → Replays s.events.items old counts new → IsReplay (options_of o) counts new (replayed_of o (schedule_of s))
is_replay o s plans old new counts same shows run =
    let core = options_of o in
    run core (opening_state core (commands_of s.script)) (every_list core (commands_of s.script) []) (subst (λ lines. Shows old core (opening_state core lines)) same shows)

pub is_core : (o : CoreOptions) (s : Schedule) → IsCore (options_of o) (replayed_of o (schedule_of s)).state
is_core o s = every_list (options_of o) (commands_of s.script) s.events.items

pub has_replies : (o : CoreOptions) (s : Schedule) (plans : List ClientPlan) → plans ≡ commands_of s.script → AreRepliesOf (options_of o) plans (replayed_of o (schedule_of s)).state
has_replies o s plans same =
    subst (λ lines. AreRepliesOf (options_of o) lines (replayed_of o (schedule_of s)).state) (sym same) (replies (options_of o) (commands_of s.script) s.events.items)
