-- The result of a schedule of events on the core of its script's clients.
use Rattle.std.specs.Prelude.{◌≡◌, length, map}
use Rattle.std.specs.List.{AllZip}
use Rattle.model_core.specs.Core.{Client, opening_state, published_map}
use Rattle.model_core.specs.Step as core
use Rattle.model_core.specs.Schedule.{Schedule}
use Rattle.replay_core.specs.declared.state.CoreOptions.{CoreOptions}
use Rattle.replay_core.specs.Shown.{options_of}
use Rattle.replay_schedules.specs.declared.replaying.Replayed.{Replayed}
use Rattle.run_outcome.specs.Shows.{ShowsReplies, ShowsEntry}

-- the schedule, run on the core with these options from its opening
abbrev pub replayed_of : CoreOptions → Schedule → core.Replayed
replayed_of o s = core.replay (options_of o) (opening_state (options_of o) s.script) s.events

-- The values show the result of the schedule.
pub record ShowsReplayed (shown : Replayed) (r : core.Replayed) : Type 0 where
  pub taken : r.taken ≡ shown.counts.taken
  pub skipped : r.skipped ≡ shown.counts.skipped
  pub transcripts : AllZip (λ v. ShowsReplies v.items) shown.transcripts.items
      (map (λ (c : Client). c.calls) r.state.clients)
  pub history : AllZip ShowsEntry shown.history.items r.state.entries
  pub last : r.state.last ≡ shown.last
  pub pairs : published_map r.state ≡ shown.map
  pub groups : length r.state.groups ≡ shown.groups
