-- Which text tells a result.
use Rattle.std.specs.Prelude.{◌≡◌, ℕ, List}
use Rattle.model_base.specs.Recovery as recovery
use Rattle.model_base.specs.RecoveredLogs as recovered_logs
use Rattle.model_base.specs.Text as model
use Rattle.model_core.specs.Step as core
use Rattle.model_core.specs.ReplayText.{replay_text}
use Rattle.log_recovery.specs.declared.recovery.Recovered.{Recovered}
use Rattle.log_recovery.specs.declared.many.RecoveredMany.{RecoveredMany}
use Rattle.log_recovery.specs.Recovering.{ShowsRecovered}
use Rattle.log_recovery.specs.RecoveringLogs.{ShowsLogs}
use Rattle.replay_schedules.specs.declared.replaying.Replayed.{Replayed}
use Rattle.replay_schedules.specs.Replayed.{ShowsReplayed}

-- the text is that of whatever recovery the values show
abbrev pub IsTextOf : Recovered → List ℕ → Type 0
IsTextOf shown text = (r : recovery.Recovered) → ShowsRecovered shown r → text ≡ model.recovered_text r

-- the text is that of whatever recovery of several logs the values show
abbrev pub IsTextOfLogs : RecoveredMany → List ℕ → Type 0
IsTextOfLogs shown text = (r : recovered_logs.RecoveredLogs) → ShowsLogs shown r → text ≡ model.recovered_logs_text r

-- the text is that of whatever result of a schedule the values show
abbrev pub IsReplayText : Replayed → List ℕ → Type 0
IsReplayText shown text = (r : core.Replayed) → ShowsReplayed shown r → text ≡ replay_text r
