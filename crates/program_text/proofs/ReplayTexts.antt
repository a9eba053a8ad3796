-- The text of a replay's values is the text of the schedule's result.
use Rattle.std.proofs.Common.{◌≡◌, refl}
use Rattle.model_core.specs.Step.{Replayed}
use Rattle.model_core.specs.ReplayText.{replay_text}
use Rattle.replay_schedules.specs.declared.replaying.Replayed as values
use Rattle.replay_schedules.specs.Replayed.{ShowsReplayed}
use Rattle.program_text.specs.ShownText.{shown_replayed_text}
use Rattle.program_text.proofs.Shown.{clients_shown, history_shown}

-- the text of the whole result
pub replayed_shown : (v : values.Replayed) (r : Replayed) → ShowsReplayed v r → shown_replayed_text v ≡ replay_text r
replayed_shown v r shows =
    rw (clients_shown 1 _ _ shows.transcripts, history_shown _ _ shows.history, ← shows.taken, ← shows.skipped, ← shows.last, ← shows.pairs, ← shows.groups) refl
