-- What the command `replay` promises.
use Rattle.std.specs.Prelude.{◌≡◌, ℕ, List, Option, Ok, IfSome}
use Rattle.std.specs.Io.KnownBytes.{Appends}
use Rattle.model_core.specs.Schedule.{Schedule, schedule_of}
use Rattle.model_core.specs.ReplayText.{replay_text}
use Rattle.replay_core.specs.declared.state.CoreOptions.{CoreOptions}
use Rattle.replay_schedules.specs.Replayed.{replayed_of}
use Rattle.program_call.specs.Texts.{TakesPrefix}
use Rattle.run_scripts.specs.ReplayLanguage.{replay_grammar, event_words}

-- the schedule is that of the text, if the text is told
abbrev pub SaysSchedule : Option (List ℕ) → Schedule → Type 0
SaysSchedule text schedule = IfSome text (λ t. schedule_of replay_grammar event_words t ≡ Ok schedule)

-- status 0: the text of the schedule's result was printed
pub record Replays (options : CoreOptions) (text before after : Option (List ℕ)) : Type 0 where
  pub schedule : Schedule
  pub said : SaysSchedule text schedule
  pub printed : Appends before after (replay_text (replayed_of options schedule))

-- status 5: the sink took a prefix of this text
pub record ReplaysFront (options : CoreOptions) (text before after : Option (List ℕ)) : Type 0 where
  pub schedule : Schedule
  pub said : SaysSchedule text schedule
  pub printed : TakesPrefix before after (replay_text (replayed_of options schedule))
