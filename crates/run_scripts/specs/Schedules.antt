-- The schedule that was parsed, and what was parsed so far.
use Rattle.std.specs.Prelude.{◌≡◌, ℕ, List, [], ◌∷◌, ◌++◌, Option, Result, Ok, Err, option_map, find, bytes_eq, if◌then◌else◌, Vec}
use Rattle.std.specs.declared.alloc.Global.{Global}
use Rattle.model_core.specs.declared.event.Event.{Event}
use Rattle.model_core.specs.Schedule as model
use Rattle.model_base.specs.Script.{Fault, Read, ◌>>=◌, is_passed_over}
use Rattle.run_scripts.specs.declared.script.ScriptError.{ScriptError}
use Rattle.run_scripts.specs.declared.script.ScriptError.TheVariants as script_error
use Rattle.run_scripts.specs.declared.schedule.Schedule.{Schedule}
use Rattle.run_scripts.specs.declared.schedule.Draft.{Draft}
use Rattle.run_scripts.specs.Scripts.{commands_of}
use Rattle.run_scripts.specs.ReplayLanguage.{replay_grammar, event_words}

abbrev pub events_of : Option (Vec Event Global) → Option (List Event)
events_of events = option_map (λ v. v.items) events

abbrev pub draft_of : Draft → model.Draft
draft_of d = record { script = commands_of d.script; events = events_of d.events }

abbrev pub schedule_of : Schedule → model.Schedule
schedule_of s = record { script = commands_of s.script; events = s.events.items }

-- the event of a client that a word names, if it is one of these words
abbrev pub event_named : List model.EventWord → List ℕ → ℕ → Option Event
event_named words w client = option_map (λ x. x.1 client) (find (λ x. bytes_eq w x.0) words)

-- what was read so far, and one more line
abbrev pub line_added : model.Draft → List ℕ → Read model.Draft
line_added d l = if is_passed_over l then Ok d
    else model.line_added replay_grammar event_words d.script d.events l

-- the events of a schedule, and one more
abbrev pub event_added : ℕ → List Event → List ℕ → Read (List Event)
event_added clients events l = model.event_of clients event_words l >>= λ event. Ok (events ++ event ∷ [])

-- The fault and its line are those in `given`. That there was no memory says nothing of the text.
abbrev pub IsScheduleFaultOf : {A : Type 0} → Result A Fault → ScriptError → Type 0
IsScheduleFaultOf given (script_error.Fault line kind) = given ≡ Err (record { line = line; kind = kind })
IsScheduleFaultOf given script_error.NoMemory = Unit {0}
