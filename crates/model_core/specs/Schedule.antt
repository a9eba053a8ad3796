-- The text of a script with a schedule: the script's lines, the line `schedule`, and a line for each event.
use Rattle.std.specs.Prelude.{ℕ, Bool, ◌&&◌, List, [], ◌∷◌, ◌++◌, length, fold, Option, Some, None, Result, Ok, Err, codes, bytes_eq, nat_lt, nat_le, ◌==◌, if◌then◌else◌, option_and_then, find}
use Rattle.std.specs.List.{enumerate_from}
use Rattle.model_base.specs.declared.script.ScriptFault.TheVariants.{Long, Byte, Word, Form, NoClient, NoSchedule}
use Rattle.model_base.specs.Script.{Script, Read, ◌>>=◌, Grammar, Fault, at_line, lines_of, words_of, are_plain, is_passed_over, number_of, line_of, with_line, is_first}
use Rattle.model_core.specs.declared.event.Event.{Event}
use Rattle.model_core.specs.declared.event.Event.TheVariants as e

-- an event's word, and the event that it makes of a client's number
abbrev pub EventWord : Type 0
EventWord = List ℕ × (ℕ → Event)

-- the events of a write path in a single stage
abbrev pub first_event_words : List EventWord
first_event_words =
    (codes "link", e.Link) ∷ (codes "elect", e.Elect) ∷ (codes "build", e.Build) ∷ (codes "log", e.Log)
    ∷ (codes "fault", e.Fault) ∷ (codes "launch", e.Launch) ∷ (codes "insert", e.Insert) ∷ (codes "finish", e.Finish)
    ∷ (codes "publish", e.Publish) ∷ (codes "exit", e.Exit) ∷ (codes "complete", e.Complete)
    ∷ (codes "read", e.Read) ∷ []

-- a word as the number of one of the script's clients
abbrev pub client_number : ℕ → List ℕ → Option ℕ
client_number clients w = option_and_then (λ n. if nat_le 1 n && nat_le n clients then Some n else None) (number_of w)

-- the one word that is left, as the number of a client
abbrev pub client_alone : ℕ → List (List ℕ) → Option ℕ
client_alone clients [] = None
client_alone clients (w ∷ []) = client_number clients w
client_alone clients (w ∷ v ∷ ws) = None

-- a first word that is no event's is the fault, before the other words are looked at
abbrev pub event_with : Option EventWord → Option ℕ → Read Event
event_with None client = Err Word
event_with (Some x) None = Err Form
event_with (Some x) (Some client) = Ok (x.1 client)

abbrev pub event_of_words : ℕ → List EventWord → List (List ℕ) → Read Event
event_of_words clients words [] = Err Word
event_of_words clients words (w ∷ ws) = event_with (find (λ x. bytes_eq w x.0) words) (client_alone clients ws)

-- a line of a schedule, for a script of this number of clients
abbrev pub event_of : ℕ → List EventWord → List ℕ → Read Event
event_of clients words line = if are_plain line then event_of_words clients words (words_of line) else Err Byte

-- What was read so far: the script, and the events once the line `schedule` was read.
pub record Draft : Type 0 where
  pub script : Script
  pub events : Option (List Event)

-- the line begins the schedule, by its first word
abbrev pub begins_schedule : List ℕ → Bool
begins_schedule line = are_plain line && is_first (codes "schedule") (words_of line)

abbrev pub after_schedule_line : Script → List (List ℕ) → Read Draft
after_schedule_line script ws = if length ws == 1 then Ok (record { script = script; events = Some [] }) else Err Form

abbrev pub in_script : Script → Draft
in_script script = record { script = script; events = None }

abbrev pub with_event : Script → List Event → Event → Draft
with_event script events event = record { script = script; events = Some (events ++ event ∷ []) }

-- one more line, in the script or in the schedule
abbrev pub line_added : Grammar → List EventWord → Script → Option (List Event) → List ℕ → Read Draft
line_added g words script None line =
    if begins_schedule line then after_schedule_line script (words_of line)
    else line_of g.forms line >>= with_line g.client_limit script >>= λ s. Ok (in_script s)
line_added g words script (Some events) line =
    event_of (length script) words line >>= λ event. Ok (with_event script events event)

abbrev pub after_line : Grammar → List EventWord → Result Draft Fault → ℕ × List ℕ → Result Draft Fault
after_line g words (Err fault) l = Err fault
after_line g words (Ok d) l =
    if is_passed_over l.1 then Ok d else at_line l.0 (line_added g words d.script d.events l.1)

abbrev pub lines_read : Grammar → List EventWord → List ℕ → Result Draft Fault
lines_read g words text = fold (after_line g words) (Ok (in_script [])) (enumerate_from 1 (lines_of text))

-- a script, and the events of its schedule
pub record Schedule : Type 0 where
  pub script : Script
  pub events : List Event

-- at the end: a text without a client, or without a schedule, is a fault
abbrev pub with_schedule : Script → Option (List Event) → Result Schedule Fault
with_schedule [] events = Err (record { line = 0; kind = NoClient })
with_schedule (cs ∷ rest) None = Err (record { line = 0; kind = NoSchedule })
with_schedule (cs ∷ rest) (Some events) = Ok (record { script = cs ∷ rest; events = events })

abbrev pub schedule_of_draft : Result Draft Fault → Result Schedule Fault
schedule_of_draft (Err fault) = Err fault
schedule_of_draft (Ok d) = with_schedule d.script d.events

-- What a script and its schedule say, or the first fault. First of all a text that is too long is refused.
abbrev pub schedule_of : Grammar → List EventWord → List ℕ → Result Schedule Fault
schedule_of g words text =
    if nat_lt g.text_limit (length text) then Err (record { line = 0; kind = Long })
    else schedule_of_draft (lines_read g words text)
