-- The results of reading a script's text from its source.
use Rattle.std.specs.Prelude.{◌≡◌, ℕ, ◌≤◌, List, length, Option, Ok, Err, IfSome}
use Rattle.std.specs.Io.KnownBytes.{Consumes, IsAtEnd}
use Rattle.program_call.specs.declared.reading.ReadError.{ReadError}
use Rattle.program_call.specs.declared.reading.ReadError.TheVariants.{Fault, Script, NoMemory}
use Rattle.model_base.specs.declared.limits.TheConstants.{MAX_CLIENTS, TEXT_LIMIT}
use Rattle.model_base.specs.Script as model
use Rattle.run_scripts.specs.declared.script.Script as script
use Rattle.run_scripts.specs.declared.schedule.Schedule.{Schedule}
use Rattle.run_scripts.specs.Schedules.{schedule_of}
use Rattle.model_core.specs.Schedule as schedules
use Rattle.run_scripts.specs.Scripts.{commands_of, FitsBatches, HasClientsCommands}
use Rattle.run_outcome.specs.Running.{IsReached}
use Rattle.run_scripts.specs.ReplayLanguage.{replay_grammar, event_words}

-- the text was read to its end, or to one byte past the limit of 16,777,216
pub record HasRead (old new : Option (List ℕ)) (text : List ℕ) : Type 0 where
  pub consumed : Consumes old new text
  pub whole : length text ≤ TEXT_LIMIT → IsAtEnd new
  pub at_most : length text ≤ 16777217

-- a fault of the source, or no memory
abbrev pub IsReadError : ℕ → ℕ → ReadError → Type 0
IsReadError before now (Fault count) = IsReached before count now
IsReadError before now (Script line kind) = ⊥
IsReadError before now NoMemory = Unit {0}

-- but for a fault the source's count of faults is as before
abbrev pub CountStays : ℕ → ℕ → ReadError → Type 0
CountStays before now (Fault count) = Unit {0}
CountStays before now (Script line kind) = now ≡ before
CountStays before now NoMemory = now ≡ before

-- the source had just this script, of one to sixty-four clients
pub record HasScript (old new : Option (List ℕ)) (s : script.Script) : Type 0 where
  pub said : IfSome old (λ text. model.script_of model.whole_grammar text ≡ Ok (commands_of s))
  pub ended : IsAtEnd new
  pub clients : (1 ≤ length s.clients.items) × (length s.clients.items ≤ MAX_CLIENTS)
  pub fits : FitsBatches s

-- no script was read: a fault of the source, a text that isn't a script, or no memory
abbrev pub IsScriptError : Option (List ℕ) → ℕ → ℕ → ReadError → Type 0
IsScriptError old before now (Fault count) = IsReached before count now
IsScriptError old before now (Script line kind) =
    IfSome old (λ text. model.script_of model.whole_grammar text ≡ Err (record { line = line; kind = kind }))
IsScriptError old before now NoMemory = Unit {0}

-- the source had just this script with its schedule
pub record HasSchedule (old new : Option (List ℕ)) (s : Schedule) : Type 0 where
  pub said : IfSome old (λ text. schedules.schedule_of replay_grammar event_words text
      ≡ Ok (schedule_of s))
  pub ended : IsAtEnd new
  pub clients : (1 ≤ length s.script.clients.items) × (length s.script.clients.items ≤ MAX_CLIENTS)
  pub fits : FitsBatches s.script
  pub commands : HasClientsCommands s.script

abbrev pub IsScheduleError : Option (List ℕ) → ℕ → ℕ → ReadError → Type 0
IsScheduleError old before now (Fault count) = IsReached before count now
IsScheduleError old before now (Script line kind) =
    IfSome old (λ text. schedules.schedule_of replay_grammar event_words text
    ≡ Err (record { line = line; kind = kind }))
IsScheduleError old before now NoMemory = Unit {0}
