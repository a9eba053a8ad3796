-- What reads see of a history of whole batches, in whichever column families their keys are.
use Rattle.std.specs.Prelude.{◌≡◌, ℕ, Bool, IsTrue, List, ◌∷◌, ◌++◌, Some, slice_get}
use Rattle.std.specs.List.{AllByRecursion}
use Rattle.model_base.specs.Map.{Pairs, after_records}
use Rattle.model_base.specs.History.{Entry, IsUpTo, map_over}
use Rattle.model_base.specs.Trace.{Settings}
use Rattle.model_base.specs.Calls.{Command, Reply, Call, Outcome}

-- the client with this number (from 0) gives a command somewhere among its calls, and gets this reply
pub record IsAnswered (o : Outcome) (client : ℕ) (command : Command) (reply : Reply) : Type 0 where
  pub calls : List Call
  pub there : slice_get o.transcripts client ≡ Some calls
  pub before : List Call
  pub after : List Call
  pub split : calls ≡ before ++ record { command = command; reply = reply } ∷ after

-- the map of all families, after the batches of the history up to a sequence
pub record IsMapAt (settings : Settings) (o : Outcome) (at : ℕ) (m : Pairs) : Type 0 where
  pub front : List Entry
  pub up_to : IsUpTo settings.start o.history at front
  pub is_after : m ≡ map_over settings.opening front

-- a whole batch keeps what holds of the map; between its records it needn't hold
abbrev pub Keeps : (Pairs → Bool) → Entry → Type 0
Keeps holds e = (m : Pairs) → IsTrue (holds m) → IsTrue (holds (after_records m e.records))

-- it holds before the first batch, and each batch of the history keeps it
pub record IsKept (settings : Settings) (o : Outcome) (holds : Pairs → Bool) : Type 0 where
  pub before : IsTrue (holds settings.opening)
  pub by_each : AllByRecursion (Keeps holds) o.history
