-- A new log that records are added to.
use Rattle.std.specs.Prelude.{◌≡◌, ℕ, ◌+◌, ◌^◌, ◌<◌, ◌≤◌, List, length, take, Option}
use Rattle.std.specs.Io.KnownBytes.{Appends}
use Rattle.base_devices.specs.Faults.{Rose}
use Rattle.model_base.specs.Log.{record_text}
use Rattle.log_salvage.specs.declared.new_log.AddError.{AddError}
use Rattle.log_salvage.specs.declared.new_log.AddError.TheVariants as failed

-- the log's number, if it has one, and how many bytes it has
pub record NewLogState : Type 0 where
  pub number : Option ℕ
  pub len : ℕ

-- the bytes that a record takes at the end of the log
abbrev pub text_of : NewLogState → List ℕ → List ℕ
text_of log bytes = record_text log.number log.len bytes

abbrev pub longer : NewLogState → List ℕ → NewLogState
longer log text = record { number = log.number; len = log.len + length text }

-- a record was added: the sink took its bytes
pub record Adds (bytes : List ℕ) (old new : NewLogState) (before after : Option (List ℕ)) : Type 0 where
  pub taken : Appends before after (text_of old bytes)
  pub log_is : new ≡ longer old (text_of old bytes)

-- Why it wasn't. A sink that failed took a part of the bytes, not all; with another answer it took nothing, and the log
-- is as it was.
abbrev pub IsAddError : List ℕ → NewLogState → NewLogState → Option (List ℕ) → Option (List ℕ) → AddError → Type 0
IsAddError bytes old new before after failed.SinkFailed =
    (n : ℕ) × (n < length (text_of old bytes)) × Appends before after (take n (text_of old bytes))
IsAddError bytes old new before after failed.TooLong =
    (2 ^ 63 ≤ old.len + length (text_of old bytes)) × (new ≡ old) × (after ≡ before)
IsAddError bytes old new before after failed.NoMemory = (new ≡ old) × (after ≡ before)

-- the sink's count of faults rose exactly where it failed
abbrev pub HasAddCause : ℕ → ℕ → AddError → Type 0
HasAddCause before now failed.SinkFailed = Rose before now
HasAddCause before now failed.TooLong = now ≡ before
HasAddCause before now failed.NoMemory = now ≡ before
