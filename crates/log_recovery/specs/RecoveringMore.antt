-- What recovery of one more log answers, after what was recovered of the logs before it.
use Rattle.std.specs.Prelude.{◌≡◌, ℕ, List, map, fold, Option, ⊤}
use Rattle.model_base.specs.declared.log.EndReason.{EndReason}
use Rattle.model_base.specs.Map.{Pairs, after_records}
use Rattle.model_base.specs.Recovery as recovery
use Rattle.model_base.specs.RecoveredLogs.{IsRecoveredAfter}
use Rattle.log_recovery.specs.declared.modes.Mode.{Mode}
use Rattle.log_recovery.specs.declared.recovery.Recovered.{Recovered}
use Rattle.log_recovery.specs.declared.recovery.RecoverError.{RecoverError}
use Rattle.log_recovery.specs.declared.recovery.RecoverError.TheVariants.{Fault, NoMemory, Damage}
use Rattle.log_recovery.specs.Keeping.{note_of}
use Rattle.log_recovery.specs.Modes.{Accepts}

-- This is recovered from the file, a log with this number, if it has one, after logs that left these pairs and this last
-- sequence.
pub record HasRecoveredMore (number : Option ℕ) (file : List ℕ) (pairs : Pairs) (last : ℕ) (shown : Recovered)
    : Type 0 where
  pub recovered : recovery.Recovered
  pub is : IsRecoveredAfter last number file recovered
  pub groups : shown.groups.items ≡ map note_of recovered.batches
  pub map_is : shown.map ≡ fold (λ m b. after_records m b.records) pairs recovered.batches
  pub last_is : shown.last ≡ recovery.last_sequence last recovered.batches
  pub kept : shown.kept ≡ recovered.kept
  pub at : shown.end.at ≡ recovered.at
  pub why : shown.end.why ≡ recovered.why

-- recovery of the file, after logs with this last sequence, ends at this place, for this reason, and the mode doesn't
-- accept that
pub record IsDamageAfter (last : ℕ) (number : Option ℕ) (mode : Mode) (file : List ℕ) (at : ℕ) (why : EndReason)
    : Type 0 where
  pub recovered : recovery.Recovered
  pub is : IsRecoveredAfter last number file recovered
  pub at_is : recovered.at ≡ at
  pub why_is : recovered.why ≡ why
  pub refused : Accepts number mode file at why → ⊥

-- what an error says of the file
abbrev pub TellsDamageAfter : ℕ → Option ℕ → Mode → List ℕ → RecoverError → Type 0
TellsDamageAfter last number mode file (Damage log at why) = IsDamageAfter last number mode file at why
TellsDamageAfter last number mode file (Fault count) = ⊤
TellsDamageAfter last number mode file NoMemory = ⊤
