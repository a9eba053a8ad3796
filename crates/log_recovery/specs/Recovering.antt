-- What recovery of a log answers.
use Rattle.std.specs.Prelude.{◌≡◌, ◌≢◌, ℕ, ◌≤◌, List, [], map, Option, ⊤}
use Rattle.base_devices.specs.Faults.{Rose}
use Rattle.model_base.specs.History.{max_sequence}
use Rattle.model_base.specs.Map.{Pairs}
use Rattle.model_base.specs.Recovery as recovery
use Rattle.model_base.specs.RecoveredLogs.{IsRecoveredAfter}
use Rattle.log_recovery.specs.declared.modes.Mode.{Mode}
use Rattle.log_recovery.specs.declared.modes.Mode.TheVariants.{Point}
use Rattle.log_recovery.specs.declared.recovery.Recovered.{Recovered}
use Rattle.log_recovery.specs.declared.recovery.RecoverError.{RecoverError}
use Rattle.log_recovery.specs.declared.recovery.RecoverError.TheVariants.{Fault, NoMemory, Damage}
use Rattle.log_recovery.specs.declared.kept.Kept.{Kept}
use Rattle.log_recovery.specs.declared.recovery.End.{End}
use Rattle.log_recovery.specs.Keeping.{note_of, ShowsAfter}

-- what a caller sees of what is recovered: a note of each group, the map, the last sequence, up to which offset
-- records are kept, and where and why recovery ends
pub record ShowsRecovered (shown : Recovered) (r : recovery.Recovered) : Type 0 where
  pub groups : shown.groups.items ≡ map note_of r.batches
  pub map_is : shown.map ≡ recovery.recovered_map r
  pub last : shown.last ≡ recovery.recovered_last r
  pub kept : shown.kept ≡ r.kept
  pub at : shown.end.at ≡ r.at
  pub why : shown.end.why ≡ r.why

-- this is what is recovered from the file, a log with this number, if it has one
pub record HasRecovered (number : Option ℕ) (file : List ℕ) (shown : Recovered) : Type 0 where
  pub recovered : recovery.Recovered
  pub is : recovery.IsRecovered number file recovered
  pub shows : ShowsRecovered shown recovered

-- What is kept of a file, a log with this number, if it has one, after what was kept before; and recovery of the file
-- ends like this.
pub record HasKept (number : Option ℕ) (file : List ℕ) (before kept : Kept) (end : End) : Type 0 where
  pub recovered : recovery.Recovered
  pub is : IsRecoveredAfter before.last number file recovered
  pub shows : ShowsAfter before kept recovered.batches
  pub kept_is : kept.end ≡ recovered.kept
  pub at : end.at ≡ recovered.at
  pub why : end.why ≡ recovered.why

-- what recovery of a file had kept, with this end, is now all that it keeps, with that end
abbrev pub StillHasKept : Option ℕ → List ℕ → Kept → End → Kept → End → Type 0
StillHasKept number file old end new now =
    (before : Kept) → HasKept number file before old end → HasKept number file before new now

-- The last sequence is no greater than the greatest one. Where it is 0 there are no keys, since each record but log
-- data takes a sequence. This holds whether the disk tells its content or not.
pub record IsNumbered (map : Pairs) (last : ℕ) : Type 0 where
  pub within : last ≤ max_sequence
  pub none : last ≡ 0 → map ≡ []

-- why a log was not recovered: the disk's count of faults rose in the call, and this is what it is; or there was no
-- memory, and no fault; or the end is damage, there was no fault, and the mode isn't the one that accepts any end
-- (`TellsDamage` says more)
abbrev pub IsRecoverError : Mode → ℕ → ℕ → RecoverError → Type 0
IsRecoverError mode before now (Fault count) = Rose before count × (count ≡ now)
IsRecoverError mode before now NoMemory = now ≡ before
IsRecoverError mode before now (Damage log at why) = (now ≡ before) × (mode ≢ Point)

-- damage, if that is the error, is told of the first log, or of the only one
abbrev pub IsOfFirstLog : RecoverError → Type 0
IsOfFirstLog (Fault count) = ⊤
IsOfFirstLog NoMemory = ⊤
IsOfFirstLog (Damage log at why) = log ≡ 1
