-- What recovery of several logs answers.
use Rattle.std.specs.Prelude.{◌≡◌, ◌≢◌, ℕ, ◌+◌, List, [], ◌∷◌, ◌++◌, length, map, fold, Some, ⊤}
use Rattle.std.specs.List.{AllByRecursion, AllZip}
use Rattle.base_devices.specs.Faults.{Rose, count_in_all}
use Rattle.model_base.specs.declared.log.EndReason.{EndReason}
use Rattle.model_base.specs.declared.log.EndReason.TheVariants.{Clean}
use Rattle.log_recovery.specs.declared.modes.Mode.{Mode}
use Rattle.log_recovery.specs.declared.modes.Mode.TheVariants.{Point}
use Rattle.log_recovery.specs.declared.recovery.RecoverError.{RecoverError}
use Rattle.log_recovery.specs.declared.recovery.RecoverError.TheVariants.{Fault, NoMemory, Damage}
use Rattle.log_recovery.specs.Modes.{Accepts}
use Rattle.base_devices.specs.Disk.{Disk}
use Rattle.base_devices.specs.declared.disk.Disk.{Ghosts}
use Rattle.model_base.specs.Log.{plain_log}
use Rattle.model_base.specs.Map.{after_records}
use Rattle.model_base.specs.Recovery.{Recovered, last_sequence}
use Rattle.model_base.specs.RecoveredLogs.{IsRecoveredAfter, RecoveredLogs, AreRecovered, AreRecoveredAfter, map_of_logs, last_of_logs}
use Rattle.log_recovery.specs.declared.kept.Kept.{Kept}
use Rattle.log_recovery.specs.declared.many.RecoveredMany.{RecoveredMany}
use Rattle.log_recovery.specs.Keeping.{note_of}

-- the disk tells what it is, and has this content
abbrev pub Holds : {D : Type 0} → Ghosts D → D → List ℕ → Type 0
Holds ghosts disk file = (d : Disk) × (ghosts.told disk ≡ Some d) × (d.content ≡ file)

-- This is recovered from these files, of which the first is the log with the number `log`, after what was kept before.
pub record AreRecoveredFrom (files : List (List ℕ)) (log : ℕ) (before : Kept) (shown : RecoveredMany) : Type 0 where
  pub recovered : RecoveredLogs
  pub is : AreRecoveredAfter plain_log before.last files recovered
  pub groups : shown.groups.items ≡ before.groups.items ++ map note_of recovered.batches
  pub map_is : shown.map ≡ fold (λ m b. after_records m b.records) before.map recovered.batches
  pub last : shown.last ≡ last_sequence before.last recovered.batches
  pub log_is : shown.log + 1 ≡ log + recovered.log
  pub kept : shown.kept ≡ recovered.kept
  pub at : shown.end.at ≡ recovered.at
  pub why : shown.end.why ≡ recovered.why

-- what a caller sees of what is recovered from several logs
pub record ShowsLogs (shown : RecoveredMany) (r : RecoveredLogs) : Type 0 where
  pub groups : shown.groups.items ≡ map note_of r.batches
  pub map_is : shown.map ≡ map_of_logs r
  pub last : shown.last ≡ last_of_logs r
  pub log : shown.log ≡ r.log
  pub kept : shown.kept ≡ r.kept
  pub at : shown.end.at ≡ r.at
  pub why : shown.end.why ≡ r.why

-- This is recovered from these files, one after another.
pub record HaveRecovered (files : List (List ℕ)) (shown : RecoveredMany) : Type 0 where
  pub recovered : RecoveredLogs
  pub is : AreRecovered plain_log files recovered
  pub shows : ShowsLogs shown recovered

-- Of these files, the first of which is the log with the number `first`, the one with the number `log` has an end at
-- this place, for this reason, that the mode accepts.
pub record AcceptFrom (first : ℕ) (mode : Mode) (files : List (List ℕ)) (log at : ℕ) (why : EndReason) : Type 0 where
  pub before : List (List ℕ)
  pub file : List ℕ
  pub after : List (List ℕ)
  pub cut : files ≡ before ++ file ∷ after
  pub log_is : log ≡ first + length before
  pub accepts : Accepts plain_log mode file at why

-- Recovery of these files, after what was kept before, ends in this log at this place, for this reason, and the mode
-- doesn't accept that.
pub record AreDamagedFrom (first : ℕ) (before : Kept) (mode : Mode) (files : List (List ℕ)) (log at : ℕ)
    (why : EndReason) : Type 0 where
  pub recovered : RecoveredLogs
  pub is : AreRecoveredAfter plain_log before.last files recovered
  pub log_is : log + 1 ≡ first + recovered.log
  pub at_is : recovered.at ≡ at
  pub why_is : recovered.why ≡ why
  pub refused : AcceptFrom first mode files log at why → ⊥

-- what an error says of the files
abbrev pub TellDamageFrom : ℕ → Kept → Mode → List (List ℕ) → RecoverError → Type 0
TellDamageFrom first before mode files (Damage log at why) = AreDamagedFrom first before mode files log at why
TellDamageFrom first before mode files (Fault count) = ⊤
TellDamageFrom first before mode files NoMemory = ⊤

-- the same, from the first log on and from nothing
pub record AreDamaged (mode : Mode) (files : List (List ℕ)) (log at : ℕ) (why : EndReason) : Type 0 where
  pub recovered : RecoveredLogs
  pub is : AreRecovered plain_log files recovered
  pub log_is : recovered.log ≡ log
  pub at_is : recovered.at ≡ at
  pub why_is : recovered.why ≡ why
  pub refused : AcceptFrom 1 mode files log at why → ⊥

abbrev pub TellDamage : Mode → List (List ℕ) → RecoverError → Type 0
TellDamage mode files (Damage log at why) = AreDamaged mode files log at why
TellDamage mode files (Fault count) = ⊤
TellDamage mode files NoMemory = ⊤

-- These disks, which hold these files, were read one after another: each only where recovery of the one before it ended
-- clean, with runs that rise from log to log, the first of them above the sequence `last`. The disks that weren't read
-- are as they were.
pub data AreReadInTurn {D : Type 0} : ℕ → List (List ℕ) → List D → List D → Type 0 where
  stops : {last : ℕ} {files : List (List ℕ)} {old new : D} {disks : List D}
      → AreReadInTurn last files (old ∷ disks) (new ∷ disks)
  reads_on : {last : ℕ} {file : List ℕ} {files : List (List ℕ)} {old new : D} {olds news : List D} (r : Recovered)
      → IsRecoveredAfter last plain_log file r → r.why ≡ Clean
      → AreReadInTurn (last_sequence last r.batches) files olds news
      → AreReadInTurn last (file ∷ files) (old ∷ olds) (new ∷ news)

-- none of these files has bytes
abbrev pub AreEmpty : List (List ℕ) → Type 0
AreEmpty files = AllByRecursion (λ file. file ≡ []) files

-- Some of these disks, which hold these files, were asked for their lengths in order: each only where the one before it
-- has no bytes. The others are as they were.
pub data AreAsked {D : Type 0} : List (List ℕ) → List D → List D → Type 0 where
  none : {files : List (List ℕ)} {disks : List D} → AreAsked files disks disks
  asks : {files : List (List ℕ)} {old new : D} {disks : List D} → AreAsked files (old ∷ disks) (new ∷ disks)
  asks_on : {files : List (List ℕ)} {old new : D} {olds news : List D}
      → AreAsked files olds news → AreAsked ([] ∷ files) (old ∷ olds) (new ∷ news)

-- the disks have counted no fault
abbrev pub CountNone : {D : Type 0} → (D → ℕ) → List D → List D → Type 0
CountNone faults olds news = AllZip (λ old new. faults new ≡ faults old) olds news

-- Why several logs were not recovered: a disk failed, so that the count of all disks rose, and that count is told; or
-- there was no memory, and no disk failed; or the end is damage, no disk failed, and the mode isn't the one that
-- accepts any end (`TellDamage` says more).
abbrev pub IsErrorOfLogs : {D : Type 0} → Mode → (D → ℕ) → List D → List D → RecoverError → Type 0
IsErrorOfLogs mode faults olds news (Fault count) =
    Rose (count_in_all faults olds) count × (count ≡ count_in_all faults news)
IsErrorOfLogs mode faults olds news NoMemory = CountNone faults olds news
IsErrorOfLogs mode faults olds news (Damage log at why) = CountNone faults olds news × (mode ≢ Point)

-- the same, where a fault has the count of one disk
abbrev pub IsErrorFrom : {D : Type 0} → Mode → (D → ℕ) → List D → List D → RecoverError → Type 0
IsErrorFrom mode faults olds news (Fault count) = Rose (count_in_all faults olds) (count_in_all faults news)
IsErrorFrom mode faults olds news NoMemory = CountNone faults olds news
IsErrorFrom mode faults olds news (Damage log at why) = CountNone faults olds news × (mode ≢ Point)

-- the error, where a fault has this count
abbrev pub with_count : ℕ → RecoverError → RecoverError
with_count all (Fault count) = Fault all
with_count all NoMemory = NoMemory
with_count all (Damage log at why) = Damage log at why
