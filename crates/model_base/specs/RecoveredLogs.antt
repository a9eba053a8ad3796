-- What is recovered from several logs that were written one after another: the next log is read only where the one
-- before it ended clean, and the runs rise from log to log.
use Rattle.std.specs.Prelude.{◌≡◌, ℕ, ◌+◌, ◌≤◌, List, [], ◌∷◌, ◌++◌, length, take, map, fold, Option}
use Rattle.std.specs.List.{AllByRecursion}
use Rattle.model_base.specs.declared.log.EndReason.{EndReason}
use Rattle.model_base.specs.declared.log.EndReason.TheVariants as ends
use Rattle.model_base.specs.Batch.{IsBatch}
use Rattle.model_base.specs.Map.{Pairs, after_records}
use Rattle.model_base.specs.Log.{SpellsWhole}
use Rattle.model_base.specs.Recovery.{Logged, logged_bytes, last_sequence, AreInOrder, Recovered, RecoveryEnds}

-- the front of the file, up to `kept`, spells these batches, and nothing else; their runs rise above the sequence
-- `last`
pub record KeepsAfter (last : ℕ) (number : Option ℕ) (file : List ℕ) (kept : ℕ) (batches : List Logged) : Type 0 where
  pub within : kept ≤ length file
  pub spelled : SpellsWhole number (take kept file) (map logged_bytes batches)
  pub are_batches : AllByRecursion (λ b. IsBatch (logged_bytes b) b.first b.records) batches
  pub in_order : AreInOrder last batches

-- what is recovered from a file whose runs must rise above the sequence `last`
pub record IsRecoveredAfter (last : ℕ) (number : Option ℕ) (file : List ℕ) (r : Recovered) : Type 0 where
  pub keeps : KeepsAfter last number file r.kept r.batches
  -- no greater offset has such a front
  pub most : (kept : ℕ) (batches : List Logged) → KeepsAfter last number file kept batches → kept ≤ r.kept
  pub ends : RecoveryEnds number file r.kept (last_sequence last r.batches) r.at r.why

-- The batches of all logs, and in which log recovery ends, counted from 1. Then of that log the offset up to which it
-- is kept, and where and why recovery ends.
pub record RecoveredLogs : Type 0 where
  pub batches : List Logged
  pub log : ℕ
  pub kept : ℕ
  pub at : ℕ
  pub why : EndReason

-- recovery ends in the first log
abbrev pub in_first : Recovered → RecoveredLogs
in_first r = record { batches = r.batches; log = 1; kept = r.kept; at = r.at; why = r.why }

-- recovery goes on after this log, and ends in a later one
abbrev pub after_log : Recovered → RecoveredLogs → RecoveredLogs
after_log r s = record s { batches = r.batches ++ s.batches; log = s.log + 1 }

-- This is recovered from these files, where the sequences go on from `last`.
pub data AreRecoveredAfter (number : Option ℕ) : ℕ → List (List ℕ) → RecoveredLogs → Type 0 where
  ends_here : {last : ℕ} {file : List ℕ} {later : List (List ℕ)} (r : Recovered)
      → IsRecoveredAfter last number file r → (r.why ≡ ends.Clean → later ≡ [])
      → AreRecoveredAfter number last (file ∷ later) (in_first r)
  goes_on : {last : ℕ} {file : List ℕ} {later : List (List ℕ)} (r : Recovered) (s : RecoveredLogs)
      → IsRecoveredAfter last number file r → r.why ≡ ends.Clean
      → AreRecoveredAfter number (last_sequence last r.batches) later s
      → AreRecoveredAfter number last (file ∷ later) (after_log r s)

abbrev pub AreRecovered : Option ℕ → List (List ℕ) → RecoveredLogs → Type 0
AreRecovered number files s = AreRecoveredAfter number 0 files s

-- the map of all batches, and the last sequence
abbrev pub map_of_logs : RecoveredLogs → Pairs
map_of_logs s = fold (λ m b. after_records m b.records) [] s.batches

abbrev pub last_of_logs : RecoveredLogs → ℕ
last_of_logs s = last_sequence 0 s.batches
