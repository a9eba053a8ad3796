-- What is recovered from several logs that were written one after another, each with a number of its own, or without
-- one.
use Rattle.std.specs.Prelude.{◌≡◌, ℕ, ◌-◌, ◌&&◌, Bool, true, false, nat_lt, List, [], ◌∷◌, Option, Some, MatchOption}
use Rattle.model_base.specs.declared.log.Damage.{Damage}
use Rattle.model_base.specs.declared.log.Damage.TheVariants.{OldLog}
use Rattle.model_base.specs.declared.log.EndReason.{EndReason}
use Rattle.model_base.specs.declared.log.EndReason.TheVariants as ends
use Rattle.model_base.specs.Log.{header_len}
use Rattle.model_base.specs.Recovery.{Recovered, last_sequence}
use Rattle.model_base.specs.RecoveredLogs.{IsRecoveredAfter, RecoveredLogs, in_first, after_log, map_of_logs, last_of_logs}
use Rattle.log_in_memory.specs.declared.recovery_pairs.RecoveryPairs.{RecoveryPairs}

-- a log with its number, if it has one
abbrev pub Numbered : Type 0
Numbered = Option ℕ × List ℕ

-- Logs get rising numbers, so an older one's is lower. A higher one says that the log was read with a wrong number.
abbrev pub is_older_than : ℕ → Damage → Bool
is_older_than own (OldLog number) = nat_lt number own
is_older_than own _ = false

-- Whether a log is whole that is kept up to `kept`, and whose recovery ends at a place for a reason: its file ends
-- there. Or the log has a number, and the next fragment is one that an older log left in the file. It begins less than
-- a header after `kept`: if it were inside of a record, more of this log would be between.
abbrev pub is_whole : Option ℕ → ℕ → ℕ → EndReason → Bool
is_whole number kept at ends.Clean = true
is_whole (Some own) kept at (ends.Broken d) = is_older_than own d && nat_lt (at - kept) (header_len (Some own))
is_whole number kept at _ = false

abbrev pub is_whole_log : Option ℕ → Recovered → Bool
is_whole_log number r = is_whole number r.kept r.at r.why

-- This is recovered from these logs, where the sequences go on from `last`: a log is read only where the one before it
-- is whole. At the end is said whether the last log that was read is whole. Without numbers this is `AreRecoveredAfter`
-- (`logs_without_numbers`).
pub data AreRecoveredInTurn : ℕ → List Numbered → RecoveredLogs → Bool → Type 0 where
  ends_here : {last : ℕ} {number : Option ℕ} {file : List ℕ} {later : List Numbered} (r : Recovered)
      → IsRecoveredAfter last number file r → (is_whole_log number r ≡ true → later ≡ [])
      → AreRecoveredInTurn last ((number, file) ∷ later) (in_first r) (is_whole_log number r)
  goes_on : {last : ℕ} {number : Option ℕ} {file : List ℕ} {later : List Numbered} {whole : Bool} (r : Recovered)
      (s : RecoveredLogs) → IsRecoveredAfter last number file r → is_whole_log number r ≡ true
      → AreRecoveredInTurn (last_sequence last r.batches) later s whole
      → AreRecoveredInTurn last ((number, file) ∷ later) (after_log r s) whole

-- the recovery is that of these logs
pub record IsOfLogs (logs : List Numbered) (held : RecoveryPairs) : Type 0 where
  pub recovered : RecoveredLogs
  pub are : AreRecoveredInTurn 0 logs recovered held.goes_on
  pub pairs_are : held.pairs.items ≡ map_of_logs recovered
  pub last_is : held.last ≡ last_of_logs recovered

abbrev pub HoldsLogs : List Numbered → Option RecoveryPairs → Type 0
HoldsLogs logs held = MatchOption held ⊥ (IsOfLogs logs)
