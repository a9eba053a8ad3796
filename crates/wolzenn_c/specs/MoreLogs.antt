-- What recovering one more log gives to C, after the logs of which the handle holds the recovery.
use Rattle.std.specs.Prelude.{◌≡◌, ◌⊎◌, ℕ, true, false, List, length, fold, Option, MatchOption}
use Rattle.model_base.specs.declared.log.EndReason.{EndReason}
use Rattle.model_base.specs.Map.{after_records}
use Rattle.model_base.specs.Recovery.{Recovered, last_sequence}
use Rattle.model_base.specs.RecoveredLogs.{IsRecoveredAfter}
use Rattle.log_recovery.specs.declared.modes.Mode.{Mode}
use Rattle.log_recovery.specs.Modes.{Accepts}
use Rattle.log_recovery.specs.RecoveringMore.{IsDamageAfter}
use Rattle.log_in_memory.specs.declared.recovery_pairs.RecoveryPairs.{RecoveryPairs}
use Rattle.wolzenn_c.specs.declared.codes.TheConstants.{DONE, NO_MEMORY, END, DAMAGE}
use Rattle.wolzenn_c.specs.declared.recovery.WzRecovered.{WzRecovered}
use Rattle.wolzenn_c.specs.Reasons.{end_of}
use Rattle.wolzenn_c.specs.Recoveries.{damage_of}
use Rattle.wolzenn_c.specs.SeveralLogs.{is_whole_log}

-- In numbers: how many batches of the log are kept, up to which place, and how its recovery ends; and how many pairs
-- all logs leave, and the last sequence of all.
abbrev pub summary_with : RecoveryPairs → Recovered → WzRecovered
summary_with held r = record {
  groups = length r.batches;
  pairs = length held.pairs.items;
  last = held.last;
  kept = r.kept;
  end = end_of r.at r.why;
}

-- The batches that are recovered from the file, whose runs rise above the last sequence of the logs before it, are
-- applied to the pairs of these; and the mode accepts the end.
pub record IsOneMore (number : Option ℕ) (mode : Mode) (file : List ℕ) (before after : RecoveryPairs)
    (summary : WzRecovered) : Type 0 where
  pub recovered : Recovered
  pub is : IsRecoveredAfter before.last number file recovered
  pub accepted : Accepts number mode file recovered.at recovered.why
  pub pairs_are : after.pairs.items ≡ fold (λ m b. after_records m b.records) before.pairs.items recovered.batches
  pub last_is : after.last ≡ last_sequence before.last recovered.batches
  pub goes_on : after.goes_on ≡ is_whole_log number recovered
  pub summary_is : summary ≡ summary_with after recovered

-- the mode doesn't accept the end that the summary says
pub record IsRefusedAfter (last : ℕ) (number : Option ℕ) (mode : Mode) (file : List ℕ) (summary : WzRecovered)
    : Type 0 where
  pub at : ℕ
  pub why : EndReason
  pub damage : IsDamageAfter last number mode file at why
  pub summary_is : summary ≡ damage_of at why

-- The answer, with the recovery that the handle holds then. Where recovery ended in an earlier log, which isn't whole,
-- no later one is recovered.
pub record RecoversMore (number : Option ℕ) (mode : Mode) (file : List ℕ) (before : RecoveryPairs) (code : ℕ)
    (after : Option RecoveryPairs) (summary : WzRecovered) : Type 0 where
  pub ended : before.goes_on ≡ false → code ≡ END
  pub codes : before.goes_on ≡ true → (code ≡ DONE) ⊎ (code ≡ NO_MEMORY) ⊎ (code ≡ DAMAGE)
  pub done : code ≡ DONE → MatchOption after ⊥ (λ held. IsOneMore number mode file before held summary)
  pub damage : code ≡ DAMAGE → IsRefusedAfter before.last number mode file summary
