use Rattle.std.proofs.Common.{[], ◌∷◌, Some, None, refl, arith}
use Rattle.model_base.specs.Log.{plain_log}
use Rattle.model_base.specs.declared.log.Damage.TheVariants.{ShortHeader}
use Rattle.model_base.specs.declared.log.EndReason.TheVariants as ends
use Rattle.model_base.specs.Reading.{seen_within, ReadingEnds, clean, broken}
use Rattle.log_recovery_laws.specs.Reads.{AreBytes, nothing_until}
use Rattle.log_recovery_laws.proofs.Kept.{keeps_none}
use Rattle.log_recovery_laws.proofs.Recovering.{unread}
use Rattle.log_recovery_laws.proofs.OneRecovery.{recovers_one}
use Rattle.log_recovery_laws.proofs.short_files.Goals as goal

one_zero : AreBytes (0 ∷ [])
one_zero = (omega arith, tt)

ends_clean : ReadingEnds plain_log [] 0 0 ends.Clean
unfolding seen_within
ends_clean = clean {at = 0} (record { begun = tt; stand = record { rest = []; there = refl; fit = tt }; is_next = refl })

no_header : ReadingEnds plain_log (0 ∷ []) 0 0 (ends.Broken ShortHeader)
unfolding seen_within
no_header = broken {at = 0} {d = ShortHeader} [] (record { begun = tt; stand = record { rest = 0 ∷ []; there = refl; fit = tt }; is_next = refl })

no_numbered_header : ReadingEnds (Some 7) (0 ∷ []) 0 0 (ends.Broken ShortHeader)
unfolding seen_within
no_numbered_header = broken {at = 0} {d = ShortHeader} [] (record { begun = tt; stand = record { rest = 0 ∷ []; there = refl; fit = tt }; is_next = refl })

pub returns : goal.returns
returns c = record {
  empty = λ r is. recovers_one plain_log [] r (nothing_until 0 ends.Clean) is (unread None [] 0 [] tt (keeps_none plain_log []) 0 ends.Clean ends_clean);
  one_byte = λ r is. recovers_one plain_log (0 ∷ []) r (nothing_until 0 (ends.Broken ShortHeader)) is (unread None (0 ∷ []) 0 [] one_zero (keeps_none plain_log (0 ∷ [])) 0 (ends.Broken ShortHeader) no_header);
  with_a_number = λ r is. recovers_one (Some 7) (0 ∷ []) r (nothing_until 0 (ends.Broken ShortHeader)) is (unread (Some 7) (0 ∷ []) 0 [] one_zero (keeps_none (Some 7) (0 ∷ [])) 0 (ends.Broken ShortHeader) no_numbered_header);
}
