-- Where recovery ends, no more may be kept.
use Rattle.std.proofs.Common.{Option, ℕ, ◌≤◌, List, nat_lt, subst}
use Rattle.std.proofs.lemmas.Bool.{ltb-true, ltb-false}
use Rattle.model_base.specs.declared.log.EndReason.{EndReason}
use Rattle.model_base.specs.Log.{Fragment, AreOneRecord, kinds_of, record_of, next_place}
use Rattle.model_base.specs.Reading.{HasFragments, ReadingEnds}
use Rattle.model_base.specs.Recovery.{Logged, last_sequence, RecordEnds, reading, record_read}
use Rattle.model_base.specs.RecoveredLogs.{KeepsAfter, IsRecoveredAfter}
use Rattle.log_recovery.specs.Keeping.{MayBeKept}
use Rattle.log_laws.proofs.Next.{cases_bool}
use Rattle.log_recovery.proofs.Standing.{one_record}
use Rattle.log_recovery.proofs.NotRead.{none_stands}
use Rattle.log_recovery.proofs.MoreKept.{KeptNext, more_kept}

-- where no record that may be kept comes next, no more is kept
most : (last : ℕ) (number : Option ℕ) (file : List ℕ) (kept : ℕ) (bs : List Logged) → KeepsAfter last number file kept bs → (KeptNext number file kept (last_sequence last bs) → ⊥)
    → (kept' : ℕ) (cs : List Logged) → KeepsAfter last number file kept' cs → kept' ≤ kept
most last number file kept bs keeps none kept' cs more =
    cases_bool (nat_lt kept kept')
    (λ less. absurd (none (more_kept last number file kept kept' bs cs keeps more (ltb-true kept kept' less))))
    (λ not_less. ltb-false kept kept' not_less)

-- Where no record is read, no more is kept.
pub recovered_unread : (last : ℕ) (number : Option ℕ) (file : List ℕ) (kept at : ℕ) (why : EndReason) (bs : List Logged) → KeepsAfter last number file kept bs → ReadingEnds number file kept at why
    → IsRecoveredAfter last number file (record { batches = bs; kept = kept; at = at; why = why })
recovered_unread last number file kept at why bs keeps ends = record {
  keeps = keeps;
  most = most last number file kept bs keeps (λ next. none_stands number file kept at why next.fs ends next.one next.stands);
  ends = reading ends;
}

-- Where a record is read that isn't kept, no more is kept.
pub recovered_unkept : (last : ℕ) (number : Option ℕ) (file : List ℕ) (kept : ℕ) (why : EndReason) (bs : List Logged) (fs : List Fragment) → KeepsAfter last number file kept bs → AreOneRecord (kinds_of fs) → HasFragments number file kept fs
    → RecordEnds (last_sequence last bs) (record_of fs) why → (MayBeKept (last_sequence last bs) (record_of fs) → ⊥)
    → IsRecoveredAfter last number file (record { batches = bs; kept = kept; at = next_place number kept; why = why })
recovered_unkept last number file kept why bs fs keeps one stands ends not_kept = record {
  keeps = keeps;
  most = most last number file kept bs keeps (λ next.
      let same = one_record number file kept next.fs fs next.one one next.stands stands in
      not_kept (subst (λ l. MayBeKept (last_sequence last bs) (record_of l)) same next.may));
  ends = record_read fs one stands ends;
}
