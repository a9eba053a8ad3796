-- One log as the only one of several.
use Rattle.std.proofs.Common.{◌≡◌, ℕ, ◌≤◌, List, [], ◌∷◌, length, take, Option, refl}
use Rattle.model_base.specs.Log.{plain_log}
use Rattle.model_base.specs.Recovery.{Recovered, IsRecovered}
use Rattle.log_laws.specs.Prefixes.{RecoversPrefix, BeginsWith}
use Rattle.log_laws.specs.Fronts.{plain_text, AreFront, within, whole, RecoverPrefix}
use Rattle.model_base.specs.RecoveredLogs.{IsRecoveredAfter, RecoveredLogs, AreRecovered, AreRecoveredAfter, ends_here, goes_on, in_first}

first_is : (number : Option ℕ) (file : List ℕ) (r : Recovered) → IsRecoveredAfter 0 number file r → IsRecovered number file r
first_is number file r is = record {
  keeps = record { within = is.keeps.within; spelled = is.keeps.spelled; are_batches = is.keeps.are_batches; in_order = is.keeps.in_order };
  most = λ kept bs k. is.most kept bs (record { within = k.within; spelled = k.spelled; are_batches = k.are_batches; in_order = k.in_order });
  ends = is.ends;
}

is_first : (number : Option ℕ) (file : List ℕ) (r : Recovered) → IsRecovered number file r → IsRecoveredAfter 0 number file r
is_first number file r is = record {
  keeps = record { within = is.keeps.within; spelled = is.keeps.spelled; are_batches = is.keeps.are_batches; in_order = is.keeps.in_order };
  most = λ kept bs k. is.most kept bs (record { within = k.within; spelled = k.spelled; are_batches = k.are_batches; in_order = k.in_order });
  ends = is.ends;
}

none_after : (number : Option ℕ) (last : ℕ) (s : RecoveredLogs) → AreRecoveredAfter number last [] s → ⊥
none_after number last s are = elim are [ ]

pub one_recovered : (file : List ℕ) (s : RecoveredLogs) → AreRecovered plain_log (file ∷ []) s → (r : Recovered) × IsRecovered plain_log file r × (s ≡ in_first r)
one_recovered file s (ends_here r is stop) = (r, first_is plain_log file r is, refl)
one_recovered file s (goes_on r more is clean on) = absurd (none_after plain_log _ more on)

pub one_back : (file : List ℕ) (r : Recovered) → IsRecovered plain_log file r → AreRecovered plain_log (file ∷ []) (in_first r)
one_back file r is = ends_here r (is_first plain_log file r is) (λ clean. refl)

pub one_prefix : (P : ℕ → Type 0) (records : List (List ℕ)) (file : List ℕ) → RecoverPrefix records (file ∷ []) P → RecoversPrefix plain_log records file P
one_prefix P records file prefix r is = prefix (in_first r) (one_back file r is)

no_front : (safe : ℕ) → AreFront safe [] [] → ⊥
no_front safe front = elim front [ ]

pub one_front : (safe : ℕ) (records : List (List ℕ)) (image : List ℕ) → AreFront safe (records ∷ []) (image ∷ []) → (safe ≤ length records) × BeginsWith (plain_text (take safe records)) image
one_front safe records image (within some begins none) = (some, begins)
one_front safe records image (whole same front) = absurd (no_front _ front)
