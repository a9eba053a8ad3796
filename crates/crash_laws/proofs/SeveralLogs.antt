-- Recovery of one log after another has a result, if there is a log at all, and only one.
use Rattle.std.proofs.Common.{◌≡◌, ◌≢◌, ◌⊎◌, inl, inr, ⊎_elim, ℕ, List, [], ◌∷◌, length, map, Option, refl, sym, ◌∙◌, ap, subst, arith, length-take}
use Rattle.std.specs.Prelude.{⊤}
use Rattle.std.specs.List.{AllByRecursion}
use Rattle.model_base.specs.declared.log.EndReason.{EndReason}
use Rattle.model_base.specs.declared.log.EndReason.TheVariants as ends
use Rattle.model_base.specs.Log.{plain_log}
use Rattle.model_base.specs.Recovery.{Logged, logged_bytes, last_sequence, Recovered}
use Rattle.model_base.specs.RecoveredLogs.{IsRecoveredAfter, RecoveredLogs, in_first, after_log, AreRecoveredAfter, ends_here, goes_on, AreRecovered}
use Rattle.log_laws.specs.Prefixes.{IsPrefix}
use Rattle.log_laws.specs.Fronts.{AreFront, within, whole, NoChances, records_in}
use Rattle.log_laws.proofs.Placed.{length_map}
use Rattle.log_recovery_laws.specs.Reads.{AreBytes}
use Rattle.log_recovery_laws.proofs.Fronts.{front_is}
use Rattle.crash_laws.proofs.LaterLog.{later_some, later_one}

pub no_logs : (number : Option ℕ) (last : ℕ) (s : RecoveredLogs) → AreRecoveredAfter number last [] s → ⊥
no_logs number last s are = elim are [ ]

clean_or_not : (why : EndReason) → (why ≡ ends.Clean) ⊎ (why ≡ ends.Clean → ⊥)
clean_or_not ends.Clean = inl refl
clean_or_not (ends.Broken d) = inr (λ e. cc)
clean_or_not ends.BadOrder = inr (λ e. cc)
clean_or_not ends.Unfinished = inr (λ e. cc)
clean_or_not ends.Short = inr (λ e. cc)
clean_or_not ends.BadVarint = inr (λ e. cc)
clean_or_not (ends.Tag t) = inr (λ e. cc)
clean_or_not (ends.Count said n) = inr (λ e. cc)
clean_or_not (ends.Order first last) = inr (λ e. cc)
clean_or_not (ends.High first n) = inr (λ e. cc)

pub some_logs : (number : Option ℕ) (last : ℕ) (files : List (List ℕ)) → files ≢ [] → AllByRecursion AreBytes files → (s : RecoveredLogs) × AreRecoveredAfter number last files s
some_logs number last [] some are = absurd (some refl)
some_logs number last (file ∷ []) some are = let r = later_some last number file are.0 in (in_first r.0, ends_here r.0 r.1 (λ clean. refl))
some_logs number last (file ∷ next ∷ later) some are =
    let r = later_some last number file are.0 in
    ⊎_elim
    (λ clean. let s = some_logs number (last_sequence last r.0.batches) (next ∷ later) (λ none. cc) are.1 in (after_log r.0 s.0, goes_on r.0 s.0 r.1 clean s.1))
    (λ stops. (in_first r.0, ends_here r.0 r.1 (λ clean. absurd (stops clean))))
    (clean_or_not r.0.why)

-- where recovery ends in a log, it doesn't go on after it
not_both : (number : Option ℕ) (last : ℕ) (file : List ℕ) (later : List (List ℕ)) (r q : Recovered) (s : RecoveredLogs) → IsRecoveredAfter last number file r → (r.why ≡ ends.Clean → later ≡ [])
    → IsRecoveredAfter last number file q → q.why ≡ ends.Clean → AreRecoveredAfter number (last_sequence last q.batches) later s → ⊥
not_both number last file later r q s is stops also clean on =
    let same : r ≡ q = later_one last number file r q is also in
    no_logs number (last_sequence last q.batches) s (subst (λ (l : List (List ℕ)). AreRecoveredAfter number (last_sequence last q.batches) l s) (stops (ap (λ (x : Recovered). x.why) same ∙ clean)) on)

pub one_of_logs : (number : Option ℕ) (last : ℕ) (files : List (List ℕ)) (s t : RecoveredLogs) → AreRecoveredAfter number last files s → AreRecoveredAfter number last files t → s ≡ t
one_of_logs number last [] s t a b = absurd (no_logs number last s a)
one_of_logs number last (file ∷ later) s t (ends_here r is stops) (ends_here q also ends) = ap in_first (later_one last number file r q is also)
one_of_logs number last (file ∷ later) s t (ends_here r is stops) (goes_on q more also clean on) = absurd (not_both number last file later r q more is stops also clean on)
one_of_logs number last (file ∷ later) s t (goes_on r more is clean on) (ends_here q also stops) = absurd (not_both number last file later q r more also stops is clean on)
one_of_logs number last (file ∷ later) s t (goes_on r more is clean on) (goes_on q others also clean_q on_q) =
    let same : r ≡ q = later_one last number file r q is also in
    let rest : more ≡ others = one_of_logs number (last_sequence last r.batches) later more others on (subst (λ (x : Recovered). AreRecoveredAfter number (last_sequence last x.batches) later others) (sym same) on_q) in
    ap (after_log r) rest ∙ ap (λ (x : Recovered). after_log x others) same

-- What a crash leaves of several logs

front_some : (safe : ℕ) (logs : List (List (List ℕ))) (images : List (List ℕ)) → AreFront safe logs images → images ≢ []
front_some safe logs images (within some begins none) e = cc
front_some safe logs images (whole same front) e = cc

pub front_recovers : (safe : ℕ) (logs : List (List (List ℕ))) (images : List (List ℕ)) → AllByRecursion AreBytes images → AreFront safe logs images → NoChances logs images
    → (s : RecoveredLogs) × AreRecovered plain_log images s × IsPrefix (map logged_bytes s.batches) (records_in logs) (λ n. ⊤)
front_recovers safe logs images are front chance =
    let s = some_logs plain_log 0 images (front_some safe logs images front) are in
    let found : List Logged = s.0.batches in
    let first = (front_is 0 safe logs images s.0 front chance s.1).prefix in
    (s.0, s.1, record { many = length found; some = omega (arith, ap length first, length_map logged_bytes found, length-take (length found) (records_in logs)); same = first; enough = tt })
