-- What is printed of a schedule.
use Rattle.std.proofs.Common.{◌≡◌, ◌⊎◌, inl, inr, ⊎_elim, ℕ, List, Option, Some, None, Result, Ok, Err, IfSome, ap, ◌∙◌, subst, arith}
use Rattle.std.specs.Prelude.{IfOk, take}
use Rattle.std.specs.Io.KnownBytes.{Appends}
use Rattle.model_base.specs.declared.memory.NoMemory.{NoMemory}
use Rattle.model_core.specs.Schedule.{Schedule, schedule_of}
use Rattle.replay_schedules.specs.declared.replaying.Replayed.{Replayed}
use Rattle.replay_core.specs.declared.state.CoreOptions.{CoreOptions}
use Rattle.program_call.specs.declared.report.Status.{Status}
use Rattle.program_call.specs.declared.report.Status.TheVariants as status
use Rattle.program_call.specs.Replays.{SaysSchedule, Replays, ReplaysFront}
use Rattle.replay_schedules.specs.Replayed.{ShowsReplayed, replayed_of}
use Rattle.program_call.specs.Reports.{code, TellsReplay}
use Rattle.program_call.specs.Texts.{NoFault}
use Rattle.run_scripts.specs.ReplayLanguage.{replay_grammar, event_words}

pub replays_front : (options : CoreOptions) (s : Schedule) (found : Result Replayed NoMemory) (kf kfs n : ℕ) (given : Status) (text sold snew : Option (List ℕ)) → n ≡ code given
    → SaysSchedule text s → IfOk found (λ shown. ShowsReplayed shown (replayed_of options s)) → TellsReplay sold snew kf kfs found given → n ≡ 5 → ReplaysFront options text sold snew
replays_front options s (Ok shown) kf kfs n status.Sink text sold snew is said shows tells five =
    record { schedule = s; said = said; printed = (tells.3, subst (λ t. Appends sold snew (take tells.3 t)) (tells.2 (replayed_of options s) shows) tells.4) }
replays_front options s (Ok shown) kf kfs n given text sold snew is said shows tells five = absurd (omega (arith, is, five))
replays_front options s (Err why) kf kfs n given text sold snew is said shows tells five = absurd (let a : n ≡ 6 = is ∙ ap code tells.0 in omega (arith, a, five))

pub replays_whole : (options : CoreOptions) (s : Schedule) (found : Result Replayed NoMemory) (kf kfs n : ℕ) (given : Status) (text sold snew : Option (List ℕ)) → n ≡ code given
    → SaysSchedule text s → IfOk found (λ shown. ShowsReplayed shown (replayed_of options s)) → TellsReplay sold snew kf kfs found given → n ≡ 0 → Replays options text sold snew
replays_whole options s (Ok shown) kf kfs n status.Done text sold snew is said shows tells zero =
    record { schedule = s; said = said; printed = subst (λ t. Appends sold snew t) (tells.1 (replayed_of options s) shows) tells.2 }
replays_whole options s (Ok shown) kf kfs n given text sold snew is said shows tells zero = absurd (omega (arith, is, zero))
replays_whole options s (Err why) kf kfs n given text sold snew is said shows tells zero = absurd (let a : n ≡ 6 = is ∙ ap code tells.0 in omega (arith, a, zero))

-- at 0 and at 6 the sink has counted no fault
pub replay_counted : (found : Result Replayed NoMemory) (kf kfs n : ℕ) (given : Status) (sold snew : Option (List ℕ)) → n ≡ code given → TellsReplay sold snew kf kfs found given → (n ≡ 0) ⊎ (n ≡ 6) → kfs ≡ kf
replay_counted (Ok shown) kf kfs n status.Done sold snew is tells at = tells.3
replay_counted (Ok shown) kf kfs n status.Sink sold snew is tells at = absurd (⊎_elim (λ e. omega (arith, is, e)) (λ e. omega (arith, is, e)) at)
replay_counted (Ok shown) kf kfs n status.Memory sold snew is tells at = tells.1
replay_counted (Ok shown) kf kfs n other sold snew is tells at = absurd tells
replay_counted (Err why) kf kfs n given sold snew is tells at = tells.2

-- where the sink didn't fail, a replay ended well or ran out of memory
replay_ended : (found : Result Replayed NoMemory) (kf kfs n : ℕ) (given : Status) (sold snew : Option (List ℕ)) → n ≡ code given → TellsReplay sold snew kf kfs found given → NoFault kf kfs → (n ≡ 0) ⊎ (n ≡ 6)
replay_ended (Ok shown) kf kfs n status.Done sold snew is tells stood = inl is
replay_ended (Ok shown) kf kfs n status.Sink sold snew is tells stood = absurd (stood tells.0)
replay_ended (Ok shown) kf kfs n status.Memory sold snew is tells stood = inr is
replay_ended (Ok shown) kf kfs n other sold snew is tells stood = absurd tells
replay_ended (Err why) kf kfs n given sold snew is tells stood = inr (is ∙ ap code tells.0)

of_any : (left : Option (List ℕ)) (Q : Type 0) → Q → IfSome left (λ text. (schedule : Schedule) → schedule_of replay_grammar event_words text ≡ Ok schedule → Q)
of_any None Q q = tt
of_any (Some text) Q q = λ schedule said. q

pub replay_completes : (left : Option (List ℕ)) (found : Result Replayed NoMemory) (kf kfs n : ℕ) (given : Status) (sold snew : Option (List ℕ)) → n ≡ code given → TellsReplay sold snew kf kfs found given → NoFault kf kfs
    → IfSome left (λ text. (schedule : Schedule) → schedule_of replay_grammar event_words text ≡ Ok schedule → (n ≡ 0) ⊎ (n ≡ 6))
replay_completes left found kf kfs n given sold snew is tells stood = of_any left ((n ≡ 0) ⊎ (n ≡ 6)) (replay_ended found kf kfs n given sold snew is tells stood)
