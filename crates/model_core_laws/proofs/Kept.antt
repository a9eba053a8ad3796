-- Each event keeps the core's law, and so does every list of events.
use Rattle.std.proofs.Common.{◌≡◌, List, [], ◌∷◌, Option, Some, None, fold, refl}
use Rattle.model_core.specs.declared.event.Event.{Event}
use Rattle.model_core.specs.declared.event.Event.TheVariants as e
use Rattle.model_base.specs.declared.write.Refusal.TheVariants as no
use Rattle.model_base.specs.Calls.{Command}
use Rattle.model_core.specs.Core.{Options, State, opening_state, stall_refusal}
use Rattle.model_core.specs.Step.{step, Replayed, after_event, replay}
use Rattle.model_core.specs.CoreLaw.{IsCore, IsSubsequence, KeepsOrder, Keeps, in_order}
use Rattle.model_core_laws.proofs.KeptByBuild.{kept_by_build}
use Rattle.model_core_laws.proofs.KeptByComplete.{kept_by_complete}
use Rattle.model_core_laws.proofs.KeptByElect.{kept_by_elect}
use Rattle.model_core_laws.proofs.KeptByExit.{kept_by_exit}
use Rattle.model_core_laws.proofs.KeptByFinish.{kept_by_finish}
use Rattle.model_core_laws.proofs.KeptByHandover.{kept_by_boundary, kept_by_second, kept_by_next}
use Rattle.model_core_laws.proofs.KeptByInsert.{kept_by_insert}
use Rattle.model_core_laws.proofs.KeptByLaunch.{kept_by_launch}
use Rattle.model_core_laws.proofs.KeptByLeaving.{kept_by_fault, kept_by_refuse}
use Rattle.model_core_laws.proofs.KeptByLink.{kept_by_link}
use Rattle.model_core_laws.proofs.KeptByLog.{kept_by_log}
use Rattle.model_core_laws.proofs.KeptByPublish.{kept_by_publish}
use Rattle.model_core_laws.proofs.KeptByRead.{kept_by_read}
use Rattle.model_core_laws.proofs.KeptBySince.{kept_by_since}
use Rattle.model_core_laws.proofs.KeptByStall.{kept_by_stall, kept_by_leave, kept_by_unstall}
use Rattle.model_core_laws.proofs.Opening.{opening}
use Rattle.model_core_laws.proofs.Tables.{AddsNobody}

-- an event that adds nobody to the line lets nobody overtake another
nobody_added : (o : Options) (s t : State) (event : Event) → (IsSubsequence (in_order t) (in_order s) → KeepsOrder event s t) → IsCore o t × AddsNobody s t → IsCore o t × Keeps event s t
nobody_added o s t event order kept = (kept.0, record { order = order kept.1.order; log_failed = kept.1.log_failed })

pub kept : (o : Options) (s t : State) (event : Event) → IsCore o s → step o s event ≡ Some t → IsCore o t × Keeps event s t
kept o s t (e.Link c) core is = kept_by_link o s t c core is
kept o s t (e.Elect c) core is = nobody_added o s t (e.Elect c) (λ order. order) (kept_by_elect o s t c core is)
kept o s t (e.Build c) core is = nobody_added o s t (e.Build c) (λ order. order) (kept_by_build o s t c core is)
kept o s t (e.Log c) core is = nobody_added o s t (e.Log c) (λ order. order) (kept_by_log o s t c core is)
kept o s t (e.Fault c) core is = nobody_added o s t (e.Fault c) (λ order. order) (kept_by_fault o s t c core is)
kept o s t (e.Refuse c stops delays wait) core is = nobody_added o s t (e.Refuse c stops delays wait) (λ order. order) (kept_by_refuse o s t c (no.Incomplete stops delays wait) core is)
kept o s t (e.Stall c) core is = nobody_added o s t (e.Stall c) (λ order. order) (kept_by_stall o s t c core is)
kept o s t (e.Leave m stops delays) core is = nobody_added o s t (e.Leave m stops delays) (λ order. order) (kept_by_leave o s t m (stall_refusal stops delays) core is)
kept o s t (e.Unstall c) core is = nobody_added o s t (e.Unstall c) (λ order. order) (kept_by_unstall o s t c core is)
kept o s t (e.Boundary c) core is = nobody_added o s t (e.Boundary c) (λ order. order) (kept_by_boundary o s t c core is)
kept o s t (e.Second c) core is = nobody_added o s t (e.Second c) (λ order. order) (kept_by_second o s t c core is)
kept o s t (e.Next c) core is = nobody_added o s t (e.Next c) (λ order. order) (kept_by_next o s t c core is)
kept o s t (e.Launch c) core is = nobody_added o s t (e.Launch c) (λ order. order) (kept_by_launch o s t c core is)
kept o s t (e.Insert m) core is = nobody_added o s t (e.Insert m) (λ order. order) (kept_by_insert o s t m core is)
kept o s t (e.Finish m) core is = nobody_added o s t (e.Finish m) (λ order. order) (kept_by_finish o s t m core is)
kept o s t (e.Publish m) core is = nobody_added o s t (e.Publish m) (λ order. order) (kept_by_publish o s t m core is)
kept o s t (e.Since c) core is = nobody_added o s t (e.Since c) (λ order. order) (kept_by_since o s t c core is)
kept o s t (e.Exit c) core is = nobody_added o s t (e.Exit c) (λ order. order) (kept_by_exit o s t c core is)
kept o s t (e.Complete m) core is = nobody_added o s t (e.Complete m) (λ order. order) (kept_by_complete o s t m core is)
kept o s t (e.Read c) core is = nobody_added o s t (e.Read c) (λ order. order) (kept_by_read o s t c core is)

-- What holds at a state and is kept by each event that comes holds after every list of events.
pub by_events : (P : State → Type 0) (o : Options) → ((s t : State) (event : Event) → P s → step o s event ≡ Some t → P t) → (events : List Event) (r : Replayed) → P r.state
    → P (fold (λ r event. after_event r (step o r.state event)) r events).state
by_events P o keeps [] r holds = holds
by_events P o keeps (event ∷ events) r holds = by_events P o keeps events (after_event r (step o r.state event)) (by_step (step o r.state event) refl)
  where
    by_step : (after : Option State) → step o r.state event ≡ after → P (after_event r after).state
    by_step None is = holds
    by_step (Some t) is = keeps r.state t event holds is

pub every_list : (o : Options) (plans : List (List Command)) (events : List Event) → IsCore o (replay o (opening_state o plans) events).state
every_list o plans events = by_events (IsCore o) o (λ s t event core is. (kept o s t event core is).0) events (record { state = opening_state o plans; taken = 0; skipped = 0 }) (opening o plans)
