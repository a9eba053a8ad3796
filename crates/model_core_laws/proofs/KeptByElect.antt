-- Electing a leader keeps the core's law.
use Rattle.std.proofs.Common.{◌≡◌, ℕ, false, filter, ◌++◌, Some, refl, ap, subst}
use Rattle.std.specs.List.{AllByRecursion}
use Rattle.model_core.specs.Core.{Options, LogPhase, free, led, built, stalled, in_log, marked, handed, State, leads, has_run, table_group}
use Rattle.model_core.specs.Step.{elect}
use Rattle.model_core.specs.CoreLaw.{IsCore, hand, hand_with_runs, group_with_runs, HasInserted, LedIsFirst, IsUnmarked, SameLogFlag, HasWork, ReadAlone}
use Rattle.model_core_laws.proofs.Relined.{lined, relined, same_line, same_table, same_unpublished, same_groups, kept_order}
use Rattle.model_core_laws.proofs.Tables.{AddsNobody, when_some}

-- only the log's phase changes, and no group and no queue
pub rephased : (o : Options) (s : State) (log : LogPhase) → hand s.log ≡ hand log → hand_with_runs s.log ≡ hand_with_runs log → group_with_runs s.log ≡ group_with_runs log
    → table_group o s ≡ table_group o (lined s s.second log s.queue s.leaving s.log_failed) → LedIsFirst log s.queue → (o.pipelined ≡ false → IsUnmarked log) → ReadAlone log
    → IsCore o s → IsCore o (lined s s.second log s.queue s.leaving s.log_failed) × AddsNobody s (lined s s.second log s.queue s.leaving s.log_failed)
rephased o s log e f k g first unmarked alone core = let t : State = lined s s.second log s.queue s.leaving s.log_failed in (
  relined o s s.second log s.queue s.leaving s.log_failed (record {
    members = same_line _ _ (rw e);
    led = first;
    single = core.single_stage;
    unmarked = unmarked;
    counted = subst (λ ws. AllByRecursion HasWork (ws ++ s.queue)) e core.counted;
    alone = alone;
    one_log_flag = subst SameLogFlag e core.one_log_flag;
    ahead = same_unpublished o s t s.table refl f;
    groups_ahead = same_groups o s t s.table refl k;
    is_table = same_table o s t s.table g core.is_table;
    has_inserted = subst (λ ws. AllByRecursion (HasInserted s.inserted s.table) (filter has_run ws)) g core.has_inserted;
  }) core,
  kept_order s t (rw e) (λ log_failed. (refl, log_failed)),
)

-- the event, from any state
pub kept_by_elect : (o : Options) (s t : State) (c : ℕ) → IsCore o s → elect s c s.log ≡ Some t → IsCore o t × AddsNobody s t
kept_by_elect o s t c core e = by_phase s.log refl e
  where
    by_phase : (phase : LogPhase) → s.log ≡ phase → elect s c phase ≡ Some t → IsCore o t × AddsNobody s t
    by_phase free is e = let h = when_some (leads c s.queue) (record s { log = led c }) t e in
        subst (λ t. IsCore o t × AddsNobody s t) h.1 (rephased o s (led c) (ap hand is) (ap hand_with_runs is) (ap group_with_runs is) (rw is) h.0 (λ e. tt) tt core)
    by_phase (led d) is e = absurd (cc)
    by_phase (built ws) is e = absurd (cc)
    by_phase (in_log ws) is e = absurd (cc)
    by_phase (stalled ws) is e = absurd (cc)
    by_phase (marked ws) is e = absurd (cc)
    by_phase (handed d) is e = absurd (cc)
