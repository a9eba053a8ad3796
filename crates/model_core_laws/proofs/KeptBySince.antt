-- A read of the log that is answered keeps the core's law.
use Rattle.std.proofs.Common.{◌≡◌, ℕ, ◌==◌, Bool, true, false, if◌then◌else◌, [], ◌∷◌, ◌++◌, map, filter, Option, Some, None, inl, refl, ap, sym, ◌∙◌, subst}
use Rattle.std.specs.List.{AllByRecursion}
use Rattle.model_base.specs.Calls.{Reply}
use Rattle.model_core.specs.Core.{Options, Writer, LogPhase, free, led, built, stalled, in_log, marked, handed, State, read_at, has_run, table_group}
use Rattle.model_core.specs.Step.{read_log, answer_read}
use Rattle.model_core.specs.CoreLaw.{IsCore, in_order, waiting_clients, HasInserted, HasWork}
use Rattle.model_core_laws.proofs.KeptByLeaving.{client_of, order_parts}
use Rattle.model_core_laws.proofs.Relined.{lined, relined, same_line, same_table, same_unpublished, same_groups, kept_order}
use Rattle.model_core_laws.proofs.Tables.{AddsNobody}

-- the writer with its answer, and the state with that writer in hand
abbrev pub answered : State → Writer → Writer
answered s w = record w { answer = Some (read_at s.last) }

abbrev pub told_of : State → Writer → State
told_of s w = lined s s.second (built (answered s w ∷ [])) s.queue s.leaving s.log_failed

told_keeps : (o : Options) (s : State) (w : Writer) → s.log ≡ built (w ∷ []) → IsCore o s → IsCore o (told_of s w) × AddsNobody s (told_of s w)
told_keeps o s w is core =
    let t = told_of s w in
    let order : in_order s ≡ in_order t = order_parts s ∙ (rw is refl ∙ sym (order_parts t)) in
    let group : table_group o s ≡ table_group o t = rw is refl in
    let work : AllByRecursion HasWork (w ∷ s.queue) = rw is at core.counted in (
      relined o s s.second (built (answered s w ∷ [])) s.queue s.leaving s.log_failed (record {
        members = same_line (waiting_clients s) (waiting_clients t) (ap (λ line. line ++ map client_of s.leaving) order);
        led = tt;
        single = core.single_stage;
        unmarked = λ one. tt;
        counted = (work.0, work.1);
        alone = inl refl;
        one_log_flag = tt;
        ahead = same_unpublished o s t s.table refl (rw is);
        groups_ahead = same_groups o s t s.table refl (rw is);
        is_table = same_table o s t s.table group core.is_table;
        has_inserted = subst (λ ws. AllByRecursion (HasInserted s.inserted s.table) (filter has_run ws)) group core.has_inserted;
      }) core,
      kept_order s t order (λ log_failed. (refl, log_failed)),
    )

pub kept_by_since : (o : Options) (s t : State) (c : ℕ) → IsCore o s → read_log s c s.log ≡ Some t → IsCore o t × AddsNobody s t
kept_by_since o s t c core e = by_phase s.log refl e
  where
    by_answer : (w : Writer) → s.log ≡ built (w ∷ []) → (since : Option ℕ) (answer : Option Reply) → answer_read s w since answer ≡ Some t → IsCore o t × AddsNobody s t
    by_answer w is (Some n) None e = let after : told_of s w ≡ t = cc in subst (λ t. IsCore o t × AddsNobody s t) after (told_keeps o s w is core)
    by_answer w is (Some n) (Some reply) e = absurd (cc)
    by_answer w is None answer e = absurd (cc)

    by_client : (w : Writer) → s.log ≡ built (w ∷ []) → (b : Bool) → (if b then answer_read s w w.since w.answer else None) ≡ Some t → IsCore o t × AddsNobody s t
    by_client w is true e = by_answer w is w.since w.answer e
    by_client w is false e = absurd (cc)

    by_phase : (phase : LogPhase) → s.log ≡ phase → read_log s c phase ≡ Some t → IsCore o t × AddsNobody s t
    by_phase (built (w ∷ [])) is e = by_client w is (w.client == c) e
    by_phase (built []) is e = absurd (cc)
    by_phase (built (w ∷ v ∷ ws)) is e = absurd (cc)
    by_phase free is e = absurd (cc)
    by_phase (led d) is e = absurd (cc)
    by_phase (stalled ws) is e = absurd (cc)
    by_phase (in_log ws) is e = absurd (cc)
    by_phase (marked ws) is e = absurd (cc)
    by_phase (handed d) is e = absurd (cc)
