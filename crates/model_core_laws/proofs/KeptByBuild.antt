-- Building a group keeps the core's law.
use Rattle.std.proofs.Common.{◌≡◌, ℕ, ◌==◌, ◌++◌, map, take, drop, Some, refl, ap, sym, subst, append_assoc}
use Rattle.std.specs.List.{AllByRecursion, filter}
use Rattle.std.proofs.lemmas.List.{take-append-drop, append-nil}
use Rattle.model_core.specs.Core.{Options, Writer, LogPhase, free, led, built, stalled, in_log, marked, handed, State, has_run, table_group}
use Rattle.model_core.specs.Step.{build, group_size}
use Rattle.model_core.specs.CoreLaw.{IsCore, hand, in_order, writers_in, HasInserted, HasWork}
use Rattle.model_core_laws.proofs.Groups.{one_flag, read_alone}
use Rattle.model_core_laws.proofs.Relined.{lined, relined, same_line, same_table, same_unpublished, same_groups, kept_order}
use Rattle.model_core_laws.proofs.Tables.{AddsNobody, when_some}

-- the state after the queue's first n writers became the group in hand
abbrev built_of : State → ℕ → State
built_of s n = lined s s.second (built (take n s.queue)) (drop n s.queue) s.leaving s.log_failed

same_order : (s : State) (n d : ℕ) → s.log ≡ led d → in_order s ≡ in_order (built_of s n)
same_order s n d is = ap (map (λ (w : Writer). w.client)) (rw is (rw (append_assoc (writers_in s.second) (take n s.queue) (drop n s.queue), take-append-drop n s.queue, append-nil (writers_in s.second))))

built_keeps : (o : Options) (s : State) (d : ℕ) → s.log ≡ led d → IsCore o s → IsCore o (built_of s (group_size o s)) × AddsNobody s (built_of s (group_size o s))
built_keeps o s d is core = let n = group_size o s in let t = built_of s n in let e = same_order s n d is in let whole : hand s.log ++ s.queue ≡ take n s.queue ++ drop n s.queue = rw is (sym (take-append-drop n s.queue)) in
    let group : table_group o s ≡ table_group o t = rw is in (
      relined o s s.second (built (take n s.queue)) (drop n s.queue) s.leaving s.log_failed (record {
        members = same_line _ _ (ap (λ line. line ++ map (λ (w : Writer). w.client) s.leaving) e);
        led = tt;
        single = core.single_stage;
        unmarked = λ one. tt;
        counted = subst (AllByRecursion HasWork) whole core.counted;
        alone = read_alone o.group_bytes s.queue;
        one_log_flag = one_flag o.group_bytes s.queue;
        ahead = same_unpublished o s t s.table refl (rw is);
        groups_ahead = same_groups o s t s.table refl (rw is);
        is_table = same_table o s t s.table group core.is_table;
        has_inserted = subst (λ ws. AllByRecursion (HasInserted s.inserted s.table) (filter has_run ws)) group core.has_inserted;
      }) core,
      kept_order s t e (λ log_failed. (refl, log_failed)),
    )

pub kept_by_build : (o : Options) (s t : State) (c : ℕ) → IsCore o s → build o s c s.log ≡ Some t → IsCore o t × AddsNobody s t
kept_by_build o s t c core e = by_phase s.log refl e
  where
    by_phase : (phase : LogPhase) → s.log ≡ phase → build o s c phase ≡ Some t → IsCore o t × AddsNobody s t
    by_phase (led d) is e = let h = when_some (c == d) (built_of s (group_size o s)) t e in subst (λ t. IsCore o t × AddsNobody s t) h.1 (built_keeps o s d is core)
    by_phase free is e = absurd (cc)
    by_phase (built ws) is e = absurd (cc)
    by_phase (in_log ws) is e = absurd (cc)
    by_phase (stalled ws) is e = absurd (cc)
    by_phase (marked ws) is e = absurd (cc)
    by_phase (handed d) is e = absurd (cc)
