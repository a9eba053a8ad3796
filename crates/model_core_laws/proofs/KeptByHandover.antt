-- The events `Boundary`, `Second` and `Next` keep the core's law.
use Rattle.std.proofs.Common.{◌≡◌, ℕ, Bool, true, false, ◌&&◌, ◌==◌, List, [], ◌∷◌, map, filter, ◌++◌, ◌<◌, Some, refl, ap, sym, ◌∙◌, subst, length, arith}
use Rattle.std.specs.List.{AllByRecursion}
use Rattle.std.proofs.lemmas.List.{append-nil}
use Rattle.std.proofs.lemmas.List.Concat.{flat_map-append}
use Rattle.model_core.specs.Core.{Options, Writer, LogPhase, free, led, built, stalled, in_log, marked, handed, TablePhase, still, launched, published, State, leads, has_run, table_group, first_group}
use Rattle.model_core.specs.Step.{boundary, to_second, next}
use Rattle.model_core.specs.CoreLaw.{IsCore, IsTable, hand, hand_with_runs, group_with_runs, in_order, writers_in, unpublished_writers, unpublished_groups, HasInserted}
use Rattle.model_core_laws.proofs.KeptByElect.{rephased}
use Rattle.model_core_laws.proofs.Lists.{all_back, all_of, and_parts}
use Rattle.model_core_laws.proofs.Relined.{lined, relined, same_line, same_table, kept_order}
use Rattle.model_core_laws.proofs.Tables.{AddsNobody, when_some}

-- with two stages the group in the table doesn't depend on the log's group
same_first : (o : Options) (s : State) (log : LogPhase) → o.pipelined ≡ true → table_group o s ≡ table_group o (lined s s.second log s.queue s.leaving s.log_failed)
same_first o s log two = rw two

pub kept_by_boundary : (o : Options) (s t : State) (c : ℕ) → IsCore o s → boundary o s c s.log ≡ Some t → IsCore o t × AddsNobody s t
kept_by_boundary o s t c core e = by_phase s.log refl e
  where
    by_phase : (phase : LogPhase) → s.log ≡ phase → boundary o s c phase ≡ Some t → IsCore o t × AddsNobody s t
    by_phase (in_log ws) is e = let h = when_some (o.pipelined && leads c ws) (record s { log = marked ws }) t e in let two = (and_parts o.pipelined (leads c ws) h.0).0 in
        subst (λ t. IsCore o t × AddsNobody s t) h.1 (rephased o s (marked ws) (ap hand is) (ap hand_with_runs is) (ap group_with_runs is) (same_first o s (marked ws) two) tt (λ one. absurd (cc)) (rw is at core.alone) core)
    by_phase free is e = absurd (cc)
    by_phase (led d) is e = absurd (cc)
    by_phase (built ws) is e = absurd (cc)
    by_phase (stalled ws) is e = absurd (cc)
    by_phase (marked ws) is e = absurd (cc)
    by_phase (handed d) is e = absurd (cc)

pub kept_by_next : (o : Options) (s t : State) (c : ℕ) → IsCore o s → next s c s.log ≡ Some t → IsCore o t × AddsNobody s t
kept_by_next o s t c core e = by_phase s.log refl e
  where
    by_phase : (phase : LogPhase) → s.log ≡ phase → next s c phase ≡ Some t → IsCore o t × AddsNobody s t
    by_phase (handed d) is e = let h = when_some (c == d) (record s { log = free }) t e in
        subst (λ t. IsCore o t × AddsNobody s t) h.1 (rephased o s free (ap hand is) (ap hand_with_runs is) (ap group_with_runs is) (rw is) tt (λ e. tt) tt core)
    by_phase free is e = absurd (cc)
    by_phase (led d) is e = absurd (cc)
    by_phase (built ws) is e = absurd (cc)
    by_phase (in_log ws) is e = absurd (cc)
    by_phase (stalled ws) is e = absurd (cc)
    by_phase (marked ws) is e = absurd (cc)

-- the state after the marked group went to the second queue
abbrev second_of : State → ℕ → List Writer → State
second_of s c ws = lined s (s.second ++ ws ∷ []) (handed c) s.queue s.leaving s.log_failed

joined_more : (wss : List (List Writer)) (ws : List Writer) → writers_in (wss ++ ws ∷ []) ≡ writers_in wss ++ ws
joined_more wss ws = flat_map-append (λ (ws : List Writer). ws) wss (ws ∷ []) ∙ rw append-nil

same_order : (s : State) (c : ℕ) (ws : List Writer) → s.log ≡ marked ws → in_order s ≡ in_order (second_of s c ws)
same_order s c ws is = ap (map (λ (w : Writer). w.client)) (rw is (rw (joined_more s.second ws) (ap (λ line. line ++ s.queue) (sym (append-nil (writers_in s.second ++ ws))))))

first_same : (wss : List (List Writer)) (ws : List Writer) → 0 < length (first_group wss) → first_group wss ≡ first_group (wss ++ ws ∷ [])
first_same [] ws some = absurd (omega arith)
first_same (v ∷ vs) ws some = refl

-- if there is a group in the table, it stays the same
group_same : (o : Options) (s : State) (c : ℕ) (ws : List Writer) → o.pipelined ≡ true → 0 < length (table_group o s) → table_group o s ≡ table_group o (second_of s c ws)
group_same o s c ws two some = rw two (first_same s.second ws (rw two at some))

table_kept : (o : Options) (s : State) (c : ℕ) (ws : List Writer) → o.pipelined ≡ true → (table : TablePhase) → IsTable o s table → IsTable o (second_of s c ws) table
table_kept o s c ws two still is = tt
table_kept o s c ws two published is = same_table o s (second_of s c ws) published (group_same o s c ws two is) is
table_kept o s c ws two (launched ins fin) is = same_table o s (second_of s c ws) (launched ins fin) (group_same o s c ws two is.0) is

inserted_kept : (o : Options) (s : State) (c : ℕ) (ws : List Writer) → o.pipelined ≡ true → (table : TablePhase) → IsTable o s table
    → AllByRecursion (HasInserted s.inserted table) (filter has_run (table_group o s)) → AllByRecursion (HasInserted s.inserted table) (filter has_run (table_group o (second_of s c ws)))
inserted_kept o s c ws two still is have = all_of (HasInserted s.inserted still) (λ w. tt) (filter has_run (table_group o (second_of s c ws)))
inserted_kept o s c ws two published is have = all_of (HasInserted s.inserted published) (λ w. tt) (filter has_run (table_group o (second_of s c ws)))
inserted_kept o s c ws two (launched ins fin) is have = subst (λ vs. AllByRecursion (HasInserted s.inserted (launched ins fin)) (filter has_run vs)) (group_same o s c ws two is.0) have

ahead_kept : (o : Options) (s : State) (c : ℕ) (ws : List Writer) → o.pipelined ≡ true → s.log ≡ marked ws → (table : TablePhase) → IsTable o s table → unpublished_writers o s table ≡ unpublished_writers o (second_of s c ws) table
ahead_kept o s c ws two log still is = rw log (rw (joined_more s.second ws) (sym (append-nil (writers_in s.second ++ ws))))
ahead_kept o s c ws two log (launched ins fin) is = rw log (rw (joined_more s.second ws) (sym (append-nil (writers_in s.second ++ ws))))
ahead_kept o s c ws two log published is = by_second s.second refl (rw two at is)
  where
    by_second : (wss : List (List Writer)) → s.second ≡ wss → 0 < length (first_group wss) → unpublished_writers o s published ≡ unpublished_writers o (second_of s c ws) published
    by_second [] e some = absurd (omega arith)
    by_second (v ∷ vs) e some = rw (e, two, log) (rw (joined_more vs ws) (sym (append-nil (writers_in vs ++ ws))))

groups_kept : (o : Options) (s : State) (c : ℕ) (ws : List Writer) → o.pipelined ≡ true → s.log ≡ marked ws → (table : TablePhase) → IsTable o s table → unpublished_groups o s table ≡ unpublished_groups o (second_of s c ws) table
groups_kept o s c ws two log still is = rw log (sym (append-nil (s.second ++ ws ∷ [])))
groups_kept o s c ws two log (launched ins fin) is = rw log (sym (append-nil (s.second ++ ws ∷ [])))
groups_kept o s c ws two log published is = by_second s.second refl (rw two at is)
  where
    by_second : (wss : List (List Writer)) → s.second ≡ wss → 0 < length (first_group wss) → unpublished_groups o s published ≡ unpublished_groups o (second_of s c ws) published
    by_second [] e some = absurd (omega arith)
    by_second (v ∷ vs) e some = rw (e, two, log) (sym (append-nil (vs ++ ws ∷ [])))

seconded : (o : Options) (s : State) (c : ℕ) (ws : List Writer) → s.log ≡ marked ws → o.pipelined ≡ true → IsCore o s → IsCore o (second_of s c ws) × AddsNobody s (second_of s c ws)
seconded o s c ws log two core = let e = same_order s c ws log in (
  relined o s (s.second ++ ws ∷ []) (handed c) s.queue s.leaving s.log_failed (record {
    members = same_line _ _ (ap (λ line. line ++ map (λ (w : Writer). w.client) s.leaving) e);
    led = tt;
    single = λ one. absurd (cc);
    unmarked = λ one. tt;
    counted = all_back _ (hand s.log) s.queue core.counted;
    alone = tt;
    one_log_flag = tt;
    ahead = ahead_kept o s c ws two log s.table core.is_table;
    groups_ahead = groups_kept o s c ws two log s.table core.is_table;
    is_table = table_kept o s c ws two s.table core.is_table;
    has_inserted = inserted_kept o s c ws two s.table core.is_table core.has_inserted;
  }) core,
  kept_order s (second_of s c ws) e (λ log_failed. (refl, log_failed)),
)

pub kept_by_second : (o : Options) (s t : State) (c : ℕ) → IsCore o s → to_second s c s.log ≡ Some t → IsCore o t × AddsNobody s t
kept_by_second o s t c core e = by_phase s.log refl e
  where
    by_stage : (ws : List Writer) (b : Bool) → o.pipelined ≡ b → s.log ≡ marked ws → IsCore o (second_of s c ws) × AddsNobody s (second_of s c ws)
    by_stage ws true two is = seconded o s c ws is two core
    by_stage ws false one is = absurd (rw is at (core.unmarked one))

    by_phase : (phase : LogPhase) → s.log ≡ phase → to_second s c phase ≡ Some t → IsCore o t × AddsNobody s t
    by_phase (marked ws) is e = let h = when_some (leads c ws) (second_of s c ws) t e in subst (λ t. IsCore o t × AddsNobody s t) h.1 (by_stage ws o.pipelined refl is)
    by_phase free is e = absurd (cc)
    by_phase (led d) is e = absurd (cc)
    by_phase (built ws) is e = absurd (cc)
    by_phase (in_log ws) is e = absurd (cc)
    by_phase (stalled ws) is e = absurd (cc)
    by_phase (handed d) is e = absurd (cc)
