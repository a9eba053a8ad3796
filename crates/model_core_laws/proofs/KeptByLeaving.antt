-- A fault, a refusal and a group without a run keep the core's law: all members leave with their answers.
use Rattle.std.proofs.Common.{◌≡◌, ℕ, ◌&&◌, not, Bool, true, List, [], ◌∷◌, ◌++◌, map, Some, refl, ap, ◌∙◌, subst, append_assoc, arith}
use Rattle.std.specs.List.{AllByRecursion, filter, count_by}
use Rattle.std.proofs.lemmas.List.{map-append, append-nil}
use Rattle.model_base.specs.declared.write.Refusal.{Refusal}
use Rattle.model_base.specs.declared.write.Refusal.TheVariants as no
use Rattle.model_base.specs.Calls.{Reply, refused}
use Rattle.model_core.specs.Core.{Options, Writer, LogPhase, free, led, built, stalled, in_log, marked, handed, State, leads, has_run, is_alone, table_group, all_answered}
use Rattle.model_core.specs.Step.{fault, refuse, is_no_slowdown}
use Rattle.model_core.specs.CoreLaw.{IsCore, IsSubsequence, hand, in_order, waiting_clients, writers_in, HasInserted}
use Rattle.model_core_laws.proofs.Lists.{all_append, all_front, all_back, count_append}
use Rattle.model_core_laws.proofs.Relined.{SameMembers, lined, relined, same_table, same_unpublished, same_groups}
use Rattle.model_core_laws.proofs.Tables.{AddsNobody, subsequence_self, subsequence_after, subsequence_both, when_some}

abbrev pub client_of : Writer → ℕ
client_of w = w.client

-- the state after the built group has left
abbrev pub left_of : State → List Writer → Bool → State
left_of s ws log_failed = lined s s.second free s.queue (s.leaving ++ ws) log_failed

-- a part of a list moved to its end
moved_counts : (p : ℕ → Bool) (xs ws ys zs : List ℕ) → count_by p (((xs ++ []) ++ ys) ++ (zs ++ ws)) ≡ count_by p (((xs ++ ws) ++ ys) ++ zs)
moved_counts p xs ws ys zs = rw (append-nil xs, count_append p (xs ++ ys) (zs ++ ws), count_append p xs ys, count_append p zs ws, count_append p ((xs ++ ws) ++ ys) zs, count_append p (xs ++ ws) ys, count_append p xs ws) (omega arith)

moved_all : (P : ℕ → Type 0) (xs ws ys zs : List ℕ) → AllByRecursion P (((xs ++ ws) ++ ys) ++ zs) → AllByRecursion P (((xs ++ []) ++ ys) ++ (zs ++ ws))
moved_all P xs ws ys zs a =
    let line = all_front P ((xs ++ ws) ++ ys) zs a in
    let two = all_front P (xs ++ ws) ys line in
    all_append P ((xs ++ []) ++ ys) (zs ++ ws)
    (all_append P (xs ++ []) ys (all_append P xs [] (all_front P xs ws two) tt) (all_back P (xs ++ ws) ys line))
    (all_append P zs ws (all_back P ((xs ++ ws) ++ ys) zs a) (all_back P xs ws two))

-- where the clients wait, part by part
pub order_parts : (s : State) → in_order s ≡ (map client_of (writers_in s.second) ++ map client_of (hand s.log)) ++ map client_of s.queue
order_parts s = map-append client_of (writers_in s.second ++ hand s.log) s.queue ∙ ap (λ two. two ++ map client_of s.queue) (map-append client_of (writers_in s.second) (hand s.log))

pub waiting_parts : (s : State) → waiting_clients s ≡ ((map client_of (writers_in s.second) ++ map client_of (hand s.log)) ++ map client_of s.queue) ++ map client_of s.leaving
waiting_parts s = ap (λ line. line ++ map client_of s.leaving) (order_parts s)

left_waiting : (s : State) (ws : List Writer) (log_failed : Bool) → waiting_clients (left_of s ws log_failed) ≡ ((map client_of (writers_in s.second) ++ []) ++ map client_of s.queue) ++ (map client_of s.leaving ++ map client_of ws)
left_waiting s ws log_failed = waiting_parts (left_of s ws log_failed) ∙ ap (λ leaving. ((map client_of (writers_in s.second) ++ []) ++ map client_of s.queue) ++ leaving) (map-append client_of s.leaving ws)

left_members : (s : State) (ws : List Writer) (log_failed : Bool) → map client_of (hand s.log) ≡ map client_of ws → SameMembers (waiting_clients s) (waiting_clients (left_of s ws log_failed))
left_members s ws log_failed e =
    let before : waiting_clients s ≡ ((map client_of (writers_in s.second) ++ map client_of ws) ++ map client_of s.queue) ++ map client_of s.leaving = waiting_parts s ∙ rw e refl in
    let after = left_waiting s ws log_failed in record {
      counts = λ p. rw (before, after) (moved_counts p (map client_of (writers_in s.second)) (map client_of ws) (map client_of s.queue) (map client_of s.leaving));
      all = λ P a. rw after (moved_all P (map client_of (writers_in s.second)) (map client_of ws) (map client_of s.queue) (map client_of s.leaving) (rw before at a));
    }

part_left_out : (xs ws ys : List ℕ) → IsSubsequence ((xs ++ []) ++ ys) ((xs ++ ws) ++ ys)
part_left_out xs ws ys = rw (append-nil xs, append_assoc xs ws ys) (subsequence_both xs ys (ws ++ ys) (subsequence_after ws ys ys (subsequence_self ys)))

left_order : (s : State) (ws : List Writer) (log_failed : Bool) → IsSubsequence (in_order (left_of s ws log_failed)) (in_order s)
left_order s ws log_failed =
    let before = order_parts s in let after : in_order (left_of s ws log_failed) ≡ (map client_of (writers_in s.second) ++ []) ++ map client_of s.queue = order_parts (left_of s ws log_failed) in
    rw (before, after) (part_left_out (map client_of (writers_in s.second)) (map client_of (hand s.log)) (map client_of s.queue))

pub left_core : (o : Options) (s : State) (us ws : List Writer) (log_failed : Bool) → s.log ≡ built us → map client_of us ≡ map client_of ws → (s.log_failed ≡ true → log_failed ≡ true)
    → IsCore o s → IsCore o (left_of s ws log_failed) × AddsNobody s (left_of s ws log_failed)
left_core o s us ws log_failed is e more core = let t = left_of s ws log_failed in let group : table_group o s ≡ table_group o t = rw is in (
  relined o s s.second free s.queue (s.leaving ++ ws) log_failed (record {
    members = left_members s ws log_failed (rw is e);
    led = tt;
    single = core.single_stage;
    unmarked = λ one. tt;
    counted = all_back _ (hand s.log) s.queue core.counted;
    alone = tt;
    one_log_flag = tt;
    ahead = same_unpublished o s t s.table refl (rw is);
    groups_ahead = same_groups o s t s.table refl (rw is);
    is_table = same_table o s t s.table group core.is_table;
    has_inserted = subst (λ ws. AllByRecursion (HasInserted s.inserted s.table) (filter has_run ws)) group core.has_inserted;
  }) core,
  record { order = left_order s ws log_failed; log_failed = λ was. (refl, more was) },
)

answered_clients : (reply : Reply) (ws : List Writer) → map client_of ws ≡ map client_of (all_answered reply ws)
answered_clients reply [] = refl
answered_clients reply (w ∷ ws) = ap (λ cs. w.client ∷ cs) (answered_clients reply ws)

pub kept_by_fault : (o : Options) (s t : State) (c : ℕ) → IsCore o s → fault s c s.log ≡ Some t → IsCore o t × AddsNobody s t
kept_by_fault o s t c core e = by_phase s.log refl e
  where
    by_phase : (phase : LogPhase) → s.log ≡ phase → fault s c phase ≡ Some t → IsCore o t × AddsNobody s t
    by_phase (built ws) is e = let answered = all_answered (refused (no.LogFault 1)) ws in let h = when_some (leads c ws && not (is_alone ws)) (left_of s answered true) t e in
        subst (λ t. IsCore o t × AddsNobody s t) h.1 (left_core o s ws answered true is (answered_clients (refused (no.LogFault 1)) ws) (λ was. refl) core)
    by_phase free is e = absurd (cc)
    by_phase (led d) is e = absurd (cc)
    by_phase (in_log ws) is e = absurd (cc)
    by_phase (stalled ws) is e = absurd (cc)
    by_phase (marked ws) is e = absurd (cc)
    by_phase (handed d) is e = absurd (cc)

pub kept_by_refuse : (o : Options) (s t : State) (c : ℕ) (why : Refusal) → IsCore o s → refuse s c why s.log ≡ Some t → IsCore o t × AddsNobody s t
kept_by_refuse o s t c why core e = by_phase s.log refl e
  where
    by_phase : (phase : LogPhase) → s.log ≡ phase → refuse s c why phase ≡ Some t → IsCore o t × AddsNobody s t
    by_phase (built ws) is e = let answered = all_answered (refused why) ws in let h = when_some (leads c ws && is_no_slowdown ws) (left_of s answered s.log_failed) t e in
        subst (λ t. IsCore o t × AddsNobody s t) h.1 (left_core o s ws answered s.log_failed is (answered_clients (refused why) ws) (λ was. was) core)
    by_phase free is e = absurd (cc)
    by_phase (led d) is e = absurd (cc)
    by_phase (in_log ws) is e = absurd (cc)
    by_phase (stalled ws) is e = absurd (cc)
    by_phase (marked ws) is e = absurd (cc)
    by_phase (handed d) is e = absurd (cc)
