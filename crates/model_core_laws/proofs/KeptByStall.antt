-- The events `Stall`, `Leave` and `Unstall` keep the core's law.
use Rattle.std.proofs.Common.{◌≡◌, ℕ, ◌+◌, ◌≤◌, ◌==◌, ◌&&◌, Bool, true, false, not, cond, List, [], ◌∷◌, ◌++◌, map, find, Option, Some, None, inl, inr, refl, ap, sym, ◌∙◌, subst, arith}
use Rattle.std.specs.List.{AllByRecursion}
use Rattle.std.proofs.lemmas.Bool.{eqb-true, eqb-false, cond-true, cond-false}
use Rattle.model_base.specs.declared.write.Refusal.{Refusal}
use Rattle.model_base.specs.Calls.{refused}
use Rattle.model_core.specs.Core.{Options, Writer, LogPhase, free, led, built, stalled, in_log, marked, handed, State, leads, is_alone}
use Rattle.model_core.specs.Step.{stall, unstall, leave_queue, leave_with, left_queue, is_no_slowdown}
use Rattle.model_core.specs.CoreLaw.{IsCore, IsSubsequence, HasWork, LedIsFirst, hand, hand_with_runs, group_with_runs, in_order, waiting_clients, writers_in}
use Rattle.model_core_laws.proofs.Clients.{places}
use Rattle.model_core_laws.proofs.Groups.{are_writes}
use Rattle.model_core_laws.proofs.KeptByComplete.{without, found_there, none_without, others_without}
use Rattle.model_core_laws.proofs.KeptByElect.{rephased}
use Rattle.model_core_laws.proofs.KeptByLeaving.{client_of, order_parts}
use Rattle.model_core_laws.proofs.Lists.{all_append, all_front, all_back, all_weaker, all_filtered, and_parts}
use Rattle.model_core_laws.proofs.Tables.{AddsNobody, all_fewer, keeps, subsequence_after, subsequence_both, times, times_cons, there, there_append, waiting_parts, waits_once, when_some}

pub kept_by_stall : (o : Options) (s t : State) (c : ℕ) → IsCore o s → stall s c s.log ≡ Some t → IsCore o t × AddsNobody s t
kept_by_stall o s t c core e = by_phase s.log refl e
  where
    by_phase : (phase : LogPhase) → s.log ≡ phase → stall s c phase ≡ Some t → IsCore o t × AddsNobody s t
    by_phase (built ws) is e = let h = when_some (leads c ws && not (is_alone ws) && not (is_no_slowdown ws)) (record s { log = stalled ws }) t e in
        let writes = are_writes ws (rw is at core.alone) (and_parts _ _ (and_parts _ _ h.0).0).1 in
        subst (λ t. IsCore o t × AddsNobody s t) h.1 (rephased o s (stalled ws) (ap hand is) (ap hand_with_runs is) (ap group_with_runs is) (rw is) tt (λ e. tt) writes core)
    by_phase free is e = absurd (cc)
    by_phase (led d) is e = absurd (cc)
    by_phase (stalled ws) is e = absurd (cc)
    by_phase (in_log ws) is e = absurd (cc)
    by_phase (marked ws) is e = absurd (cc)
    by_phase (handed d) is e = absurd (cc)

pub kept_by_unstall : (o : Options) (s t : State) (c : ℕ) → IsCore o s → unstall s c s.log ≡ Some t → IsCore o t × AddsNobody s t
kept_by_unstall o s t c core e = by_phase s.log refl e
  where
    by_phase : (phase : LogPhase) → s.log ≡ phase → unstall s c phase ≡ Some t → IsCore o t × AddsNobody s t
    by_phase (stalled ws) is e = let h = when_some (leads c ws) (record s { log = built ws }) t e in
        subst (λ t. IsCore o t × AddsNobody s t) h.1 (rephased o s (built ws) (ap hand is) (ap hand_with_runs is) (ap group_with_runs is) (rw is) tt (λ e. tt) (inr (rw is at core.alone)) core)
    by_phase free is e = absurd (cc)
    by_phase (led d) is e = absurd (cc)
    by_phase (built ws) is e = absurd (cc)
    by_phase (in_log ws) is e = absurd (cc)
    by_phase (marked ws) is e = absurd (cc)
    by_phase (handed d) is e = absurd (cc)

-- A writer leaves the queue

pub found_client : (m : ℕ) (ws : List Writer) (w : Writer) → find (λ (x : Writer). x.client == m) ws ≡ Some w → w.client ≡ m
found_client m [] w is = absurd (cc)
found_client m (v ∷ ws) w is = by (v.client == m) refl is (found_client m ws w)
  where
    by : (b : Bool) → (v.client == m) ≡ b → cond b (Some v) (find (λ (x : Writer). x.client == m) ws) ≡ Some w → (find (λ (x : Writer). x.client == m) ws ≡ Some w → w.client ≡ m) → w.client ≡ m
    by true here e later = let f : v ≡ w = cc in ap (λ (x : Writer). x.client) (sym f) ∙ eqb-true v.client m here
    by false here e later = later e

-- the others keep their order
others_in_order : (m : ℕ) (ws : List Writer) → IsSubsequence (map client_of (without m ws)) (map client_of ws)
others_in_order m [] = tt
others_in_order m (w ∷ ws) = by (w.client == m) (others_in_order m ws)
  where
    by : (b : Bool) → IsSubsequence (map client_of (without m ws)) (map client_of ws) → IsSubsequence (map client_of (cond (not b) (w ∷ without m ws) (without m ws))) (map client_of (w ∷ ws))
    by true later = subsequence_after (w.client ∷ []) (map client_of (without m ws)) (map client_of ws) later
    by false later = inl (refl, later)

module _ (o : Options) (s : State) (m : ℕ) (why : Refusal) (w : Writer) (ws : List Writer) (is : s.log ≡ stalled ws) (found : find (λ (x : Writer). x.client == m) s.queue ≡ Some w) (core : IsCore o s) where
  abbrev left : Writer
  left = record w { answer = Some (refused why) }

  abbrev after : State
  after = left_queue s m why w

  -- each client waits as often as before
  as_often : (n : ℕ) → times n (waiting_clients after) ≡ times n (waiting_clients s)
  as_often n = by (m == n) refl
    where
      a : times n (waiting_clients after) ≡ there n (writers_in s.second) + there n (hand s.log) + there n (without m s.queue) + there n (s.leaving ++ left ∷ [])
      a = waiting_parts n after

      b : times n (waiting_clients s) ≡ there n (writers_in s.second) + there n (hand s.log) + there n s.queue + there n s.leaving
      b = waiting_parts n s

      one : there n (left ∷ []) ≡ cond {A = ℕ} (m == n) 1 0 + 0
      one = times_cons n w.client [] ∙ ap (λ k. cond {A = ℕ} (k == n) 1 0 + 0) (found_client m s.queue w found)

      by : (same : Bool) → (m == n) ≡ same → times n (waiting_clients after) ≡ times n (waiting_clients s)
      by true here =
          let same : m ≡ n = eqb-true m n here in
          let d = there_append n s.leaving (left ∷ []) in
          let f : cond {A = ℕ} (m == n) 1 0 ≡ 1 = cond-true {A = ℕ} (m == n) 1 0 here in
          let g : there n (without m s.queue) ≡ 0 = subst (λ k. there k (without m s.queue) ≡ 0) same (none_without m s.queue) in
          let h : 1 ≤ there n s.queue = subst (λ k. 1 ≤ there k s.queue) same (found_there m s.queue w found) in
          let i = waits_once o s n core in
          omega (arith, a, b, d, f, g, h, i, one)
      by false apart =
          let d = there_append n s.leaving (left ∷ []) in
          let f : cond {A = ℕ} (m == n) 1 0 ≡ 0 = cond-false {A = ℕ} (m == n) 1 0 apart in
          let g : there n (without m s.queue) ≡ there n s.queue = others_without m n s.queue (eqb-false m n apart) in
          omega (arith, a, b, d, f, g, one)

  counted : AllByRecursion HasWork (hand s.log ++ without m s.queue)
  counted = all_append _ (hand s.log) (without m s.queue) (all_front _ (hand s.log) s.queue core.counted)
      (all_filtered HasWork (λ (x : Writer). not (x.client == m)) s.queue (all_weaker HasWork (λ (x : Writer). not (x.client == m) ≡ true → HasWork x) (λ x work _. work) s.queue (all_back _ (hand s.log) s.queue core.counted)))

  order : IsSubsequence (in_order after) (in_order s)
  order =
      let before = order_parts s in
      let now : in_order after ≡ (map client_of (writers_in s.second) ++ map client_of (hand s.log)) ++ map client_of (without m s.queue) = order_parts after in
      rw (before, now) (subsequence_both (map client_of (writers_in s.second) ++ map client_of (hand s.log)) (map client_of (without m s.queue)) (map client_of s.queue) (others_in_order m s.queue))

  pub leaving : IsCore o after × AddsNobody s after
  leaving = (
    places o s s.clients (without m s.queue) (s.leaving ++ left ∷ [])
        (λ c client at. as_often c ∙ core.once c client at)
        (all_fewer _ (waiting_clients s) (waiting_clients after) (λ n. let a = as_often n in omega arith) core.clients)
        (subst (λ log. LedIsFirst log (without m s.queue)) (sym is) tt) counted core,
    keeps s after order refl refl,
  )

pub kept_by_leave : (o : Options) (s t : State) (m : ℕ) (why : Refusal) → IsCore o s → leave_queue s m why s.log ≡ Some t → IsCore o t × AddsNobody s t
kept_by_leave o s t m why core e = by_phase s.log refl e
  where
    by_writer : (ws : List Writer) → s.log ≡ stalled ws → (w : Option Writer) → find (λ (x : Writer). x.client == m) s.queue ≡ w → leave_with s m why w ≡ Some t → IsCore o t × AddsNobody s t
    by_writer ws is None found e = absurd (cc)
    by_writer ws is (Some w) found e = let h = when_some w.options.no_slowdown (left_queue s m why w) t e in
        subst (λ t. IsCore o t × AddsNobody s t) h.1 (leaving o s m why w ws is found core)

    by_phase : (phase : LogPhase) → s.log ≡ phase → leave_queue s m why phase ≡ Some t → IsCore o t × AddsNobody s t
    by_phase (stalled ws) is e = by_writer ws is (find (λ (x : Writer). x.client == m) s.queue) refl e
    by_phase free is e = absurd (cc)
    by_phase (led d) is e = absurd (cc)
    by_phase (built ws) is e = absurd (cc)
    by_phase (in_log ws) is e = absurd (cc)
    by_phase (marked ws) is e = absurd (cc)
    by_phase (handed d) is e = absurd (cc)
