-- The events `Stall`, `Leave` and `Unstall` keep what holds of the clients' replies.
use Rattle.std.proofs.Common.{◌≡◌, ℕ, ◌==◌, ◌&&◌, true, not, List, [], ◌∷◌, ◌++◌, find, Option, Some, None, refl, sym, subst, append-nil, arith}
use Rattle.std.specs.List.{AllByRecursion}
use Rattle.model_base.specs.Calls.{Command, refused}
use Rattle.model_core.specs.Core.{Options, Writer, LogPhase, free, led, built, stalled, in_log, marked, handed, State, leads, is_alone, stall_refusal, log_groups}
use Rattle.model_core.specs.Step.{stall, unstall, leave_queue, leave_with, left_queue, is_no_slowdown}
use Rattle.model_core.specs.CoreLaw.{IsCore, hand, writers_in}
use Rattle.model_core_laws.proofs.KeptByComplete.{without}
use Rattle.model_core_laws.proofs.Lists.{all_append, all_front, all_weaker, all_filtered}
use Rattle.model_core_laws.proofs.Tables.{when_some}
use Rattle.model_core_laws.proofs.Told.{HasNoAnswer, Told, Waits, Grows, waits_same, slow_writes, told_without, told_lines, unanswered}
use Rattle.model_core_laws.proofs.ToldByComplete.{found_is}
use Rattle.model_core_laws.proofs.ToldByLeaving.{refused_waits}
use Rattle.model_core_laws.proofs.ToldByLines.{apart, together, becomes, queue_unanswered}

pub told_by_stall : (o : Options) (plans : List (List Command)) (s t : State) (c : ℕ) → Told o plans s → stall s c s.log ≡ Some t → IsCore o t → Told o plans t
told_by_stall o plans s t c told e core = by_phase s.log refl e
  where
    by_phase : (phase : LogPhase) → s.log ≡ phase → stall s c phase ≡ Some t → Told o plans t
    by_phase (built ws) is e = let u : State = record s { log = stalled ws } in let h = when_some (leads c ws && not (is_alone ws) && not (is_no_slowdown ws)) u t e in
        becomes o plans u t h.1 core (told_lines o plans s u refl refl refl refl (omega arith) (λ P a. rw is at a) (rw is at told.none) (rw is at told.one_kind) told)
    by_phase free is e = absurd (cc)
    by_phase (led d) is e = absurd (cc)
    by_phase (stalled ws) is e = absurd (cc)
    by_phase (in_log ws) is e = absurd (cc)
    by_phase (marked ws) is e = absurd (cc)
    by_phase (handed d) is e = absurd (cc)

pub told_by_unstall : (o : Options) (plans : List (List Command)) (s t : State) (c : ℕ) → Told o plans s → unstall s c s.log ≡ Some t → IsCore o t → Told o plans t
told_by_unstall o plans s t c told e core = by_phase s.log refl e
  where
    by_phase : (phase : LogPhase) → s.log ≡ phase → unstall s c phase ≡ Some t → Told o plans t
    by_phase (stalled ws) is e = let u : State = record s { log = built ws } in let h = when_some (leads c ws) u t e in
        becomes o plans u t h.1 core (told_lines o plans s u refl refl refl refl (omega arith) (λ P a. rw is at a) (rw is at told.none) (rw is at told.one_kind) told)
    by_phase free is e = absurd (cc)
    by_phase (led d) is e = absurd (cc)
    by_phase (built ws) is e = absurd (cc)
    by_phase (in_log ws) is e = absurd (cc)
    by_phase (marked ws) is e = absurd (cc)
    by_phase (handed d) is e = absurd (cc)

-- what holds of all holds of all but one
others_too : (P : Writer → Type 0) (m : ℕ) (ws : List Writer) → AllByRecursion P ws → AllByRecursion P (without m ws)
others_too P m ws all = all_filtered P (λ (x : Writer). not (x.client == m)) ws (all_weaker P (λ (x : Writer). not (x.client == m) ≡ true → P x) (λ x is _. is) ws all)

told_leaves : (o : Options) (plans : List (List Command)) (s : State) (m stops delays : ℕ) (w : Writer) (ws : List Writer) → s.log ≡ stalled ws → find (λ (x : Writer). x.client == m) s.queue ≡ Some w → w.options.no_slowdown ≡ true
    → Told o plans s → IsCore o (left_queue s m (stall_refusal stops delays) w) → Told o plans (left_queue s m (stall_refusal stops delays) w)
told_leaves o plans s m stops delays w ws is found slow told =
    let why = stall_refusal stops delays in let t : State = left_queue s m why w in
    let grows : Grows s t = record { new = []; entries = sym (append-nil s.entries); logged = ([], append-nil (log_groups s)); log_failed = λ was. was; last = omega arith } in
    let before = apart (Waits o plans s) (writers_in s.second) (hand s.log) s.queue s.leaving told.waits in
    let none : AllByRecursion HasNoAnswer s.queue = queue_unanswered HasNoAnswer s.log s.queue told.none in
    let its = found_is m s.queue w found in
    let same : (us : List Writer) → AllByRecursion (Waits o plans s) us → AllByRecursion (Waits o plans t) us = all_weaker (Waits o plans s) (Waits o plans t) (λ x is. waits_same o plans s t x grows refl refl is) in
    let left : Waits o plans t (record w { answer = Some (refused why) }) = refused_waits o plans s t grows refl refl why w (λ calls. slow) (slow_writes o plans s w (its.1 (Waits o plans s) before.at_queue) slow) (its.1 HasNoAnswer none (slow_writes o plans s w (its.1 (Waits o plans s) before.at_queue) slow)) (its.1 (Waits o plans s) before.at_queue) in
    let group : AllByRecursion HasNoAnswer (ws ++ s.queue) = rw is at told.none in
    told_without o plans s t grows refl (λ c client there idle. refl) tt
    (together (Waits o plans t) (writers_in s.second) (hand s.log) (without m s.queue) (s.leaving ++ record w { answer = Some (refused why) } ∷ []) (record {
      at_second = same (writers_in s.second) before.at_second;
      at_hand = same (hand s.log) before.at_hand;
      at_queue = same (without m s.queue) (others_too (Waits o plans s) m s.queue before.at_queue);
      at_leaving = all_append (Waits o plans t) s.leaving (record w { answer = Some (refused why) } ∷ []) (same s.leaving before.at_leaving) (left, tt);
    }))
    (subst (λ log. AllByRecursion HasNoAnswer (unanswered log (without m s.queue))) (sym is)
    (all_append HasNoAnswer ws (without m s.queue) (all_front _ ws s.queue group) (others_too HasNoAnswer m s.queue none)))
    told.one_kind told

pub told_by_leave : (o : Options) (plans : List (List Command)) (s t : State) (m stops delays : ℕ) → Told o plans s → leave_queue s m (stall_refusal stops delays) s.log ≡ Some t → IsCore o t → Told o plans t
told_by_leave o plans s t m stops delays told e core = by_phase s.log refl e
  where
    by_writer : (ws : List Writer) → s.log ≡ stalled ws → (w : Option Writer) → find (λ (x : Writer). x.client == m) s.queue ≡ w → leave_with s m (stall_refusal stops delays) w ≡ Some t → Told o plans t
    by_writer ws is None found e = absurd (cc)
    by_writer ws is (Some w) found e = let u : State = left_queue s m (stall_refusal stops delays) w in let h = when_some w.options.no_slowdown u t e in
        becomes o plans u t h.1 core (told_leaves o plans s m stops delays w ws is found h.0 told)

    by_phase : (phase : LogPhase) → s.log ≡ phase → leave_queue s m (stall_refusal stops delays) phase ≡ Some t → Told o plans t
    by_phase (stalled ws) is e = by_writer ws is (find (λ (x : Writer). x.client == m) s.queue) refl e
    by_phase free is e = absurd (cc)
    by_phase (led d) is e = absurd (cc)
    by_phase (built ws) is e = absurd (cc)
    by_phase (in_log ws) is e = absurd (cc)
    by_phase (marked ws) is e = absurd (cc)
    by_phase (handed d) is e = absurd (cc)
