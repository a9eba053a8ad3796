-- A fault and a refusal keep what holds of the clients' replies.
use Rattle.std.proofs.Common.{◌≡◌, ℕ, ◌&&◌, not, Bool, true, List, [], ◌∷◌, ◌++◌, Some, None, refl, ap, sym, ◌∙◌, subst, append-nil, arith}
use Rattle.std.specs.List.{AllByRecursion}
use Rattle.model_base.specs.declared.write.Refusal.{Refusal}
use Rattle.model_base.specs.declared.write.Refusal.TheVariants as no
use Rattle.model_base.specs.Calls.{Command, refused, Call}
use Rattle.model_core.specs.Core.{Options, Writer, LogPhase, free, led, built, stalled, in_log, marked, handed, State, leads, is_alone, all_answered, log_groups}
use Rattle.model_core.specs.Step.{fault, refuse, is_no_slowdown}
use Rattle.model_core.specs.CoreLaw.{IsCore, AreWrites, hand, writers_in}
use Rattle.model_core.specs.Replies.{MayRefuse}
use Rattle.model_core_laws.proofs.Groups.{SameSlowdown, are_writes}
use Rattle.model_core_laws.proofs.KeptByLeaving.{left_of}
use Rattle.model_core_laws.proofs.Lists.{all_append, all_front, all_back, all_of, all_weaker, and_parts}
use Rattle.model_core_laws.proofs.Tables.{when_some}
use Rattle.model_core_laws.proofs.Told.{HasNoAnswer, Told, Waits, Grows, IsAnswer, own_same, same_client, waits_same, slow_writes, told_without}
use Rattle.model_core_laws.proofs.ToldByLines.{apart, together, becomes}

pub refused_waits : (o : Options) (plans : List (List Command)) (s t : State) (grows : Grows s t) → t.clients ≡ s.clients → grows.new ≡ [] → (why : Refusal) (w : Writer)
    → ((calls : List Call) → MayRefuse o t calls w.options why) → w.since ≡ None → w.answer ≡ None → Waits o plans s w → Waits o plans t (record w { answer = Some (refused why) })
refused_waits o plans s t grows clients nothing why w may writes none is =
    let before : IsAnswer o s is.client w None = subst (IsAnswer o s is.client w) none is.answer in record {
      client = is.client;
      there = same_client s t clients w.client ∙ is.there;
      batch = is.batch;
      passed = is.passed;
      plain = is.plain;
      asked = is.asked;
      answer = (may is.client.calls, own_same w.client s t grows (rw nothing refl) ∙ before, writes);
    }

all_refused : (o : Options) (plans : List (List Command)) (s t : State) (grows : Grows s t) → t.clients ≡ s.clients → grows.new ≡ [] → (why : Refusal) (ws : List Writer)
    → AllByRecursion (λ (w : Writer). (calls : List Call) → MayRefuse o t calls w.options why) ws → AreWrites ws → AllByRecursion HasNoAnswer ws → AllByRecursion (Waits o plans s) ws
    → AllByRecursion (Waits o plans t) (all_answered (refused why) ws)
all_refused o plans s t grows clients nothing why [] may writes none is = tt
all_refused o plans s t grows clients nothing why (w ∷ ws) may writes none is =
    (refused_waits o plans s t grows clients nothing why w may.0 writes.0 (none.0 writes.0) is.0, all_refused o plans s t grows clients nothing why ws may.1 writes.1 none.1 is.1)

told_left : (o : Options) (plans : List (List Command)) (s : State) (ws : List Writer) (log_failed : Bool) (why : Refusal) → s.log ≡ built ws → (s.log_failed ≡ true → log_failed ≡ true)
    → AllByRecursion (λ (w : Writer). (calls : List Call) → MayRefuse o (left_of s (all_answered (refused why) ws) log_failed) calls w.options why) ws → AreWrites ws
    → Told o plans s → IsCore o (left_of s (all_answered (refused why) ws) log_failed) → Told o plans (left_of s (all_answered (refused why) ws) log_failed)
told_left o plans s ws log_failed why log dies may writes told =
    let vs = all_answered (refused why) ws in let t : State = left_of s vs log_failed in
    let grows : Grows s t = record { new = []; entries = sym (append-nil s.entries); logged = ([], append-nil (log_groups s)); log_failed = dies; last = omega arith } in
    let before = apart (Waits o plans s) (writers_in s.second) (hand s.log) s.queue s.leaving told.waits in
    let hands : AllByRecursion (Waits o plans s) ws = subst (AllByRecursion (Waits o plans s)) (ap hand log) before.at_hand in
    let none : AllByRecursion HasNoAnswer (ws ++ s.queue) = rw log at told.none in
    let same : (us : List Writer) → AllByRecursion (Waits o plans s) us → AllByRecursion (Waits o plans t) us = all_weaker (Waits o plans s) (Waits o plans t) (λ w is. waits_same o plans s t w grows refl refl is) in
    told_without o plans s t grows refl (λ c client there idle. refl) tt
    (together (Waits o plans t) (writers_in s.second) [] s.queue (s.leaving ++ vs) (record {
      at_second = same (writers_in s.second) before.at_second;
      at_hand = tt;
      at_queue = same s.queue before.at_queue;
      at_leaving = all_append (Waits o plans t) s.leaving vs (same s.leaving before.at_leaving) (all_refused o plans s t grows refl refl why ws may writes (all_front _ ws s.queue none) hands);
    })) (all_back _ ws s.queue none) tt told

pub told_by_fault : (o : Options) (plans : List (List Command)) (s t : State) (c : ℕ) → Told o plans s → fault s c s.log ≡ Some t → IsCore o t → Told o plans t
told_by_fault o plans s t c told e core = by_phase s.log refl e
  where
    by_phase : (phase : LogPhase) → s.log ≡ phase → fault s c phase ≡ Some t → Told o plans t
    by_phase (built ws) is e = let u : State = left_of s (all_answered (refused (no.LogFault 1)) ws) true in let h = when_some (leads c ws && not (is_alone ws)) u t e in
        let writes = are_writes ws (rw is at told.core.alone) (and_parts (leads c ws) (not (is_alone ws)) h.0).1 in
        becomes o plans u t h.1 core (told_left o plans s ws true (no.LogFault 1) is (λ was. refl) (all_of (λ (w : Writer). (calls : List Call) → MayRefuse o u calls w.options (no.LogFault 1)) (λ w calls. (refl, refl)) ws) writes told)
    by_phase free is e = absurd (cc)
    by_phase (led d) is e = absurd (cc)
    by_phase (in_log ws) is e = absurd (cc)
    by_phase (stalled ws) is e = absurd (cc)
    by_phase (marked ws) is e = absurd (cc)
    by_phase (handed d) is e = absurd (cc)

none_slowed : (ws : List Writer) → SameSlowdown ws → is_no_slowdown ws ≡ true → AllByRecursion (λ (w : Writer). w.options.no_slowdown ≡ true) ws
none_slowed [] same first = tt
none_slowed (w ∷ ws) same first = (first, all_weaker (λ (v : Writer). v.options.no_slowdown ≡ w.options.no_slowdown) (λ (v : Writer). v.options.no_slowdown ≡ true) (λ v e. e ∙ first) ws same)

all_slow : (o : Options) (plans : List (List Command)) (s : State) (ws : List Writer) → AllByRecursion (Waits o plans s) ws → AllByRecursion (λ (w : Writer). w.options.no_slowdown ≡ true) ws → AreWrites ws
all_slow o plans s [] waits slow = tt
all_slow o plans s (w ∷ ws) waits slow = (slow_writes o plans s w waits.0 slow.0, all_slow o plans s ws waits.1 slow.1)

pub told_by_refuse : (o : Options) (plans : List (List Command)) (s t : State) (c stops delays wait : ℕ) → Told o plans s → refuse s c (no.Incomplete stops delays wait) s.log ≡ Some t → IsCore o t → Told o plans t
told_by_refuse o plans s t c stops delays wait told e core = by_phase s.log refl e
  where
    by_phase : (phase : LogPhase) → s.log ≡ phase → refuse s c (no.Incomplete stops delays wait) phase ≡ Some t → Told o plans t
    by_phase (built ws) is e = let u : State = left_of s (all_answered (refused (no.Incomplete stops delays wait)) ws) s.log_failed in let h = when_some (leads c ws && is_no_slowdown ws) u t e in
        let kind : SameSlowdown ws = rw is at told.one_kind in
        let slow = none_slowed ws kind (and_parts (leads c ws) (is_no_slowdown ws) h.0).1 in
        let waits : AllByRecursion (Waits o plans s) ws = subst (AllByRecursion (Waits o plans s)) (ap hand is) (apart (Waits o plans s) (writers_in s.second) (hand s.log) s.queue s.leaving told.waits).at_hand in
        becomes o plans u t h.1 core (told_left o plans s ws s.log_failed (no.Incomplete stops delays wait) is (λ was. was) (all_weaker (λ (w : Writer). w.options.no_slowdown ≡ true) (λ (w : Writer). (calls : List Call) → MayRefuse o u calls w.options (no.Incomplete stops delays wait)) (λ w slow calls. slow) ws
        slow) (all_slow o plans s ws waits slow) told)
    by_phase free is e = absurd (cc)
    by_phase (led d) is e = absurd (cc)
    by_phase (in_log ws) is e = absurd (cc)
    by_phase (stalled ws) is e = absurd (cc)
    by_phase (marked ws) is e = absurd (cc)
    by_phase (handed d) is e = absurd (cc)
