-- The answer to a read of the log keeps what holds of the clients' replies.
use Rattle.std.proofs.Common.{◌≡◌, ℕ, ◌==◌, Bool, true, false, if◌then◌else◌, List, [], ◌∷◌, Option, Some, None, refl, ap, sym, ◌∙◌, subst, append-nil, arith}
use Rattle.std.specs.List.{AllByRecursion}
use Rattle.model_base.specs.Calls.{Command, Reply}
use Rattle.model_core.specs.Core.{Options, Writer, LogPhase, free, led, built, stalled, in_log, marked, handed, State, log_groups}
use Rattle.model_core.specs.Step.{read_log, answer_read}
use Rattle.model_core.specs.CoreLaw.{IsCore, hand, writers_in}
use Rattle.model_core_laws.proofs.KeptBySince.{answered, told_of}
use Rattle.model_core_laws.proofs.Lists.{all_weaker}
use Rattle.model_core_laws.proofs.ReadLog.{published_groups}
use Rattle.model_core_laws.proofs.Told.{HasNoAnswer, Told, Waits, Grows, IsAnswer, waits_same, told_without}
use Rattle.model_core_laws.proofs.ToldByLines.{apart, together, becomes}

-- the reader waits with its answer
reader_told : (o : Options) (plans : List (List Command)) (s : State) (w : Writer) (n : ℕ) → w.since ≡ Some n → w.answer ≡ None → Told o plans s → Waits o plans s w → Waits o plans (told_of s w) (answered s w)
reader_told o plans s w n reads none told is =
    let before : IsAnswer o s is.client w None = subst (IsAnswer o s is.client w) none is.answer in
    let groups = published_groups o s told.core in record {
      client = is.client;
      there = is.there;
      batch = is.batch;
      passed = is.passed;
      plain = is.plain;
      asked = is.asked;
      answer = record {
        from = n;
        reads = reads;
        not_below = (told.each w.client is.client is.there).seen_published;
        published = omega arith;
        front = told.core.front;
        is_front = told.core.is_boundary;
        groups = told.core.at_boundary.before;
        in_log = groups.0;
        up_to = groups.1;
        entries = before;
      };
    }

answered_told : (o : Options) (plans : List (List Command)) (s : State) (w : Writer) (n : ℕ) → s.log ≡ built (w ∷ []) → w.since ≡ Some n → w.answer ≡ None → Told o plans s → IsCore o (told_of s w) → Told o plans (told_of s w)
answered_told o plans s w n log reads none told =
    let t = told_of s w in
    let grows : Grows s t = record { new = []; entries = sym (append-nil s.entries); logged = ([], append-nil (log_groups s)); log_failed = λ was. was; last = omega arith } in
    let before = apart (Waits o plans s) (writers_in s.second) (hand s.log) s.queue s.leaving told.waits in
    let hands : AllByRecursion (Waits o plans s) (w ∷ []) = subst (AllByRecursion (Waits o plans s)) (ap hand log) before.at_hand in
    let unanswered : AllByRecursion HasNoAnswer (w ∷ s.queue) = rw log at told.none in
    let same : (us : List Writer) → AllByRecursion (Waits o plans s) us → AllByRecursion (Waits o plans t) us = all_weaker (Waits o plans s) (Waits o plans t) (λ u is. waits_same o plans s t u grows refl refl is) in
    told_without o plans s t grows refl (λ c client there idle. refl) tt
    (together (Waits o plans t) (writers_in s.second) (answered s w ∷ []) s.queue s.leaving (record {
      at_second = same (writers_in s.second) before.at_second;
      at_hand = (reader_told o plans s w n reads none told hands.0, tt);
      at_queue = same s.queue before.at_queue;
      at_leaving = same s.leaving before.at_leaving;
    })) ((λ writes. absurd (let never : Some n ≡ None = sym reads ∙ writes in cc)), unanswered.1) tt told

pub told_by_since : (o : Options) (plans : List (List Command)) (s t : State) (c : ℕ) → Told o plans s → read_log s c s.log ≡ Some t → IsCore o t → Told o plans t
told_by_since o plans s t c told e core = by_phase s.log refl e
  where
    by_answer : (w : Writer) → s.log ≡ built (w ∷ []) → (since : Option ℕ) → w.since ≡ since → (answer : Option Reply) → w.answer ≡ answer → answer_read s w since answer ≡ Some t → Told o plans t
    by_answer w is (Some n) reads None none e = becomes o plans (told_of s w) t (cc) core (answered_told o plans s w n is reads none told)
    by_answer w is (Some n) reads (Some reply) none e = absurd (cc)
    by_answer w is None reads answer none e = absurd (cc)

    by_client : (w : Writer) → s.log ≡ built (w ∷ []) → (b : Bool) → (if b then answer_read s w w.since w.answer else None) ≡ Some t → Told o plans t
    by_client w is true e = by_answer w is w.since refl w.answer refl e
    by_client w is false e = absurd (cc)

    by_phase : (phase : LogPhase) → s.log ≡ phase → read_log s c phase ≡ Some t → Told o plans t
    by_phase (built (w ∷ [])) is e = by_client w is (w.client == c) e
    by_phase (built []) is e = absurd (cc)
    by_phase (built (w ∷ v ∷ ws)) is e = absurd (cc)
    by_phase free is e = absurd (cc)
    by_phase (led d) is e = absurd (cc)
    by_phase (stalled ws) is e = absurd (cc)
    by_phase (in_log ws) is e = absurd (cc)
    by_phase (marked ws) is e = absurd (cc)
    by_phase (handed d) is e = absurd (cc)
