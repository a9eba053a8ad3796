-- Logging a group keeps what holds of the clients' replies.
use Rattle.std.proofs.Common.{◌≡◌, ℕ, ◌+◌, ◌<◌, ◌≤◌, ◌&&◌, not, Bool, true, false, ◌⊎◌, inl, inr, List, [], ◌∷◌, ◌++◌, Option, Some, None, is_some, IsSome, ◌||◌, ◌==◌, refl, ap, sym, ◌∙◌, subst, append_assoc, append-nil, arith}
use mathlib.Core.List.{IsPrefix}
use Rattle.std.specs.Option.{option_map}
use Rattle.std.specs.List.{cons_option, AllByRecursion, AllZip, list_any}
use Rattle.std.proofs.lemmas.List.Elements.{filter-append}
use Rattle.model_base.specs.Batch.{count_of}
use Rattle.model_base.specs.History.{IsHistory, Entry, IsBoundary, last_sequence, max_sequence}
use Rattle.model_base.specs.Progress.{next_entry}
use Rattle.model_base.specs.Outcomes.{entries_of_client}
use Rattle.model_base.specs.Calls.{Command}
use Rattle.model_core.specs.Core.{Options, Writer, Client, LogPhase, free, led, built, stalled, in_log, marked, handed, State, client_at, leads, has_run, is_alone, with_runs, entries_of, entry_of, run_of, log_groups}
use Rattle.model_core.specs.Step.{log_group, logged_group, with_group, is_unlogged}
use Rattle.model_core.specs.CoreLaw.{IsCore, AreWrites, HasWork, hand, writers_in, waiting_clients}
use Rattle.model_core.specs.Replies.{seen_up_to, knows_log_failed, entries_told}
use Rattle.model_core_laws.proofs.Given.{IsGiven, absent, others, own_absent, all_given}
use Rattle.model_core_laws.proofs.Histories.{history_right, history_rises, history_front, last_sequence_append}
use Rattle.model_core_laws.proofs.Groups.{are_writes}
use Rattle.model_core_laws.proofs.KeptByLeaving.{left_of}
use Rattle.model_core_laws.proofs.KeptByLog.{parts_with, parts_cut, parts_sized}
use Rattle.model_core_laws.proofs.KeptByPublish.{member_there}
use Rattle.model_core_laws.proofs.Lists.{all_weaker_at, all_append, all_front, all_back, and_parts}
use Rattle.model_core_laws.proofs.ReadLog.{groups_are}
use Rattle.model_core_laws.proofs.Runs.{Counts, counts_of, runs_history, same_log_flag, all_as_first, logged_of, taken, passed_over}
use Rattle.model_core_laws.proofs.Tables.{times, there, waiting_parts, waits_once, when_some}
use Rattle.model_core_laws.proofs.Told.{HasNoAnswer, IsToldSoFar, Told, Waits, Grows, IsAnswer, own_same, same_client, waits_same, told_without}
use Rattle.model_core_laws.proofs.ToldByLines.{Parts, apart, together, becomes}

own_more : (c : ℕ) (s t : State) (grows : Grows s t) (told new : List Entry) → entries_of_client c s.entries ≡ told → entries_of_client c grows.new ≡ new → entries_of_client c t.entries ≡ told ++ new
own_more c s t grows told new e f = ap (entries_of_client c) grows.entries ∙ (filter-append (λ (e : Entry). e.client == c) s.entries grows.new ∙ rw (e, f) refl)

-- the published sequence isn't above the one that was given last
published_below : (o : Options) (s : State) → IsCore o s → s.last ≤ s.assigned
published_below o s core =
    let b = core.is_boundary in
    let past : IsHistory (last_sequence o.start core.front) b.rest = history_right o.start core.front b.rest (subst (IsHistory o.start) b.split core.is_history) in
    let rises = history_rises (last_sequence o.start core.front) b.rest past in let ends = b.ends in
    let all : s.assigned ≡ last_sequence (last_sequence o.start core.front) b.rest = core.assigned ∙ (ap (last_sequence o.start) b.split ∙ last_sequence_append o.start core.front b.rest) in omega arith

-- a state whose log hasn't failed, and the entries that the group adds there
record Logs (o : Options) (plans : List (List Command)) (s : State) (new : List Entry) : Type 0 where
  told : Told o plans s
  alive : s.log_failed ≡ false
  history : IsHistory s.assigned new

not_true : (b : Bool) → (b ≡ true → ⊥) → b ≡ false
not_true true never = absurd (never refl)
not_true false never = refl

-- a member of the group, with its answer
given_waits : (o : Options) (plans : List (List Command)) (s t : State) (grows : Grows s t) → t.clients ≡ s.clients → Logs o plans s grows.new → (w v : Writer)
    → IsGiven s s.assigned grows.new w v → w.since ≡ None → w.answer ≡ None → Waits o plans s w → Waits o plans t v
given_waits o plans s t grows clients logs w v given writes none is = by given.as_given
  where
    before : entries_of_client w.client s.entries ≡ entries_told w.client is.client.calls
    before = subst (IsAnswer o s is.client w) none is.answer

    boundary : IsBoundary o.start t.entries given.last
    boundary = let b = given.boundary in (
      s.entries ++ b.0,
      record {
        rest = b.1.rest;
        split = grows.entries ∙ (ap (λ es. s.entries ++ es) b.1.split ∙ sym (append_assoc s.entries b.0 b.1.rest));
        ends = b.1.ends ∙ (ap (λ n. last_sequence n b.0) logs.told.core.assigned ∙ sym (last_sequence_append o.start s.entries b.0));
      },
    )

    told_so_far : IsToldSoFar o plans s w.client is.client
    told_so_far = logs.told.each w.client is.client is.there

    alive : knows_log_failed is.client.calls ≡ false
    alive = not_true (knows_log_failed is.client.calls) (λ knows. let log_failed = told_so_far.log_failed knows in let alive = logs.alive in cc)

    seen_below : seen_up_to is.client.calls ≤ given.last
    seen_below =
        let b = given.boundary in let rises = history_rises s.assigned b.0 (history_front s.assigned b.0 b.1.rest (subst (IsHistory s.assigned) b.1.split logs.history)) in
        let ends = b.1.ends in let below = published_below o s logs.told.core in let seen = told_so_far.seen_published in omega arith

    same_entry : (told : List Entry) → entries_of_client w.client s.entries ≡ told → entry_of s w (given.last + 1) ≡ next_entry w.client told w.options (given.last + 1) w.records
    same_entry told e = ap (λ mine. next_entry w.client mine w.options (given.last + 1) w.records) e

    waits : (u : Writer) → u.client ≡ w.client → u.options ≡ w.options → u.records ≡ w.records → u.since ≡ w.since → IsAnswer o t is.client u u.answer → Waits o plans t u
    waits u e f g k answer = record {
      client = is.client;
      there = rw e (same_client s t clients w.client ∙ is.there);
      batch = λ writes. g ∙ is.batch (sym k ∙ writes);
      passed = λ writes. rw (f, g) (is.passed (sym k ∙ writes));
      plain = λ n reads. f ∙ is.plain n (sym k ∙ reads);
      asked = rw (e, f, k) is.asked;
      answer = answer;
    }

    by : ((v ≡ taken given.last w) × (entries_of_client w.client grows.new ≡ entry_of s w (given.last + 1) ∷ [])) ⊎ ((v ≡ passed_over given.last w) × (max_sequence < given.last + count_of w.records) × (entries_of_client w.client grows.new ≡ []))
        → Waits o plans t v
    by (inl g) = subst (Waits o plans t) (sym g.0) (waits (taken given.last w) refl refl refl refl (
      refl,
      omega arith,
      own_more w.client s t grows (entries_told w.client is.client.calls) (entry_of s w (given.last + 1) ∷ []) before g.1
          ∙ ap (λ x. entries_told w.client is.client.calls ++ x ∷ []) (same_entry (entries_told w.client is.client.calls) before),
      alive,
      writes,
    ))
    by (inr g) = subst (Waits o plans t) (sym g.0) (waits (passed_over given.last w) refl refl refl refl
        ((alive, seen_below, boundary, subst (λ records. max_sequence < given.last + count_of records) (is.batch writes) g.1), own_same w.client s t grows g.2 ∙ before, writes))

all_given_wait : (o : Options) (plans : List (List Command)) (s t : State) (grows : Grows s t) → t.clients ≡ s.clients → Logs o plans s grows.new → (ws vs : List Writer)
    → AllZip (IsGiven s s.assigned grows.new) ws vs → AreWrites ws → AllByRecursion HasNoAnswer ws → AllByRecursion (Waits o plans s) ws → AllByRecursion (Waits o plans t) vs
all_given_wait o plans s t grows clients logs [] [] given writes none is = tt
all_given_wait o plans s t grows clients logs [] (v ∷ vs) given writes none is = absurd given
all_given_wait o plans s t grows clients logs (w ∷ ws) [] given writes none is = absurd given
all_given_wait o plans s t grows clients logs (w ∷ ws) (v ∷ vs) given writes none is =
    (given_waits o plans s t grows clients logs w v given.0 writes.0 (none.0 writes.0) is.0, all_given_wait o plans s t grows clients logs ws vs given.1 writes.1 none.1 is.1)

-- the writers that wait elsewhere are of other clients
elsewhere : (o : Options) (plans : List (List Command)) (s t : State) (ws us : List Writer) (grows : Grows s t) → t.clients ≡ s.clients → grows.new ≡ entries_of s (with_runs s.assigned ws)
    → ((c : ℕ) → there c us + there c ws ≤ 1) → AllByRecursion (Waits o plans s) us → AllByRecursion (Waits o plans t) us
elsewhere o plans s t ws us grows clients new once = all_weaker_at (Waits o plans s) (Waits o plans t) us (λ u at is.
    let here = member_there us u at in let both = once u.client in
    waits_same o plans s t u grows clients (ap (entries_of_client u.client) new ∙ own_absent s u.client s.assigned ws (absent u.client ws (omega arith))) is)

-- after the runs were given the members wait with their answers, and the others as before
logged : (o : Options) (plans : List (List Command)) (s t : State) (ws : List Writer) (grows : Grows s t) → t.clients ≡ s.clients → s.log ≡ built ws → grows.new ≡ entries_of s (with_runs s.assigned ws)
    → s.log_failed ≡ false → AreWrites ws → Told o plans s → Parts (Waits o plans t) (writers_in s.second) (with_runs s.assigned ws) s.queue s.leaving
logged o plans s t ws grows clients log new alive writes told =
    let before = apart (Waits o plans s) (writers_in s.second) (hand s.log) s.queue s.leaving told.waits in
    let hands : AllByRecursion (Waits o plans s) ws = subst (AllByRecursion (Waits o plans s)) (ap hand log) before.at_hand in
    let none : AllByRecursion HasNoAnswer (ws ++ s.queue) = rw log at told.none in
    let once : (c : ℕ) → there c (writers_in s.second) + there c ws + there c s.queue + there c s.leaving ≤ 1 = λ c.
    (let a = waiting_parts c s in let b = waits_once o s c told.core in let e : there c (hand s.log) ≡ there c ws = ap (λ phase. there c (hand phase)) log in omega arith) in
    let work : AllByRecursion HasWork (ws ++ s.queue) = rw log at told.core.counted in
    let counted : AllByRecursion Counts ws = counts_of ws writes (all_front HasWork ws s.queue work) in
    let logs : Logs o plans s grows.new = record {
      told = told;
      alive = alive;
      history = subst (IsHistory s.assigned) (sym new) (runs_history s s.assigned ws counted);
    } in
    let given = all_given s s.assigned ws (others ws (λ c. let a = once c in omega arith)) in
    record {
      at_second = elsewhere o plans s t ws (writers_in s.second) grows clients new (λ c. let a = once c in omega arith) before.at_second;
      at_hand = all_given_wait o plans s t grows clients logs ws (with_runs s.assigned ws) (subst (λ xs. AllZip (IsGiven s s.assigned xs) ws (with_runs s.assigned ws)) (sym new) given) writes (all_front _ ws s.queue none) hands;
      at_queue = elsewhere o plans s t ws s.queue grows clients new (λ c. let a = once c in omega arith) before.at_queue;
      at_leaving = elsewhere o plans s t ws s.leaving grows clients new (λ c. let a = once c in omega arith) before.at_leaving;
    }

-- an idle client has no member in the group
idle_same : (o : Options) (s : State) (ws : List Writer) → s.log ≡ built ws → IsCore o s → (c : ℕ) (client : Client) → client_at s c ≡ Some client → client.idle ≡ true
    → entries_of_client c (entries_of s (with_runs s.assigned ws)) ≡ []
idle_same o s ws log core c client is idle = own_absent s c s.assigned ws (absent c ws
    (let a = waiting_parts c s in let b : times c (waiting_clients s) ≡ 0 = core.once c client is ∙ rw idle refl in let e : there c (hand s.log) ≡ there c ws = ap (λ phase. there c (hand phase)) log in omega arith))

-- the new entries are of clients that are there
of_members : (o : Options) (plans : List (List Command)) (s t : State) (ws : List Writer) → AllByRecursion (Waits o plans t) ws → AllByRecursion (λ (x : Entry). IsSome (client_at t x.client)) (entries_of s ws)
of_members o plans s t [] is = tt
of_members o plans s t (w ∷ ws) is = by_answer (run_of w.answer) (of_members o plans s t ws is.1)
  where
    by_answer : (run : Option ℕ) → AllByRecursion (λ (x : Entry). IsSome (client_at t x.client)) (entries_of s ws) → AllByRecursion (λ (x : Entry). IsSome (client_at t x.client)) (cons_option (option_map (entry_of s w) run) (entries_of s ws))
    by_answer None more = more
    by_answer (Some first) more = (ap is_some is.0.there, more)

none_given : (s : State) (ws : List Writer) → list_any has_run ws ≡ false → entries_of s ws ≡ []
none_given s [] none = refl
none_given s (w ∷ ws) none = by_answer (run_of w.answer) none (none_given s ws)
  where
    by_answer : (run : Option ℕ) → (is_some run || list_any has_run ws) ≡ false → (list_any has_run ws ≡ false → entries_of s ws ≡ []) → cons_option (option_map (entry_of s w) run) (entries_of s ws) ≡ []
    by_answer None none more = more none
    by_answer (Some first) none more = absurd (cc)

not_not : (b : Bool) → not b ≡ true → b ≡ false
not_not false e = refl
not_not true e = absurd (cc)

-- the log's groups so far, after one more
logged_more : (s : State) (ws : List Writer) (o : Options) → s.log ≡ built ws → (core : IsCore o s) → IsPrefix (log_groups s) (log_groups (with_group s (with_runs s.assigned ws) (entries_of s (with_runs s.assigned ws))))
logged_more s ws o log core =
    let vs = with_runs s.assigned ws in let xs = entries_of s vs in let b = is_unlogged vs in
    let flag = same_log_flag s.assigned ws (rw log at core.one_log_flag) in
    let before = groups_are s core.parts core.cut core.groups in
    let after = groups_are (with_group s vs xs) (parts_with b core.parts xs) (parts_cut b s.entries xs core.parts core.cut (logged_of s b vs (all_as_first vs flag))) (parts_sized b s.groups xs core.parts core.groups) in
    subst (λ gs. IsPrefix gs (log_groups (with_group s vs xs))) (sym before) (subst (IsPrefix core.parts) (sym after) (one_more b))
  where
    one_more : (b : Bool) → IsPrefix core.parts (parts_with b core.parts (entries_of s (with_runs s.assigned ws)))
    one_more true = ([], append-nil core.parts)
    one_more false = (entries_of s (with_runs s.assigned ws) ∷ [], refl)

pub told_by_log : (o : Options) (plans : List (List Command)) (s t : State) (c : ℕ) → Told o plans s → log_group s c s.log ≡ Some t → IsCore o t → Told o plans t
told_by_log o plans s t c told e core = by_phase s.log refl e
  where
    grouped : (ws : List Writer) → AreWrites ws → s.log_failed ≡ false → s.log ≡ built ws → IsCore o (with_group s (with_runs s.assigned ws) (entries_of s (with_runs s.assigned ws))) → Told o plans (with_group s (with_runs s.assigned ws) (entries_of s (with_runs s.assigned ws)))
    grouped ws writes alive log = let vs = with_runs s.assigned ws in let u : State = with_group s vs (entries_of s vs) in
        let grows : Grows s u = record { new = entries_of s vs; entries = refl; logged = logged_more s ws o log told.core; log_failed = λ was. was; last = omega arith } in
        let parts = logged o plans s u ws grows refl log refl alive writes told in
        told_without o plans s u grows refl (λ c client is idle. idle_same o s ws log told.core c client is idle) (of_members o plans s u vs parts.at_hand)
        (together (Waits o plans u) (writers_in s.second) vs s.queue s.leaving parts)
        (all_back HasNoAnswer ws s.queue (rw log at told.none)) tt told

    left : (ws : List Writer) → AreWrites ws → s.log_failed ≡ false → s.log ≡ built ws → list_any has_run (with_runs s.assigned ws) ≡ false → IsCore o (left_of s (with_runs s.assigned ws) s.log_failed) → Told o plans (left_of s (with_runs s.assigned ws) s.log_failed)
    left ws writes alive log none = let vs = with_runs s.assigned ws in let u : State = left_of s vs s.log_failed in
        let grows : Grows s u = record { new = entries_of s vs; entries = sym (ap (λ xs. s.entries ++ xs) (none_given s vs none) ∙ append-nil s.entries); logged = ([], append-nil (log_groups s)); log_failed = λ was. was; last = omega arith } in
        let parts = logged o plans s u ws grows refl log refl alive writes told in
        told_without o plans s u grows refl (λ c client is idle. idle_same o s ws log told.core c client is idle) (of_members o plans s u vs parts.at_hand)
        (together (Waits o plans u) (writers_in s.second) [] s.queue (s.leaving ++ vs)
        (record { at_second = parts.at_second; at_hand = tt; at_queue = parts.at_queue; at_leaving = all_append (Waits o plans u) s.leaving vs parts.at_leaving parts.at_hand }))
        (all_back HasNoAnswer ws s.queue (rw log at told.none)) tt told

    by_runs : (ws : List Writer) (b : Bool) → AreWrites ws → s.log_failed ≡ false → s.log ≡ built ws → list_any has_run (with_runs s.assigned ws) ≡ b → IsCore o (logged_group s (with_runs s.assigned ws)) → Told o plans (logged_group s (with_runs s.assigned ws))
    by_runs ws true writes alive is some = rw some (grouped ws writes alive is)
    by_runs ws false writes alive is none = rw none (left ws writes alive is none)

    by_phase : (phase : LogPhase) → s.log ≡ phase → log_group s c phase ≡ Some t → Told o plans t
    by_phase (built ws) is e = let u = logged_group s (with_runs s.assigned ws) in let h = when_some (leads c ws && not (is_alone ws) && not s.log_failed) u t e in
        let parts = and_parts (leads c ws && not (is_alone ws)) (not s.log_failed) h.0 in
        let writes = are_writes ws (rw is at told.core.alone) (and_parts (leads c ws) (not (is_alone ws)) parts.0).1 in
        becomes o plans u t h.1 core (by_runs ws (list_any has_run (with_runs s.assigned ws)) writes (not_not s.log_failed parts.1) is refl)
    by_phase free is e = absurd (cc)
    by_phase (led d) is e = absurd (cc)
    by_phase (in_log ws) is e = absurd (cc)
    by_phase (stalled ws) is e = absurd (cc)
    by_phase (marked ws) is e = absurd (cc)
    by_phase (handed d) is e = absurd (cc)
