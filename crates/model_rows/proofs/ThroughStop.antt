-- A commit was written while another client stopped writes, as its reads in that stop show.
use Rattle.std.proofs.Common.{◌≡◌, ◌⊎◌, ℕ, zero, suc, ◌+◌, ◌<◌, ◌≤◌, max, nat_lt, Bool, true, false, IsTrue, cond, ◌==◌, ◌&&◌, Option, None, Some, List, [], ◌∷◌, ◌++◌, map, take, slice_get, refl, sym, arith, ap, ◌∙◌, subst, inl, inr, append_assoc, append-nil}
use Rattle.std.specs.Prelude.{codes}
use Rattle.std.specs.List.{AllByRecursion}
use Rattle.std.proofs.lemmas.Bool.Decides.{nat_tests}
use Rattle.model_base.specs.Varint.{varint_within}
use Rattle.model_base.specs.declared.write.Refusal.TheVariants as no
use Rattle.model_base.specs.declared.write.WriteOptions.{WriteOptions}
use Rattle.model_base.specs.Batch.{Record}
use Rattle.model_base.specs.Calls.{Command, found, refused, done, Outcome}
use Rattle.model_base.specs.Controller as controller
use Rattle.model_base.specs.Controller.{ControllerCall, Action, Numbers, Look, opening, numbers_after, IsHistoryFrom}
use Rattle.model_base.specs.Tokens.{is_token, tokens_of, given_back, holds_stop, shown_by_token, shown_by_tokens, said_in, AreHeard}
use Rattle.model_base.specs.Trace.{Trace}
use Rattle.model_base.specs.Attempts.{Attempt, succeeded, Fate, with_attempt}
use Rattle.model_base.specs.Progress.{Progress, fresh, early_refusal}
use Rattle.model_base.specs.Replies.{Gets, Stops}
use Rattle.model_base.specs.Runs.{Run}
use Rattle.model_base.specs.Outcomes.{IsClient, IsLegal}
use Rattle.model_base.proofs.Shown.{shown_at_least, shown_from_more, shown_in_fewer, said_in_fewer}
use Rattle.model_rows.specs.Examples.{put_a1, put_a2, put_b2, plain, noslow, key_a}
use Rattle.model_rows.specs.Runs.{two_clients}
use Rattle.model_rows.specs.Ignored.{through_script, through_calls, watching_calls, kept_script, written_through_a_stop, written_through_a_kept_stop, blind_script, stopped_at_last_calls, blind_calls, blind_in_its_own_stop}
use Rattle.model_rows.proofs.Alone.{some_same}
use Rattle.model_rows.proofs.OthersStop.{one_if_stop, stops_among, stops_in, AreNamed, of_client, of_both, all_taken, one_more, taken_between, reported, delay_keeps, slow_keeps, SawFree, IsToldIn, told_in_call, WasLetOn, let_on, wider}
use Rattle.model_rows.proofs.Steps.{run_of, is_accepted, is_answered, is_attempted}

-- Which stops were given back

abbrev one_if_unstop : Action → ℕ
one_if_unstop (controller.unstop shown) = 1
one_if_unstop other = 0

-- an action that gives a stop back says at least 2
abbrev SaysTwo : Action → Type 0
SaysTwo a = 1 ≤ one_if_unstop a → 2 ≤ shown_by_token a

abbrev AllSayTwo : List ControllerCall → Type 0
AllSayTwo calls = AllByRecursion (λ (t : ControllerCall). SaysTwo t.action) calls

abbrev actions_of : List ControllerCall → List Action
actions_of calls = map (λ (t : ControllerCall). t.action) calls

none_picked : (b : Bool) (t : ControllerCall) (rest : List ControllerCall) → actions_of (cond b (t ∷ rest) rest) ≡ [] → (b ≡ false) × (actions_of rest ≡ [])
none_picked true t rest none = absurd (cc)
none_picked false t rest none = (refl, none)

all_picked : (b : Bool) (t : ControllerCall) (rest : List ControllerCall) → AllByRecursion SaysTwo (actions_of (cond b (t ∷ rest) rest)) → (b ≡ true → SaysTwo t.action) × AllByRecursion SaysTwo (actions_of rest)
all_picked true t rest all = ((λ is. all.0), all.1)
all_picked false t rest all = ((λ is. absurd (cc is)), all)

not_first : (b : Bool) → (b && true) ≡ false → b ≡ false
not_first true none = none
not_first false none = refl

-- one that isn't client 1's is client 2's
of_second : (client : ℕ) (a : Action) → (IsTrue (is_token a) → IsClient two_clients client) → ((client == 1) && is_token a) ≡ false → (((client == 2) && is_token a) ≡ true → SaysTwo a) → SaysTwo a
of_second client (controller.unstop shown) named none two some =
    let is = named refl in
    let low = is.0 in
    let high = is.1 in
    let other : (client == 1) ≡ false = not_first (client == 1) none in
    let second : (client == 2) ≡ true = grind (arith, nat_tests) in
    two (rw second refl) some
of_second client (controller.stop shown) named none two some = absurd (omega (arith, some))
of_second client (controller.slow rate shown) named none two some = absurd (omega (arith, some))
of_second client (controller.unslow shown) named none two some = absurd (omega (arith, some))
of_second client (controller.delay now bytes) named none two some = absurd (omega (arith, some))
of_second client controller.look named none two some = absurd (omega (arith, some))
of_second client (controller.say said) named none two some = absurd (omega (arith, some))
of_second client (controller.hear most) named none two some = absurd (omega (arith, some))

all_say_two : (calls : List ControllerCall) → AreNamed calls → tokens_of 1 calls ≡ [] → AllByRecursion SaysTwo (tokens_of 2 calls) → AllSayTwo calls
all_say_two [] named none all = tt
all_say_two (t ∷ calls) named none all =
    let first = none_picked ((t.client == 1) && is_token t.action) t _ none in
    let second = all_picked ((t.client == 2) && is_token t.action) t _ all in
    (of_second t.client t.action named.0 first.0 second.0, all_say_two calls named.1 first.1 second.1)

-- From a stop on, a call reports a stop, or one was given back before it

-- what gives no stop back leaves a stop there
stays : (n : Numbers) (a : Action) → one_if_unstop a ≡ 0 → 1 ≤ n.stops → 1 ≤ (numbers_after n a).stops
stays n (controller.stop shown) none some = omega (arith, some)
stays n (controller.unstop shown) none some = absurd (omega (arith, none))
stays n (controller.slow rate shown) none some = subst (λ (s : ℕ). 1 ≤ s) (sym (slow_keeps n rate)) some
stays n (controller.unslow shown) none some = some
stays n (controller.delay now bytes) none some = subst (λ (s : ℕ). 1 ≤ s) (sym (delay_keeps n now bytes)) some
stays n controller.look none some = some
stays n (controller.say shown) none some = some
stays n (controller.hear most) none some = some

gives_back : (a : Action) → (1 ≤ one_if_unstop a) ⊎ (one_if_unstop a ≡ 0)
gives_back (controller.unstop shown) = inl (omega arith)
gives_back (controller.stop shown) = inr refl
gives_back (controller.slow rate shown) = inr refl
gives_back (controller.unslow shown) = inr refl
gives_back (controller.delay now bytes) = inr refl
gives_back controller.look = inr refl
gives_back (controller.say shown) = inr refl
gives_back (controller.hear most) = inr refl

-- what holds of the first calls behind one holds with that one too
one_before : (u : ControllerCall) (calls : List ControllerCall) (place : ℕ) → 2 ≤ shown_by_tokens (take place calls) → 2 ≤ shown_by_tokens (take (suc place) (u ∷ calls))
one_before u calls place two = let more = shown_from_more 0 (max 0 (shown_by_token u.action)) (take place calls) (omega arith) in omega (arith, two, more)

stopped_until : (n : Numbers) (calls : List ControllerCall) → IsHistoryFrom n calls → AllSayTwo calls → 1 ≤ n.stops → (place : ℕ) (t : ControllerCall) (l : Look) → slice_get calls place ≡ Some t → t.told ≡ Some l → (1 ≤ l.stops) ⊎ (2 ≤ shown_by_tokens (take place calls))
stopped_until n [] history all some place t l there told = absurd (cc there)
stopped_until n (u ∷ calls) history all some zero t l there told =
    let same = reported n u.action l (sym history.0 ∙ ap (λ (x : ControllerCall). x.told) (some_same there) ∙ told) in inl (omega (arith, same, some))
stopped_until n (u ∷ calls) history all some (suc place) t l there told =
    elim (gives_back u.action) [
      | inl back ↦ (let two = all.0 back in let rest = shown_at_least (max 0 (shown_by_token u.action)) (take place calls) in inr (omega (arith, two, rest)))
      | inr none ↦ elim (stopped_until (numbers_after n u.action) calls history.1 all.1 (stays n u.action none some) place t l there told) [
        | inl stops ↦ inl stops
        | inr two ↦ inr (one_before u calls place two)
      ]
    ]

stopped_since : (n : Numbers) (calls : List ControllerCall) → IsHistoryFrom n calls → AllSayTwo calls → (at place client shown : ℕ) → at < place → slice_get calls at ≡ Some (record { client = client; action = controller.stop shown; told = None }) → (t : ControllerCall) (l : Look) → slice_get calls place ≡ Some t → t.told ≡ Some l
    → (1 ≤ l.stops) ⊎ (2 ≤ shown_by_tokens (take place calls))
stopped_since n [] history all at place client shown later is_stop t l there told = absurd (cc there)
stopped_since n (u ∷ calls) history all zero zero client shown later is_stop t l there told = absurd (omega (arith, later))
stopped_since n (u ∷ calls) history all zero (suc place) client shown later is_stop t l there told =
    let stop_now : (numbers_after n u.action).stops ≡ n.stops + 1 = ap (λ (x : ControllerCall). (numbers_after n x.action).stops) (some_same is_stop) in
    elim (stopped_until (numbers_after n u.action) calls history.1 all.1 (omega (arith, stop_now)) place t l there told) [
      | inl stops ↦ inl stops
      | inr two ↦ inr (one_before u calls place two)
    ]
stopped_since n (u ∷ calls) history all (suc at) zero client shown later is_stop t l there told = absurd (omega (arith, later))
stopped_since n (u ∷ calls) history all (suc at) (suc place) client shown later is_stop t l there told =
    elim (stopped_since (numbers_after n u.action) calls history.1 all.1 at place client shown (omega (arith, later)) is_stop t l there told) [
      | inl stops ↦ inl stops
      | inr two ↦ inr (one_before u calls place two)
    ]

-- a stop is counted among the calls that are more than those before it
stop_counted : (calls : List ControllerCall) (at place client shown : ℕ) → at < place → slice_get calls at ≡ Some (record { client = client; action = controller.stop shown; told = None }) → 1 ≤ stops_in (take place calls)
stop_counted [] at place client shown later is_stop = absurd (cc is_stop)
stop_counted (u ∷ calls) at zero client shown later is_stop = absurd (omega (arith, later))
stop_counted (u ∷ calls) zero (suc place) client shown later is_stop =
    let one : one_if_stop u.action ≡ 1 = ap (λ (x : ControllerCall). one_if_stop x.action) (some_same is_stop) in
    let first = one_more u calls place in
    omega (arith, one, first)
stop_counted (u ∷ calls) (suc at) (suc place) client shown later is_stop =
    let rest = stop_counted calls at place client shown (omega (arith, later)) is_stop in
    let first = one_more u calls place in
    omega (arith, rest, first)

-- Client 1's commits

-- its second commit was accepted at 2, and calls up to its delay say that the client had been shown the first one
record Wrote (calls : List ControllerCall) (end : Progress) : Type 0 where
  accepted : WasLetOn end
  said : 1 ≤ said_in (take (accepted.own.place + 1) calls)
  unseen : shown_by_tokens (take accepted.own.decided calls) < 2
  asked : end.asked ≡ []

wrote_two : (trace : Trace) (end : Progress) → Run two_clients trace 1 fresh through_calls end → Wrote trace.controller_calls end
wrote_two trace end run =
    let begun = run.0 in let first = run.2.0 in let next = run.2.2.0 in let second = run.2.2.2.0 in
    let a = is_accepted two_clients trace 1 begun plain 1 1 (put_a1 ∷ []) first run.2.1.replies in
    let b = is_accepted two_clients trace 1 next plain 2 2 (put_a2 ∷ []) second run.2.2.2.1.replies in
    let shown : first.seen_up_to ≡ max begun.seen_up_to 1 = ap (λ (x : Progress). x.seen_up_to) a.after in
    let still : next.seen_up_to ≡ first.seen_up_to = ap (λ (x : Progress). x.seen_up_to) run.2.2.1.replies in
    let said = b.said in
    let free : begun.asked ≡ [] = ap (λ (x : Progress). x.asked) run.1.replies in
    record {
      accepted = record {
        before = next.attempts;
        own = record { records = next.pending; options = plain; status = succeeded; place = b.place; decided = b.decided };
        more = [];
        attempts = ap (λ (x : Progress). x.attempts) run.2.2.2.2 ∙ ap (λ (x : Progress). x.attempts) b.after;
        waits = refl;
        went_on = refl;
        later = b.asked.1;
      };
      said = omega (arith, shown, still, said);
      unseen = b.unseen;
      asked = ap (λ (x : Progress). x.asked) run.2.2.2.2 ∙ ap (λ (x : Progress). x.asked) b.after ∙ ap (λ (x : Progress). x.asked) run.2.2.1.replies ∙ ap (λ (x : Progress). x.asked) a.after ∙ free;
    }

-- Client 2's stop

-- it took a stop, up to which nothing above this was said: it read there then
pub record Stopped (calls : List ControllerCall) (most : ℕ) : Type 0 where
  pub at : ℕ
  pub shown : ℕ
  pub there : slice_get calls at ≡ Some (record { client = 2; action = controller.stop shown; told = None })
  pub none : said_in (take (at + 1) calls) ≤ most

pub stopped_by : (trace : Trace) → AreHeard trace.controller_calls → (q : Progress) → (token : Stops trace 2 fresh done q) → (most : ℕ) → q.seen_up_to ≤ most → Stopped trace.controller_calls most
stopped_by trace heard q token most low =
    let d = token.2 in
    let later = d.hears.later in
    let reached = heard d.place d.heard_at d.most (record { client = 2; action = controller.stop token.1; told = None }) d.is_later.there refl (omega (arith, later)) d.hears.there in
    let seen : q.seen_up_to ≡ max 0 d.most = ap (λ (x : Progress). x.seen_up_to) d.after in
    record { at = d.place; shown = token.1; there = d.is_later.there; none = omega (arith, reached, seen, low) }

says_two : (shown later : ℕ) → 2 ≤ later → AllByRecursion SaysTwo (controller.stop shown ∷ controller.unstop later ∷ [])
says_two shown later two = ((λ none. absurd (omega (arith, none))), ((λ one. two), tt))

-- what client 2 did: it stopped, read at 0 and at 2, and gave the stop back
record Watched (calls : List ControllerCall) : Type 0 where
  stopped : Stopped calls 0
  freed : ℕ
  two : 2 ≤ freed
  tokens : tokens_of 2 calls ≡ controller.stop stopped.shown ∷ controller.unstop freed ∷ []

-- If the delay or the look that let the second commit go on is before the stop, the client that stopped was shown the
-- first one. If it is after the stop, that was given back before, and its client had been shown the second one.
through_order : (calls : List ControllerCall) → IsHistoryFrom opening calls → AllSayTwo calls → (place decided : ℕ) (free : SawFree calls place decided) → 1 ≤ said_in (take (place + 1) calls) → shown_by_tokens (take decided calls) < 2 → (stopped : Stopped calls 0)
    → (b : Bool) → nat_lt stopped.at free.at ≡ b → ⊥
through_order calls history all place decided free said unseen stopped true after =
    let later : stopped.at < free.at = grind (arith, nat_tests) in
    let no_stop = free.free in let before = free.before in
    elim (stopped_since opening calls history all stopped.at free.at 2 stopped.shown later stopped.there free.call free.numbers free.there free.told) [
      | inl stops ↦ omega (arith, stops, no_stop)
      | inr two ↦ (let fewer = shown_in_fewer 0 calls free.at decided (omega (arith, before)) in omega (arith, two, fewer, unseen))
    ]
through_order calls history all place decided free said unseen stopped false not_after =
    let early : free.at ≤ stopped.at = grind (arith, nat_tests) in
    let later = free.later in let nothing = stopped.none in
    let fewer = said_in_fewer 0 calls (place + 1) (stopped.at + 1) (omega (arith, early, later)) in
    omega (arith, said, fewer, nothing)

never : (ended : ℕ) (script : List (List Command)) (o : Outcome) (legal : IsLegal two_clients ended script o) → (mine : Progress) (commits : slice_get legal.attempts 0 ≡ Some mine.attempts) → tokens_of 1 legal.trace.controller_calls ≡ [] → Wrote legal.trace.controller_calls mine
    → Watched legal.trace.controller_calls → ⊥
never ended script o legal mine commits none s w =
    let l = legal.legal in let calls = legal.trace.controller_calls in
    let free = let_on calls l.groups legal.attempts l.are_groups mine commits s.accepted in
    let all = all_say_two calls l.is_trace.tokens none (subst (AllByRecursion SaysTwo) (sym w.tokens) (says_two w.stopped.shown w.freed w.two)) in
    through_order calls l.is_trace.controller_calls all s.accepted.own.place s.accepted.own.decided free s.said s.unseen w.stopped (nat_lt w.stopped.at free.at) refl

-- the stop is given back by the client's last call
pub not_through : (ended : ℕ) → IsLegal two_clients ended through_script written_through_a_stop → ⊥
unfolding stopped_by
not_through ended legal =
    let l = legal.legal in let trace = legal.trace in let calls = trace.controller_calls in
    let one = l.each 0 _ _ refl refl in let two = l.each 1 _ _ refl refl in let mine = one.2 in let other = two.2 in
    let s = wrote_two trace mine.end (run_of two_clients trace 1 _ through_calls mine.end (λ e. cc) mine.is_transcript) in
    let run = run_of two_clients trace 2 _ _ other.end (λ e. cc) other.is_transcript in
    let first = is_answered two_clients (key_a.family ∷ []) run.0 (found 0 None) run.2.0 (Gets trace run.0 key_a (found 0 None) run.2.0) refl run.2.1.replies in
    let second = is_answered two_clients (key_a.family ∷ []) run.2.0 (found 2 (Some (codes "2"))) run.2.2.0 (Gets trace run.2.0 key_a (found 2 (Some (codes "2"))) run.2.2.0) refl run.2.2.1.replies in
    let token = run.1.replies in let back = run.2.2.2.1.replies in
    let stopped = stopped_by trace l.is_trace.heard run.0 token 0 first.not_below in
    let seen : run.2.2.0.seen_up_to ≡ 2 = ap (λ (x : Progress). x.seen_up_to) second.after in
    let had = back.2.had in
    let asked : other.end.asked ≡ controller.stop token.1 ∷ controller.unstop back.1 ∷ [] =
    ap (λ (x : Progress). x.asked) run.2.2.2.2 ∙ ap (λ (x : Progress). x.asked) back.2.after ∙ ap (λ (x : Progress). x.asked ++ controller.unstop back.1 ∷ []) second.after
    ∙ ap (λ (x : Progress). x.asked ++ controller.unstop back.1 ∷ []) first.after ∙ ap (λ (x : Progress). x.asked ++ controller.unstop back.1 ∷ []) token.2.after in
    never ended through_script written_through_a_stop legal mine.end (one.1 ∙ ap (λ h. Some h) mine.commits) (mine.tokens ∙ ap (λ asked. asked ++ given_back asked mine.shown) s.asked) s
    (record { stopped = stopped; freed = back.1; two = omega (arith, seen, had); tokens = other.tokens ∙ ap (λ asked. asked ++ given_back asked other.shown) asked })

-- or at its end
pub not_through_kept : (ended : ℕ) → IsLegal two_clients ended kept_script written_through_a_kept_stop → ⊥
unfolding stopped_by
not_through_kept ended legal =
    let l = legal.legal in let trace = legal.trace in let calls = trace.controller_calls in
    let one = l.each 0 _ _ refl refl in let two = l.each 1 _ _ refl refl in let mine = one.2 in let other = two.2 in
    let s = wrote_two trace mine.end (run_of two_clients trace 1 _ through_calls mine.end (λ e. cc) mine.is_transcript) in
    let run = run_of two_clients trace 2 _ watching_calls other.end (λ e. cc) other.is_transcript in
    let first = is_answered two_clients (key_a.family ∷ []) run.0 (found 0 None) run.2.0 (Gets trace run.0 key_a (found 0 None) run.2.0) refl run.2.1.replies in
    let second = is_answered two_clients (key_a.family ∷ []) run.2.0 (found 2 (Some (codes "2"))) run.2.2.0 (Gets trace run.2.0 key_a (found 2 (Some (codes "2"))) run.2.2.0) refl run.2.2.1.replies in
    let token = run.1.replies in
    let stopped = stopped_by trace l.is_trace.heard run.0 token 0 first.not_below in
    let seen : other.end.seen_up_to ≡ 2 = ap (λ (x : Progress). x.seen_up_to) run.2.2.2 ∙ ap (λ (x : Progress). x.seen_up_to) second.after in
    let had = other.had in
    let asked : other.end.asked ≡ controller.stop token.1 ∷ [] =
    ap (λ (x : Progress). x.asked) run.2.2.2 ∙ ap (λ (x : Progress). x.asked) second.after ∙ ap (λ (x : Progress). x.asked) first.after ∙ ap (λ (x : Progress). x.asked) token.2.after in
    never ended kept_script written_through_a_kept_stop legal mine.end (one.1 ∙ ap (λ h. Some h) mine.commits) (mine.tokens ∙ ap (λ asked. asked ++ given_back asked mine.shown) s.asked) s
    (record { stopped = stopped; freed = other.shown; two = omega (arith, seen, had); tokens = other.tokens ∙ ap (λ asked. asked ++ given_back asked other.shown) asked })

-- Blind in its own stop

-- with one more attempt, or none
pub with_more : (attempts : List Attempt) (records : List Record) (how : WriteOptions) (fate : Option Fate) → (more : List Attempt) × (with_attempt attempts records how fate ≡ attempts ++ more)
with_more attempts records how None = ([], sym (append-nil attempts))
with_more attempts records how (Some fate) = (record { records = records; options = how; status = fate.status; place = fate.place; decided = fate.decided } ∷ [], refl)

passes : early_refusal 1 16777216 false (put_a2 ∷ []) noslow ≡ None
unfolding varint_within
passes = refl

-- after its second commit it learned of a stop
record WroteFirst (calls : List ControllerCall) (end : Progress) : Type 0 where
  wrote : Wrote calls end
  knows : ℕ
  told : IsToldIn calls wrote.accepted.own.decided knows (record { stops = 1; delays = 0; wait = 0 })

wrote_first : (trace : Trace) (end : Progress) → Run two_clients trace 1 fresh stopped_at_last_calls end → WroteFirst trace.controller_calls end
wrote_first trace end run =
    let begun = run.0 in let first = run.2.0 in let next = run.2.2.0 in let second = run.2.2.2.0 in let again = run.2.2.2.2.0 in let last = run.2.2.2.2.2.0 in
    let a = is_accepted two_clients trace 1 begun plain 1 1 (put_a1 ∷ []) first run.2.1.replies in
    let b = is_accepted two_clients trace 1 next plain 2 2 (put_b2 ∷ []) second run.2.2.2.1.replies in
    let shown : first.seen_up_to ≡ max begun.seen_up_to 1 = ap (λ (x : Progress). x.seen_up_to) a.after in
    let still : next.seen_up_to ≡ first.seen_up_to = ap (λ (x : Progress). x.seen_up_to) run.2.2.1.replies in
    let said = b.said in
    let free : second.asked ≡ [] = ap (λ (x : Progress). x.asked) b.after ∙ ap (λ (x : Progress). x.asked) run.2.2.1.replies ∙ ap (λ (x : Progress). x.asked) a.after ∙ ap (λ (x : Progress). x.asked) run.1.replies in
    let adding = run.2.2.2.2.1.replies in
    let asked : again.asked ≡ [] = ap (λ (x : Progress). x.asked) adding ∙ free in
    let pending : again.pending ≡ put_a2 ∷ [] = ap (λ (x : Progress). x.pending) adding ∙ ap (λ (x : Progress). x.pending ++ put_a2 ∷ []) b.after in
    let third = is_attempted two_clients trace 1 again noslow (refused (no.Incomplete 1 0 0)) last (rw (pending, asked) passes) run.2.2.2.2.2.1.replies in
    let own : Attempt = record { records = next.pending; options = plain; status = succeeded; place = b.place; decided = b.decided } in
    let was : again.attempts ≡ next.attempts ++ own ∷ [] = ap (λ (x : Progress). x.attempts) adding ∙ ap (λ (x : Progress). x.attempts) b.after in
    let m = with_more again.attempts again.pending noslow third.0 in
    let told = told_in_call trace.controller_calls (holds_stop again.asked) 1 again.known last.known _ third.0 third.1.1 in
    let known = b.asked.2 in let rises = run.2.2.2.2.1.rises in
    record {
      wrote = record {
        accepted = record {
          before = next.attempts;
          own = own;
          more = m.0;
          attempts = ap (λ (x : Progress). x.attempts) run.2.2.2.2.2.2 ∙ ap (λ (x : Progress). x.attempts) third.2 ∙ m.1 ∙ ap (λ hs. hs ++ m.0) was ∙ append_assoc next.attempts (own ∷ []) m.0;
          waits = refl;
          went_on = refl;
          later = b.asked.1;
        };
        said = omega (arith, shown, still, said);
        unseen = b.unseen;
        asked = ap (λ (x : Progress). x.asked) run.2.2.2.2.2.2 ∙ ap (λ (x : Progress). x.asked) third.2 ∙ asked;
      };
      knows = last.known;
      told = wider trace.controller_calls again.known last.known b.decided last.known _ (omega (arith, known, rises)) (omega arith) told;
    }

-- There is one stop. The call that let a commit go on reported none, and a later one reported it: so the stop comes after
-- the first of these calls, and who took it was shown what the commit's client had been shown.
pub blind_order : (calls : List ControllerCall) → IsHistoryFrom opening calls → AreNamed calls → stops_in (of_client 1 calls) ≡ 0 → stops_in (of_client 2 calls) ≡ 1 → (place decided knows : ℕ) (free : SawFree calls place decided) → IsToldIn calls decided knows (record { stops = 1; delays = 0; wait = 0 })
    → (most : ℕ) → most < said_in (take (place + 1) calls) → (stopped : Stopped calls most) → (b : Bool) → nat_lt stopped.at free.at ≡ b → ⊥
blind_order calls history named of_one of_two place decided knows free told most said stopped true after =
    let later : stopped.at < free.at = grind (arith, nat_tests) in
    let told_later = told.later in let before = free.before in let none = free.free in
    let counted = stop_counted calls stopped.at free.at 2 stopped.shown later stopped.there in
    let since : 1 + stops_in (take free.at calls) ≤ free.numbers.stops + stops_in (take told.place calls) =
    taken_between opening calls history free.at told.place (omega (arith, before, told_later)) free.call told.call free.numbers _ free.there free.told told.there told.told in
    let all = all_taken calls told.place in
    let both = of_both calls named in
    omega (arith, counted, since, none, all, both, of_one, of_two)
blind_order calls history named of_one of_two place decided knows free told most said stopped false not_after =
    let early : free.at ≤ stopped.at = grind (arith, nat_tests) in
    let later = free.later in let nothing = stopped.none in
    let fewer = said_in_fewer 0 calls (place + 1) (stopped.at + 1) (omega (arith, early, later)) in
    omega (arith, said, fewer, nothing)

pub not_blind : (ended : ℕ) → IsLegal two_clients ended blind_script blind_in_its_own_stop → ⊥
not_blind ended legal =
    let l = legal.legal in let trace = legal.trace in let calls = trace.controller_calls in
    let one = l.each 0 _ _ refl refl in let two = l.each 1 _ _ refl refl in let mine = one.2 in let other = two.2 in
    let f = wrote_first trace mine.end (run_of two_clients trace 1 _ stopped_at_last_calls mine.end (λ e. cc) mine.is_transcript) in
    let s = f.wrote in
    let free = let_on calls l.groups legal.attempts l.are_groups mine.end (one.1 ∙ ap (λ h. Some h) mine.commits) s.accepted in
    let run = run_of two_clients trace 2 _ blind_calls other.end (λ e. cc) other.is_transcript in
    let read = is_answered two_clients (key_a.family ∷ []) run.0 (found 0 None) run.2.0 (Gets trace run.0 key_a (found 0 None) run.2.0) refl run.2.1.replies in
    let token = run.1.replies in
    let stopped = stopped_by trace l.is_trace.heard run.0 token 0 read.not_below in
    let asked : other.end.asked ≡ controller.stop token.1 ∷ [] = ap (λ (x : Progress). x.asked) run.2.2 ∙ ap (λ (x : Progress). x.asked) read.after ∙ ap (λ (x : Progress). x.asked) token.2.after in
    let of_one : stops_in (of_client 1 calls) ≡ 0 = ap stops_among (mine.tokens ∙ ap (λ asked. asked ++ given_back asked mine.shown) s.asked) in
    let of_two : stops_in (of_client 2 calls) ≡ 1 = ap stops_among (other.tokens ∙ ap (λ asked. asked ++ given_back asked other.shown) asked) in
    blind_order calls l.is_trace.controller_calls l.is_trace.tokens of_one of_two s.accepted.own.place s.accepted.own.decided f.knows free f.told 0 s.said stopped (nat_lt stopped.at free.at) refl
