-- A client read a batch before it took a stop of which the batch's client had learned before the batch was accepted.
use Rattle.std.proofs.Common.{◌≡◌, ◌⊎◌, ℕ, zero, suc, ◌+◌, ◌<◌, ◌≤◌, max, Bool, true, false, IsTrue, cond, ◌==◌, ◌&&◌, Some, List, [], ◌∷◌, ◌++◌, map, take, refl, sym, arith, ap, ◌∙◌, subst, inl, inr}
use Rattle.std.specs.Prelude.{codes}
use Rattle.std.specs.List.{AllByRecursion}
use Rattle.std.proofs.lemmas.Bool.Decides.{nat_tests}
use Rattle.model_base.specs.declared.write.Refusal.TheVariants as no
use Rattle.model_base.specs.Calls.{found, refused}
use Rattle.model_base.specs.Controller as controller
use Rattle.model_base.specs.Controller.{ControllerCall, Action, opening}
use Rattle.model_base.specs.Tokens.{is_token, tokens_of, given_back, holds_stop, shown_by_token, shown_by_tokens}
use Rattle.model_base.specs.Trace.{Trace}
use Rattle.model_base.specs.Progress.{Progress, fresh}
use Rattle.model_base.specs.Replies.{Gets}
use Rattle.model_base.specs.Runs.{Run}
use Rattle.model_base.specs.Outcomes.{IsClient, IsLegal}
use Rattle.model_base.proofs.Shown.{shown_from, shown_at_least, shown_in_fewer}
use Rattle.model_rows.specs.Examples.{put_a1, plain, noslow, key_a}
use Rattle.model_rows.specs.Runs.{two_clients}
use Rattle.model_rows.specs.Ignored.{foreseen_script, refused_first_calls, foreseeing_calls, read_before_it_was_written}
use Rattle.model_rows.proofs.OthersStop.{one_if_stop, stops_in, AreNamed, IsToldIn, told_at_most, told_in_call, passes}
use Rattle.model_rows.proofs.Steps.{run_of, is_accepted, is_answered, is_attempted}

-- Calls that say of each stop that its client had been shown something

abbrev SaysSo : Action → Type 0
SaysSo a = 1 ≤ one_if_stop a → 1 ≤ shown_by_token a

abbrev AllSaySo : List ControllerCall → Type 0
AllSaySo calls = AllByRecursion (λ (t : ControllerCall). SaysSo t.action) calls

abbrev actions_of : List ControllerCall → List Action
actions_of calls = map (λ (t : ControllerCall). t.action) calls

-- the first call's part, and the rest's, where a client's calls are picked
none_picked : (b : Bool) (t : ControllerCall) (rest : List ControllerCall) → actions_of (cond b (t ∷ rest) rest) ≡ [] → (b ≡ false) × (actions_of rest ≡ [])
none_picked true t rest none = absurd (cc)
none_picked false t rest none = (refl, none)

all_picked : (b : Bool) (t : ControllerCall) (rest : List ControllerCall) → AllByRecursion SaysSo (actions_of (cond b (t ∷ rest) rest)) → (b ≡ true → SaysSo t.action) × AllByRecursion SaysSo (actions_of rest)
all_picked true t rest all = ((λ is. all.0), all.1)
all_picked false t rest all = ((λ is. absurd (cc is)), all)

not_first : (b : Bool) → (b && true) ≡ false → b ≡ false
not_first true none = none
not_first false none = refl

-- a stop that isn't client 1's is client 2's
of_second : (client : ℕ) (a : Action) → (IsTrue (is_token a) → IsClient two_clients client) → ((client == 1) && is_token a) ≡ false → (((client == 2) && is_token a) ≡ true → SaysSo a) → SaysSo a
of_second client (controller.stop shown) named none two some =
    let is = named refl in
    let low = is.0 in
    let high = is.1 in
    let other : (client == 1) ≡ false = not_first (client == 1) none in
    let second : (client == 2) ≡ true = grind (arith, nat_tests) in
    two (rw second refl) some
of_second client (controller.unstop shown) named none two some = absurd (omega (arith, some))
of_second client (controller.slow rate shown) named none two some = absurd (omega (arith, some))
of_second client (controller.unslow shown) named none two some = absurd (omega (arith, some))
of_second client (controller.delay now bytes) named none two some = absurd (omega (arith, some))
of_second client controller.look named none two some = absurd (omega (arith, some))
of_second client (controller.say said) named none two some = absurd (omega (arith, some))
of_second client (controller.hear most) named none two some = absurd (omega (arith, some))

-- client 1 takes no token, and client 2's stops say so
all_say_so : (calls : List ControllerCall) → AreNamed calls → tokens_of 1 calls ≡ [] → AllByRecursion SaysSo (tokens_of 2 calls) → AllSaySo calls
all_say_so [] named none all = tt
all_say_so (t ∷ calls) named none all =
    let first = none_picked ((t.client == 1) && is_token t.action) t _ none in
    let second = all_picked ((t.client == 2) && is_token t.action) t _ all in
    (of_second t.client t.action named.0 first.0 second.0, all_say_so calls named.1 first.1 second.1)

front_says_so : (calls : List ControllerCall) (n : ℕ) → AllSaySo calls → AllSaySo (take n calls)
front_says_so [] zero all = tt
front_says_so [] (suc n) all = tt
front_says_so (t ∷ calls) zero all = tt
front_says_so (t ∷ calls) (suc n) all = (all.0, front_says_so calls n all.1)

-- so where there is a stop, the greatest number is no less than 1

first_or_later : (a : Action) (n : ℕ) → 1 ≤ one_if_stop a + n → (1 ≤ one_if_stop a) ⊎ (1 ≤ n)
first_or_later (controller.stop shown) n some = inl (omega arith)
first_or_later (controller.unstop shown) n some = inr (omega (arith, some))
first_or_later (controller.slow rate shown) n some = inr (omega (arith, some))
first_or_later (controller.unslow shown) n some = inr (omega (arith, some))
first_or_later (controller.delay now bytes) n some = inr (omega (arith, some))
first_or_later controller.look n some = inr (omega (arith, some))
first_or_later (controller.say shown) n some = inr (omega (arith, some))
first_or_later (controller.hear most) n some = inr (omega (arith, some))

says_so_from : (most : ℕ) (calls : List ControllerCall) → AllSaySo calls → 1 ≤ stops_in calls → 1 ≤ shown_from most calls
says_so_from most [] all some = absurd (omega (arith, some))
says_so_from most (t ∷ calls) all some =
    elim (first_or_later t.action (stops_in calls) some) [
      | inl here ↦ (let shown = all.0 here in let rest = shown_at_least (max most (shown_by_token t.action)) calls in omega (arith, shown, rest))
      | inr later ↦ says_so_from (max most (shown_by_token t.action)) calls all.1 later
    ]

-- The clients' calls

-- client 1 learned of a stop before its leader decided, and took no token
record LearnedFirst (calls : List ControllerCall) (end : Progress) : Type 0 where
  knows : ℕ
  told : IsToldIn calls 0 knows (record { stops = 1; delays = 0; wait = 0 })
  decided : ℕ
  later : knows ≤ decided
  unseen : shown_by_tokens (take decided calls) < 1
  asked : end.asked ≡ []

learned_first : (trace : Trace) (end : Progress) → Run two_clients trace 1 fresh refused_first_calls end → LearnedFirst trace.controller_calls end
learned_first trace end run =
    let begun = run.0 in let refused_at = run.2.0 in let taken = run.2.2.0 in
    let pending : begun.pending ≡ put_a1 ∷ [] = ap (λ (x : Progress). x.pending) run.1.replies in
    let asked : begun.asked ≡ [] = ap (λ (x : Progress). x.asked) run.1.replies in
    let first = is_attempted two_clients trace 1 begun noslow (refused (no.Incomplete 1 0 0)) refused_at (rw (pending, asked) passes) run.2.1.replies in
    let told = told_in_call trace.controller_calls (holds_stop begun.asked) 1 begun.known refused_at.known _ first.0 first.1.1 in
    let a = is_accepted two_clients trace 1 refused_at plain 1 1 (put_a1 ∷ []) taken run.2.2.1.replies in
    let before = a.asked.0 in let seen = a.asked.1 in
    record {
      knows = refused_at.known;
      told = record { place = told.place; call = told.call; there = told.there; told = told.told; later = omega arith; before = told.before };
      decided = a.decided;
      later = omega (arith, before, seen);
      unseen = a.unseen;
      asked = ap (λ (x : Progress). x.asked) run.2.2.2 ∙ ap (λ (x : Progress). x.asked) a.after ∙ ap (λ (x : Progress). x.asked) first.2 ∙ asked;
    }

-- client 2 took its stop once it had been shown the batch
stops_shown : (trace : Trace) (end : Progress) → Run two_clients trace 2 fresh foreseeing_calls end → (shown : ℕ) × (1 ≤ shown) × (end.asked ≡ controller.stop shown ∷ [])
stops_shown trace end run =
    let read = is_answered two_clients (key_a.family ∷ []) fresh (found 1 (Some (codes "1"))) run.0 (Gets trace fresh key_a (found 1 (Some (codes "1"))) run.0) refl run.1.replies in
    let seen : run.0.seen_up_to ≡ 1 = ap (λ (x : Progress). x.seen_up_to) read.after in
    let none : run.0.asked ≡ [] = ap (λ (x : Progress). x.asked) read.after in
    let taken = run.2.1.replies.2 in
    let had = taken.had in (
      run.2.1.replies.1,
      omega (arith, seen, had),
      ap (λ (x : Progress). x.asked) run.2.2 ∙ ap (λ (x : Progress). x.asked) taken.after ∙ ap (λ actions. actions ++ controller.stop run.2.1.replies.1 ∷ []) none,
    )

says_its_own : (shown later : ℕ) → 1 ≤ shown → AllByRecursion SaysSo (controller.stop shown ∷ controller.unstop later ∷ [])
says_its_own shown later some = ((λ one. some), ((λ one. absurd (omega (arith, one))), tt))

-- A stop of client 2 is among the calls that the leader had seen, and says what the client had read.
pub not_foreseen : (ended : ℕ) → IsLegal two_clients ended foreseen_script read_before_it_was_written → ⊥
not_foreseen ended legal =
    let l = legal.legal in let trace = legal.trace in let calls = trace.controller_calls in
    let mine = (l.each 0 _ _ refl refl).2 in let other = (l.each 1 _ _ refl refl).2 in
    let s = learned_first trace mine.end (run_of two_clients trace 1 _ refused_first_calls mine.end (λ e. cc) mine.is_transcript) in
    let token = stops_shown trace other.end (run_of two_clients trace 2 _ foreseeing_calls other.end (λ e. cc) other.is_transcript) in
    let of_one : tokens_of 1 calls ≡ [] = mine.tokens ∙ ap (λ asked. asked ++ given_back asked mine.shown) s.asked in
    let of_two : tokens_of 2 calls ≡ controller.stop token.0 ∷ controller.unstop other.shown ∷ [] = other.tokens ∙ ap (λ asked. asked ++ given_back asked other.shown) token.2 in
    let all = all_say_so calls l.is_trace.tokens of_one (subst (AllByRecursion SaysSo) (sym of_two) (says_its_own token.0 other.shown token.1)) in
    let told = s.told in
    let before = told.before in let later = s.later in
    let one : 1 ≤ 0 + stops_in (take told.place calls) = told_at_most opening calls l.is_trace.controller_calls told.place told.call _ told.there told.told in
    let early = says_so_from 0 (take told.place calls) (front_says_so calls told.place all) (omega (arith, one)) in
    let more = shown_in_fewer 0 calls told.place s.decided (omega (arith, before, later)) in
    let unseen = s.unseen in
    omega (arith, early, more, unseen)
