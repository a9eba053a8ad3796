-- A commit that may wait was accepted, though another client stopped writes all along.
use Rattle.std.proofs.Common.{◌≡◌, ◌⊎◌, ℕ, zero, suc, ◌+◌, ◌-◌, ◌<◌, ◌≤◌, Bool, true, false, IsTrue, cond, ◌==◌, nat_lt, nat_le, ◌||◌, ◌&&◌, Option, None, Some, List, [], ◌∷◌, ◌++◌, length, map, filter, take, slice_get, refl, sym, arith, ap, ◌∙◌, subst, inl, inr}
use Rattle.std.specs.Prelude.{option_map}
use Rattle.std.specs.List.{AllByRecursion}
use Rattle.std.proofs.lemmas.Bool.{cases_Bool}
use Rattle.std.proofs.lemmas.Bool.Decides.{nat_tests}
use Rattle.std.proofs.lemmas.Option.{slice_get-map}
use Rattle.model_base.specs.Varint.{varint_within}
use Rattle.model_base.specs.declared.group.Item.{Item}
use Rattle.model_base.specs.declared.write.Refusal.TheVariants as no
use Rattle.model_base.specs.Calls.{stop, refused}
use Rattle.model_base.specs.Controller as controller
use Rattle.model_base.specs.Controller.{ControllerCall, Action, Numbers, After, Look, opening, after_start, after_refill, after_payment, after_debt, after_due_refill, after_delay, after_slow, numbers_after, answer, IsHistoryFrom}
use Rattle.model_base.specs.Tokens.{is_token, given_back, holds_stop}
use Rattle.model_base.specs.Trace.{Trace}
use Rattle.model_base.specs.Attempts.{Attempt, succeeded, slowed, Fate, with_attempt}
use Rattle.model_base.specs.Groups.{Group, Member, IsCommit, MayProceed, is_slowed, HasOneFate, AreGroups}
use Rattle.model_base.specs.Progress.{Progress, fresh, early_refusal}
use Rattle.model_base.specs.Replies.{IsTold}
use Rattle.model_base.specs.Runs.{Run}
use Rattle.model_base.specs.Outcomes.{IsClient, IsLegal}
use Rattle.model_rows.specs.Examples.{put_a1, put_b2, plain, noslow}
use Rattle.model_rows.specs.Runs.{two_clients}
use Rattle.model_rows.specs.Ignored.{says_done, stopped_calls, stopped_script, others_stop_ignored}
use Rattle.model_rows.proofs.Alone.{some_same, all_at, zip_at}
use Rattle.model_rows.proofs.Steps.{run_of, is_accepted, is_attempted}

-- The equations: only a `stop` makes the stops more

keeps_by : (b : Bool) (x y : After) (n : ℕ) → x.numbers.stops ≡ n → y.numbers.stops ≡ n → (cond b x y).numbers.stops ≡ n
keeps_by true x y n p q = p
keeps_by false x y n p q = q

payment_keeps : (n : Numbers) (now bytes : ℕ) → (after_payment n now bytes).numbers.stops ≡ n.stops
payment_keeps n now bytes = keeps_by (nat_le bytes n.credit) (record { numbers = record n { credit = n.credit - bytes }; wait = 0 }) (after_debt n now bytes) n.stops refl refl

due_keeps : (n : Numbers) (now bytes : ℕ) → (after_due_refill n now bytes).numbers.stops ≡ n.stops
due_keeps n now bytes = keeps_by (nat_le n.next now) (after_payment (after_refill n now) now bytes) (after_debt n now bytes) n.stops (payment_keeps (after_refill n now) now bytes) refl

start_keeps : (n : Numbers) (now : ℕ) → (after_start n now).stops ≡ n.stops
start_keeps n now = by (n.next == 0)
  where
    by : (b : Bool) → (cond b (record n { next = now }) n).stops ≡ n.stops
    by true = refl
    by false = refl

pub delay_keeps : (n : Numbers) (now bytes : ℕ) → (after_delay n now bytes).numbers.stops ≡ n.stops
delay_keeps n now bytes =
    let due = due_keeps (after_start n now) now bytes ∙ start_keeps n now in
    let paid = keeps_by (nat_le bytes n.credit) (record { numbers = record n { credit = n.credit - bytes }; wait = 0 }) (after_due_refill (after_start n now) now bytes) n.stops refl due in
    keeps_by (nat_lt 0 n.stops || (n.delays == 0)) (record { numbers = n; wait = 0 }) (cond (nat_le bytes n.credit) (record { numbers = record n { credit = n.credit - bytes }; wait = 0 }) (after_due_refill (after_start n now) now bytes)) n.stops refl paid

pub slow_keeps : (n : Numbers) (rate : ℕ) → (after_slow n rate).stops ≡ n.stops
slow_keeps n rate = by (n.delays == 0)
  where
    by : (b : Bool) → (cond b (record n { credit = 0; next = 0 }) n).stops ≡ n.stops
    by true = refl
    by false = refl

-- How many stops are taken

abbrev pub one_if_stop : Action → ℕ
one_if_stop (controller.stop shown) = 1
one_if_stop (controller.unstop shown) = 0
one_if_stop (controller.slow rate shown) = 0
one_if_stop (controller.unslow shown) = 0
one_if_stop (controller.delay now bytes) = 0
one_if_stop controller.look = 0
one_if_stop (controller.say shown) = 0
one_if_stop (controller.hear most) = 0

abbrev pub stops_among : List Action → ℕ
stops_among [] = 0
stops_among (a ∷ actions) = one_if_stop a + stops_among actions

abbrev pub stops_in : List ControllerCall → ℕ
stops_in calls = stops_among (map (λ (t : ControllerCall). t.action) calls)

grows : (n : Numbers) (a : Action) → (numbers_after n a).stops ≤ n.stops + one_if_stop a
grows n (controller.stop shown) = omega arith
grows n (controller.unstop shown) = omega arith
grows n (controller.slow rate shown) = subst (λ (s : ℕ). s ≤ n.stops + 0) (sym (slow_keeps n rate)) (omega arith)
grows n (controller.unslow shown) = omega arith
grows n (controller.delay now bytes) = subst (λ (s : ℕ). s ≤ n.stops + 0) (sym (delay_keeps n now bytes)) (omega arith)
grows n controller.look = omega arith
grows n (controller.say shown) = omega arith
grows n (controller.hear most) = omega arith

-- a call that reports stops reports all that there are
pub reported : (n : Numbers) (a : Action) (l : Look) → answer n a ≡ Some l → l.stops ≡ n.stops
reported n (controller.delay now bytes) l is = ap (λ (m : Look). m.stops) (sym (some_same is))
reported n controller.look l is = ap (λ (m : Look). m.stops) (sym (some_same is))
reported n other l is = absurd (cc)

pub one_more : (u : ControllerCall) (calls : List ControllerCall) (n : ℕ) → stops_in (take (suc n) (u ∷ calls)) ≡ one_if_stop u.action + stops_in (take n calls)
one_more u calls n = refl

-- a call at a place reports no more stops than there were at first, and were taken before it
pub told_at_most : (n : Numbers) (calls : List ControllerCall) → IsHistoryFrom n calls → (place : ℕ) (t : ControllerCall) (l : Look) → slice_get calls place ≡ Some t → t.told ≡ Some l → l.stops ≤ n.stops + stops_in (take place calls)
told_at_most n [] history place t l there told = absurd (cc there)
told_at_most n (u ∷ calls) history zero t l there told =
    let same = reported n u.action l (sym history.0 ∙ ap (λ (x : ControllerCall). x.told) (some_same there) ∙ told) in omega (arith, same)
told_at_most n (u ∷ calls) history (suc place) t l there told =
    let most = told_at_most (numbers_after n u.action) calls history.1 place t l there told in
    let more = grows n u.action in
    let first = one_more u calls place in
    omega (arith, most, more, first)

-- between two calls at least as many stops are taken as the later one reports more
pub taken_between : (n : Numbers) (calls : List ControllerCall) → IsHistoryFrom n calls → (at place : ℕ) → at ≤ place → (t u : ControllerCall) (l m : Look) → slice_get calls at ≡ Some t → t.told ≡ Some l → slice_get calls place ≡ Some u → u.told ≡ Some m
    → m.stops + stops_in (take at calls) ≤ l.stops + stops_in (take place calls)
taken_between n [] history at place later t u l m there told_first last told_last = absurd (cc there)
taken_between n (x ∷ calls) history zero place later t u l m there told_first last told_last =
    let first = reported n x.action l (sym history.0 ∙ ap (λ (y : ControllerCall). y.told) (some_same there) ∙ told_first) in
    let most = told_at_most n (x ∷ calls) history place u m last told_last in
    let none : stops_in (take zero (x ∷ calls)) ≡ 0 = refl in
    omega (arith, first, most, none)
taken_between n (x ∷ calls) history (suc at) zero later t u l m there told_first last told_last = absurd (omega (arith, later))
taken_between n (x ∷ calls) history (suc at) (suc place) later t u l m there told_first last told_last =
    let rest = taken_between (numbers_after n x.action) calls history.1 at place (omega (arith, later)) t u l m there told_first last told_last in
    let first = one_more x calls at in
    let second = one_more x calls place in
    omega (arith, rest, first, second)

none_of_nothing : (n : ℕ) → stops_in (take n []) ≡ 0
none_of_nothing zero = refl
none_of_nothing (suc n) = refl

pub more_taken : (calls : List ControllerCall) (a b : ℕ) → a ≤ b → stops_in (take a calls) ≤ stops_in (take b calls)
more_taken [] a b later = let none = none_of_nothing a in omega (arith, none)
more_taken (t ∷ calls) zero b later = let none : stops_in (take zero (t ∷ calls)) ≡ 0 = refl in omega (arith, none)
more_taken (t ∷ calls) (suc a) zero later = absurd (omega (arith, later))
more_taken (t ∷ calls) (suc a) (suc b) later = let rest = more_taken calls a b (omega (arith, later)) in let first = one_more t calls a in let second = one_more t calls b in omega (arith, rest, first, second)

pub all_taken : (calls : List ControllerCall) (n : ℕ) → stops_in (take n calls) ≤ stops_in calls
all_taken [] n = let none = none_of_nothing n in omega (arith, none)
all_taken (t ∷ calls) zero = let none : stops_in (take zero (t ∷ calls)) ≡ 0 = refl in omega (arith, none)
all_taken (t ∷ calls) (suc n) = let rest = all_taken calls n in let first = one_more t calls n in omega (arith, rest, first)

-- Each stop is one of the two clients'

abbrev pub AreNamed : List ControllerCall → Type 0
AreNamed calls = AllByRecursion (λ (t : ControllerCall). IsTrue (is_token t.action) → IsClient two_clients t.client) calls

abbrev kept : Bool → Action → ℕ
kept true a = one_if_stop a
kept false a = 0

counted : (b : Bool) (t : ControllerCall) (rest : List ControllerCall) → stops_in (cond b (t ∷ rest) rest) ≡ kept b t.action + stops_in rest
counted true t rest = refl
counted false t rest = omega arith

one_kept : (shown : ℕ) (b c : Bool) → ((b ≡ true) ⊎ (c ≡ true)) → 1 ≤ kept (b && true) (controller.stop shown) + kept (c && true) (controller.stop shown)
one_kept shown true c which = omega arith
one_kept shown false true which = omega arith
one_kept shown false false (inl e) = absurd (cc e)
one_kept shown false false (inr e) = absurd (cc e)

is_kept : (client : ℕ) (a : Action) → (IsTrue (is_token a) → IsClient two_clients client) → one_if_stop a ≤ kept ((client == 1) && is_token a) a + kept ((client == 2) && is_token a) a
is_kept client (controller.stop shown) named =
    let is = named refl in
    let low = is.0 in
    let high = is.1 in
    one_kept shown (client == 1) (client == 2) (elim (cases_Bool (client == 1)) [
      | inl one ↦ inl one
      | inr other ↦ (let two : (client == 2) ≡ true = grind (arith, nat_tests) in inr two)
    ])
is_kept client (controller.unstop shown) named = omega arith
is_kept client (controller.slow rate shown) named = omega arith
is_kept client (controller.unslow shown) named = omega arith
is_kept client (controller.delay now bytes) named = omega arith
is_kept client controller.look named = omega arith
is_kept client (controller.say shown) named = omega arith
is_kept client (controller.hear most) named = omega arith

-- a client's token calls
abbrev pub of_client : ℕ → List ControllerCall → List ControllerCall
of_client client calls = filter (λ (t : ControllerCall). (t.client == client) && is_token t.action) calls

sums : (all one two a kept_one kept_two with_one with_two : ℕ) → all ≤ one + two → a ≤ kept_one + kept_two → with_one ≡ kept_one + one → with_two ≡ kept_two + two → a + all ≤ with_one + with_two
sums all one two a kept_one kept_two with_one with_two rest here is_one is_two = omega (arith, rest, here, is_one, is_two)

pub of_both : (calls : List ControllerCall) → AreNamed calls → stops_in calls ≤ stops_in (of_client 1 calls) + stops_in (of_client 2 calls)
of_both [] named = omega arith
of_both (t ∷ calls) named =
    let a = of_client 1 calls in
    let b = of_client 2 calls in
    let first = (t.client == 1) && is_token t.action in
    let second = (t.client == 2) && is_token t.action in
    sums (stops_in calls) (stops_in a) (stops_in b) (one_if_stop t.action) (kept first t.action) (kept second t.action) (stops_in (cond first (t ∷ a) a)) (stops_in (cond second (t ∷ b) b)) (of_both calls named.1) (is_kept t.client t.action named.0) (counted first t a)
    (counted second t b)

-- The group of a commit that wasn't held up

-- a call in the history, from this place on and before the other one, reported no stop
pub record SawFree (calls : List ControllerCall) (place decided : ℕ) : Type 0 where
  pub at : ℕ
  pub call : ControllerCall
  pub numbers : Look
  pub there : slice_get calls at ≡ Some call
  pub told : call.told ≡ Some numbers
  pub free : numbers.stops ≡ 0
  pub later : place ≤ at
  pub before : at < decided

may_see : (calls : List ControllerCall) (delays : List ℕ) (by place decided now bytes : ℕ) (numbers : Look) (no_slowdown : Bool) → no_slowdown ≡ false
    → slice_get calls place ≡ Some (record { client = by; action = controller.delay now bytes; told = Some numbers }) → place < decided → MayProceed calls delays by place decided numbers no_slowdown → SawFree calls place decided
may_see calls delays by place decided now bytes numbers true waits there later may = absurd (cc waits)
may_see calls delays by place decided now bytes numbers false waits there later (inl none) = record {
  at = place;
  call = record { client = by; action = controller.delay now bytes; told = Some numbers };
  numbers = numbers;
  there = there;
  told = refl;
  free = none;
  later = omega arith;
  before = later;
}
may_see calls delays by place decided now bytes numbers false waits there later (inr saw) = record {
  at = saw.at;
  call = record { client = by; action = controller.look; told = Some saw.numbers };
  numbers = saw.numbers;
  there = saw.there;
  told = refl;
  free = saw.free;
  later = (let behind = saw.behind in omega (arith, behind));
  before = saw.among;
}

at_last : (before : List Attempt) (own : Attempt) (more : List Attempt) → slice_get (before ++ own ∷ more) (length before) ≡ Some own
at_last [] own more = refl
at_last (h ∷ before) own more = at_last before own more

module _ (calls : List ControllerCall) (groups : List Group) (attempts : List (List Attempt)) (are_groups : AreGroups 1048576 calls groups attempts) (before : List Attempt) (own : Attempt) (more : List Attempt) (there : slice_get attempts 0 ≡ Some (before ++ own ∷ more))
    (waits : own.options.no_slowdown ≡ false) (went_on : is_slowed own.status ≡ false) (later : own.place < own.decided) where
  -- the commit that is a member of the group
  is_own : (m : Member) → m.client ≡ 1 → m.call ≡ length before → (c : IsCommit attempts m) → c.attempt ≡ own
  is_own m client call c =
      let number : c.number ≡ 0 = (let is = c.client in omega (arith, client, is)) in
      let commits : c.commits ≡ before ++ own ∷ more = some_same (sym c.of_client ∙ ap (slice_get attempts) number ∙ there) in
      some_same (sym c.there ∙ ap (slice_get c.commits) call ∙ ap (λ cs. slice_get cs (length before)) commits ∙ at_last before own more)

  stands : (g : Group) (m : Member) (among : ℕ) → slice_get g.members among ≡ Some m → m.client ≡ 1 → m.call ≡ length before → g.place ≡ own.place → HasOneFate calls groups attempts g → SawFree calls own.place own.decided
  stands g m among at client call here s =
      let one = zip_at _ g.members s.statuses among m s.are at in
      let is = is_own m client call one.2.0 in
      let not_slowed : is_slowed one.0 ≡ false = ap is_slowed (sym one.2.1 ∙ ap (λ (h : Attempt). h.status) is) ∙ went_on in
      let decided : own.decided ≡ s.decided = sym (ap (λ (h : Attempt). h.decided) is) ∙ one.2.3 in
      elim s.together [
        | inl slow ↦ (let slow_too : one.0 ≡ slowed = all_at (λ status. status ≡ slowed) s.statuses among one.0 slow one.1 in absurd (cc (ap is_slowed slow_too, not_slowed)))
        | inr on ↦ (
            let p = on.1 in
            let item = slice_get-map (λ (n : Member). n.item) g.members among ∙ ap (option_map (λ (n : Member). n.item)) at in
            let no_wait : m.item.options.no_slowdown ≡ false = ap (λ (i : Item). i.options.no_slowdown) one.2.0.item ∙ ap (λ (h : Attempt). h.options.no_slowdown) is ∙ waits in
            let saw = may_see calls (map (λ (h : Group). h.place) groups) p.by g.place s.decided p.now p.bytes p.numbers m.item.options.no_slowdown no_wait p.there (omega (arith, later, here, decided)) (all_at _ _ among m.item p.each item) in
            record {
              at = saw.at;
              call = saw.call;
              numbers = saw.numbers;
              there = saw.there;
              told = saw.told;
              free = saw.free;
              later = (let low = saw.later in omega (arith, low, here));
              before = (let high = saw.before in omega (arith, high, decided));
            })
      ]

  saw_free : SawFree calls own.place own.decided
  saw_free =
      let h = are_groups.none_else 0 (before ++ own ∷ more) (length before) own there (at_last before own more) in
      stands h.group h.member h.among h.there h.client_is h.call_is h.place_is (all_at (HasOneFate calls groups attempts) groups h.at h.group are_groups.together h.of_place)

-- one of client 1's attempts, which may wait, and whose leader asked for its delay and then let it go on
pub record WasLetOn (end : Progress) : Type 0 where
  pub before : List Attempt
  pub own : Attempt
  pub more : List Attempt
  pub attempts : end.attempts ≡ before ++ own ∷ more
  pub waits : own.options.no_slowdown ≡ false
  pub went_on : is_slowed own.status ≡ false
  pub later : own.place < own.decided

-- what let it go on reported no stop
pub let_on : (calls : List ControllerCall) (groups : List Group) (attempts : List (List Attempt)) → AreGroups 1048576 calls groups attempts → (end : Progress) → slice_get attempts 0 ≡ Some end.attempts → (w : WasLetOn end) → SawFree calls w.own.place w.own.decided
let_on calls groups attempts are_groups end there w = saw_free calls groups attempts are_groups w.before w.own w.more (there ∙ ap (λ h. Some h) w.attempts) w.waits w.went_on w.later

-- The clients' calls

-- a call in the history with this answer, from this place on and before the other one
pub record IsToldIn (calls : List ControllerCall) (low high : ℕ) (numbers : Look) : Type 0 where
  pub place : ℕ
  pub call : ControllerCall
  pub there : slice_get calls place ≡ Some call
  pub told : call.told ≡ Some numbers
  pub later : low ≤ place
  pub before : place < high

pub told_in_call : (calls : List ControllerCall) (stopping : Bool) (client knew knows : ℕ) (numbers : Look) (fate : Option Fate) → IsTold calls stopping client knew knows numbers fate → IsToldIn calls knew knows numbers
told_in_call calls stopping client knew knows numbers None told = record { place = told.1; call = record { client = told.0; action = controller.look; told = Some numbers }; there = told.2.there; told = refl; later = told.2.later; before = told.3 }
told_in_call calls stopping client knew knows numbers (Some fate) told =
    record { place = fate.place; call = record { client = told.0; action = controller.delay told.1 told.2; told = Some numbers }; there = told.3.there; told = refl; later = told.3.later; before = told.4 }

pub wider : (calls : List ControllerCall) (a b low high : ℕ) (numbers : Look) → low ≤ a → b ≤ high → IsToldIn calls a b numbers → IsToldIn calls low high numbers
wider calls a b low high numbers down up s =
    let later = s.later in
    let before = s.before in
    record { place = s.place; call = s.call; there = s.there; told = s.told; later = omega (arith, down, later); before = omega (arith, up, before) }

-- the commits pass the checks
pub passes : early_refusal 1 16777216 false (put_a1 ∷ []) noslow ≡ None
unfolding varint_within
passes = refl

passes_stopping : early_refusal 1 16777216 true (put_b2 ∷ []) noslow ≡ None
unfolding varint_within
passes_stopping = refl

-- client 1 learned of a stop before its accepted commit, and of two once it knew by what its leader had decided
record Learned (calls : List ControllerCall) (end : Progress) : Type 0 where
  accepted : WasLetOn end
  first : IsToldIn calls 0 accepted.own.place (record { stops = 1; delays = 0; wait = 0 })
  known : ℕ
  last : IsToldIn calls accepted.own.decided known (record { stops = 2; delays = 0; wait = 0 })
  shown : ℕ
  asked : end.asked ≡ controller.stop shown ∷ []

learned : (trace : Trace) (end : Progress) → Run two_clients trace 1 fresh stopped_calls end → Learned trace.controller_calls end
learned trace end run =
    let begun = run.0 in let refused_at = run.2.0 in let taken = run.2.2.0 in let stopped = run.2.2.2.0 in let again = run.2.2.2.2.0 in let last = run.2.2.2.2.2.0 in
    let adding = run.1.replies in
    let pending : begun.pending ≡ put_a1 ∷ [] = ap (λ (x : Progress). x.pending) adding in
    let asked : begun.asked ≡ [] = ap (λ (x : Progress). x.asked) adding in
    let first = is_attempted two_clients trace 1 begun noslow (refused (no.Incomplete 1 0 0)) refused_at (rw (pending, asked) passes) run.2.1.replies in
    let a = is_accepted two_clients trace 1 refused_at plain 1 1 (put_a1 ∷ []) taken run.2.2.1.replies in
    let shown : ℕ = run.2.2.2.1.replies.1 in
    let token = run.2.2.2.1.replies.2 in
    let adding_again = run.2.2.2.2.1.replies in
    let free : taken.asked ≡ [] = ap (λ (x : Progress). x.asked) a.after ∙ ap (λ (x : Progress). x.asked) first.2 ∙ asked in
    let stopping : again.asked ≡ controller.stop shown ∷ [] = ap (λ (x : Progress). x.asked) adding_again ∙ ap (λ (x : Progress). x.asked) token.after ∙ ap (λ actions. actions ++ controller.stop shown ∷ []) free in
    let none : taken.pending ≡ [] = ap (λ (x : Progress). x.pending) a.after in
    let pending_again : again.pending ≡ put_b2 ∷ [] = ap (λ (x : Progress). x.pending) adding_again ∙ ap (λ (x : Progress). x.pending ++ put_b2 ∷ []) token.after ∙ ap (λ records. records ++ put_b2 ∷ []) none in
    let second = is_attempted two_clients trace 1 again noslow (refused (no.Incomplete 2 0 0)) last (rw (pending_again, stopping) passes_stopping) run.2.2.2.2.2.1.replies in
    let outside = second.3 (ap holds_stop stopping) in
    let before_it = a.asked.0 in let after_it = a.asked.2 in
    let rises = run.2.2.2.1.rises in let rises_again = run.2.2.2.2.1.rises in
    record {
      accepted = record {
        before = refused_at.attempts;
        own = record { records = refused_at.pending; options = plain; status = succeeded; place = a.place; decided = a.decided };
        more = [];
        attempts = ap (λ (x : Progress). x.attempts) run.2.2.2.2.2.2 ∙ ap (λ (x : Progress). x.attempts) second.2 ∙ ap (with_attempt again.attempts again.pending noslow) outside
            ∙ ap (λ (x : Progress). x.attempts) adding_again ∙ ap (λ (x : Progress). x.attempts) token.after ∙ ap (λ (x : Progress). x.attempts) a.after;
        waits = refl;
        went_on = refl;
        later = a.asked.1;
      };
      first = wider trace.controller_calls begun.known refused_at.known 0 a.place _ (omega arith) before_it (told_in_call trace.controller_calls (holds_stop begun.asked) 1 begun.known refused_at.known _ first.0 first.1.1);
      known = last.known;
      last = wider trace.controller_calls again.known last.known a.decided last.known _ (omega (arith, after_it, rises, rises_again)) (omega arith)
          (told_in_call trace.controller_calls (holds_stop again.asked) 1 again.known last.known _ second.0 second.1.1);
      shown = shown;
      asked = ap (λ (x : Progress). x.asked) run.2.2.2.2.2.2 ∙ ap (λ (x : Progress). x.asked) second.2 ∙ stopping;
    }

-- client 2 takes one stop, and keeps it
stops_once : (trace : Trace) (end : Progress) → Run two_clients trace 2 fresh (says_done stop ∷ []) end → (shown : ℕ) × (end.asked ≡ controller.stop shown ∷ [])
stops_once trace end run = (run.1.replies.1, ap (λ (x : Progress). x.asked) run.2 ∙ ap (λ (x : Progress). x.asked) run.1.replies.2.after)

-- There are two stops. One was taken before the first refusal, so at most one after the call that reported none. But the
-- last refusal reports two.
pub not_ignored : (ended : ℕ) → IsLegal two_clients ended stopped_script others_stop_ignored → ⊥
not_ignored ended legal =
    let l = legal.legal in let trace = legal.trace in let calls = trace.controller_calls in let history = l.is_trace.controller_calls in
    let one = l.each 0 _ _ refl refl in let two = l.each 1 _ _ refl refl in let mine = one.2 in let other = two.2 in
    let s = learned trace mine.end (run_of two_clients trace 1 _ stopped_calls mine.end (λ e. cc) mine.is_transcript) in
    let token = stops_once trace other.end (run_of two_clients trace 2 _ (says_done stop ∷ []) other.end (λ e. cc) other.is_transcript) in
    let free = let_on calls l.groups legal.attempts l.are_groups mine.end (one.1 ∙ ap (λ h. Some h) mine.commits) s.accepted in
    let first = s.first in let last = s.last in
    let first_before = first.before in let free_later = free.later in let free_before = free.before in let last_later = last.later in
    let none = free.free in
    let at_first : 1 ≤ 0 + stops_in (take first.place calls) = told_at_most opening calls history first.place first.call _ first.there first.told in
    let early = more_taken calls first.place free.at (omega (arith, first_before, free_later)) in
    let since : 2 + stops_in (take free.at calls) ≤ free.numbers.stops + stops_in (take last.place calls) =
    taken_between opening calls history free.at last.place (omega (arith, free_before, last_later)) free.call last.call free.numbers _ free.there free.told last.there last.told in
    let all = all_taken calls last.place in
    let both = of_both calls l.is_trace.tokens in
    let of_one : stops_in (of_client 1 calls) ≡ 1 = ap stops_among (mine.tokens ∙ ap (λ asked. asked ++ given_back asked mine.shown) s.asked) in
    let of_two : stops_in (of_client 2 calls) ≡ 1 = ap stops_among (other.tokens ∙ ap (λ asked. asked ++ given_back asked other.shown) token.1) in
    omega (arith, none, at_first, early, since, all, both, of_one, of_two)
