-- What the methods of the cell require, shown for views that are known.
use Rattle.std.proofs.Common.{◌≡◌, ◌≢◌, ◌⊎◌, inl, inr, ⊎_elim, ℕ, zero, suc, ◌+◌, ◌^◌, ◌≤◌, ◌<◌, Bool, true, false, true≢false, List, [], ◌∷◌, ◌++◌, sym, ap, ◌∙◌, refl, subst, arith}
use Rattle.std.specs.Prelude.{◌==◌, ◌||◌, ◌&&◌, nat_lt, if◌then◌else◌}
use Rattle.std.specs.List.{AllByRecursion, sum_by}
use Rattle.std.proofs.lemmas.Bool.{cases_lt}
use Rattle.std.proofs.lemmas.Bool.Decides.{nat_tests}
use mathlib.Core.Option.{some, some-ne-none, some-injective}
use lib.ListN.{get_elem?}
use Rattle.atomic_table.proofs.Lists.{set_again}
use Rattle.crossbeam_utils.specs.Register.{Turns, TurnsAt, Forks, Merges}
use Rattle.model_base.specs.Controller as controller
use Rattle.model_base.specs.Controller.{numbers_after}
use Rattle.model_base.specs.Tokens.{holds_stop, holds_slow}
use Rattle.engine_controller.specs.declared.numbers.Numbers.{Numbers}
use Rattle.engine_controller.specs.declared.numbers.Action.{Action}
use Rattle.engine_controller.specs.declared.numbers.Action.TheVariants.{Look, Delay, Say, Hear}
use Rattle.engine_controller.specs.declared.rule.Call.{Call}
use Rattle.engine_controller.specs.declared.rule.Observer.{Observer}
use Rattle.engine_controller.specs.declared.rule.Caller.TheVariants.{Nobody, Client, Others}
use Rattle.engine_controller.specs.Numbers.{numbers_of, action_of, held_up_after, shown_after, token_weight}
use Rattle.engine_controller.specs.Rule.{asked_in, observer, client_view, others, note_of, fewer_others, next_client, covers, coverage, IsOfOthers, Fits, weight, tokens_held, share, total, Kept, Sees, Makes, is_free, Asks, Exchanges, Says, Closes, MayCall, marked_of}
use Rattle.engine_controller.proofs.Totals.{sum_single, all_map}
use Rattle.engine_controller.proofs.Counted.{none_marked}
use Rattle.engine_controller.proofs.Unchanged.{unslowed, freely_told}
use Rattle.engine_controller.proofs.Steps.{forked, merged, AreNotes, no_notes, sees_at, makes_at}

same_number : (m n : ℕ) → (m == n) ≡ true → m ≡ n
same_number m n e = grind (arith, nat_tests)

equal_number : (m n : ℕ) → m ≡ n → (m == n) ≡ true
equal_number m n e = grind (arith, nat_tests)

and_both : (a b : Bool) → (a && b) ≡ true → (a ≡ true) × (b ≡ true)
and_both true b e = (refl, e)
and_both false b e = absurd (true≢false (sym e))

-- whether some client stops or slows writes
pub is_free_at : (x : Numbers) → x.stops ≡ 0 → x.delays ≡ 0 → is_free x ≡ true
is_free_at x stops delays = rw (equal_number x.stops 0 stops, equal_number x.delays 0 delays) refl

pub is_not_free : (x : Numbers) → ((x.stops ≡ 0) × (x.delays ≢ 0)) ⊎ (x.stops ≢ 0) → is_free x ≡ false
is_not_free x either = by_case (x.stops == 0) (x.delays == 0) refl refl
  where
    by_case : (a b : Bool) → (x.stops == 0) ≡ a → (x.delays == 0) ≡ b → (a && b) ≡ false
    by_case true true p q = absurd (⊎_elim (λ (t : (x.stops ≡ 0) × (x.delays ≢ 0)). t.1 (same_number x.delays 0 q)) (λ (n : x.stops ≢ 0). n (same_number x.stops 0 p)) either)
    by_case true false p q = refl
    by_case false b p q = refl

-- Loads and exchanges

pub sees_turn : (id c : ℕ) (seen : List Call) (notes : List Observer) → AreNotes notes → (v : List Observer) → v ≡ observer (Client c) seen ∷ notes → Turns Kept id v (λ x. x) Sees
sees_turn id c seen notes quiet v is = subst (λ (u : List Observer). Turns Kept id u (λ x. x) Sees) (sym is) (λ x views r at. sees_at id c seen notes quiet x views r at)

-- a call that is no token call is counted as none
as_many : (n : ℕ) → n ≡ n + 0
as_many n = omega arith

-- what isn't said has no mark
unmarked : (n : ℕ) → 0 ≤ n
unmarked n = omega arith

pub looks_turn : (id c : ℕ) (seen : List Call) (v : List Observer) → v ≡ client_view c seen → Turns Kept id v (λ x. x) (λ v x _ w. Makes Look v x w)
looks_turn id c seen v is = subst (λ (u : List Observer). Turns Kept id u (λ x. x) (λ v x _ w. Makes Look v x w)) (sym is) (λ x views r at. makes_at id c seen Look tt x x views refl refl refl (as_many x.tokens) (unmarked x.tokens) r at)

asks_turn : (id c : ℕ) (seen : List Call) (now bytes : ℕ) (v : List Observer) → v ≡ client_view c seen → Turns Kept id v (λ x. x) (λ v x _ w. Asks (Delay now bytes) v x w)
asks_turn id c seen now bytes v is = subst (λ (u : List Observer). Turns Kept id u (λ x. x) (λ v x _ w. Asks (Delay now bytes) v x w)) (sym is) (λ x. by_case x (is_free x) refl)
  where
    by_case : (x : Numbers) (b : Bool) → is_free x ≡ b → TurnsAt Kept id (client_view c seen) x x (λ v x _ w. Asks (Delay now bytes) v x w)
    by_case x true e views r at =
        let free = and_both (x.stops == 0) (x.delays == 0) e in
        let stops : x.stops ≡ 0 = same_number x.stops 0 free.0 in
        let delays : x.delays ≡ 0 = same_number x.delays 0 free.1 in
        let made = makes_at id c seen (Delay now bytes) tt x x views (sym (ap (λ a. a.numbers) (unslowed (numbers_of x) now bytes delays)))
        (sym (freely_told c x.held_up (numbers_of x) now bytes stops delays)) refl (as_many x.tokens) (unmarked x.tokens) r at in
        (made.0, made.1, record { made = λ _. made.2; other = λ no. absurd (true≢false (sym e ∙ no)) })
    by_case x false e views r at =
        let seen_now = sees_at id c seen [] no_notes x views r at in
        (seen_now.0, seen_now.1, record { made = λ yes. absurd (true≢false (sym yes ∙ e)); other = λ _. seen_now.2 })

pub asks_picked : (id c : ℕ) (seen : List Call) (a : Action) (now bytes : ℕ) → a ≡ Delay now bytes → (v : List Observer) → v ≡ client_view c seen → Turns Kept id v (λ x. x) (λ v x _ w. Asks a v x w)
asks_picked id c seen a now bytes is v view = subst (λ (k : Action). Turns Kept id v (λ x. x) (λ v x _ w. Asks k v x w)) (sym is) (asks_turn id c seen now bytes v view)

hears_turn : (id c : ℕ) (seen : List Call) (most : ℕ) (v : List Observer) → v ≡ client_view c seen → Turns Kept id v (λ x. x) (λ v x _ w. Makes (Hear most) v x w)
hears_turn id c seen most v is = subst (λ (u : List Observer). Turns Kept id u (λ x. x) (λ v x _ w. Makes (Hear most) v x w)) (sym is)
    (λ x views r at. makes_at id c seen (Hear most) tt x x views refl refl refl (as_many x.tokens) (unmarked x.tokens) r at)

pub hears_picked : (id c : ℕ) (seen : List Call) (a : Action) (most : ℕ) → a ≡ Hear most → (v : List Observer) → v ≡ client_view c seen → Turns Kept id v (λ x. x) (λ v x _ w. Makes a v x w)
hears_picked id c seen a most is v view = subst (λ (k : Action). Turns Kept id v (λ x. x) (λ v x _ w. Makes k v x w)) (sym is) (hears_turn id c seen most v view)

says_turn : (id c : ℕ) (seen : List Call) (shown marked : ℕ) (v : List Observer) → v ≡ client_view c seen → Turns Kept id v (λ x. x) (λ v x _ w. Says (Say shown marked) v x w)
says_turn id c seen shown marked v is = subst (λ (u : List Observer). Turns Kept id u (λ x. x) (λ v x _ w. Says (Say shown marked) v x w)) (sym is) (λ x. by_case x (cases_lt x.tokens marked))
  where
    by_case : (x : Numbers) → (x.tokens < marked) ⊎ (marked ≤ x.tokens) → TurnsAt Kept id (client_view c seen) x x (λ v x _ w. Says (Say shown marked) v x w)
    by_case x (inl few) views r at =
        let seen_now = sees_at id c seen [] no_notes x views r at in
        (seen_now.0, seen_now.1, record { made = λ enough. absurd (omega (arith, few, enough)); other = λ _. seen_now.2 })
    by_case x (inr enough) views r at =
        let made = makes_at id c seen (Say shown marked) tt x x views refl refl refl (as_many x.tokens) enough r at in
        (made.0, made.1, record { made = λ _. made.2; other = λ few. absurd (omega (arith, few, enough)) })

pub says_picked : (id c : ℕ) (seen : List Call) (a : Action) (shown marked : ℕ) → a ≡ Say shown marked → (v : List Observer) → v ≡ client_view c seen → Turns Kept id v (λ x. x) (λ v x _ w. Says a v x w)
says_picked id c seen a shown marked is v view = subst (λ (k : Action). Turns Kept id v (λ x. x) (λ v x _ w. Says k v x w)) (sym is) (says_turn id c seen shown marked v view)

exchange_turn : (eq : Numbers → Numbers → Bool) → ((x y : Numbers) → eq x y ≡ true → x ≡ y) → ((x y : Numbers) → x ≡ y → eq x y ≡ true)
    → (id c : ℕ) (seen : List Call) (a : Action) (found new : Numbers) → MayCall a (asked_in c seen) → numbers_of new ≡ numbers_after (numbers_of found) (action_of a)
    → new.held_up ≡ held_up_after c found.held_up (numbers_of found) (action_of a) → new.shown ≡ shown_after found.shown (action_of a)
    → new.tokens ≡ found.tokens + token_weight (action_of a) → marked_of a ≡ 0
    → (v : List Observer) → v ≡ client_view c seen → Turns Kept id v (λ x. if eq x found then new else x) (λ v x _ w. Exchanges a found v x w)
exchange_turn eq same here id c seen a found new may next held_up shown tokens unsaid v is =
    subst (λ (u : List Observer). Turns Kept id u (λ x. if eq x found then new else x) (λ v x _ w. Exchanges a found v x w)) (sym is) (λ x. by_case x (eq x found) refl)
  where
    by_case : (x : Numbers) (b : Bool) → eq x found ≡ b → TurnsAt Kept id (client_view c seen) x (if b then new else x) (λ v x _ w. Exchanges a found v x w)
    by_case x true e views r at =
        let is : x ≡ found = same x found e in
        let made = makes_at id c seen a may x new views (next ∙ ap (λ n. numbers_after (numbers_of n) (action_of a)) (sym is))
        (held_up ∙ ap (λ n. held_up_after c n.held_up (numbers_of n) (action_of a)) (sym is)) (shown ∙ ap (λ (n : Numbers). shown_after n.shown (action_of a)) (sym is))
        (tokens ∙ ap (λ (n : Numbers). n.tokens + token_weight (action_of a)) (sym is)) (omega (arith, unsaid)) r at in
        (made.0, made.1, record { made = λ _. made.2; other = λ ne. absurd (ne is) })
    by_case x false e views r at =
        let seen_now = sees_at id c seen [] no_notes x views r at in
        (seen_now.0, seen_now.1, record { made = λ is. absurd (true≢false (sym (here x found is) ∙ e)); other = λ _. seen_now.2 })

pub closes_turn : (id : ℕ) (v : List Observer) → Turns Kept id v (λ x. x) (λ v _ _ w. Closes v w)
closes_turn id v x views r at = (v, subst (Kept x) (sym (set_again views id v at)) r, record { view = refl; calls = r.calls; fits = r.each id v at; marks = r.marks })

-- Opening

total_one : (f : Observer → ℕ) (u : Observer) → total f ((u ∷ []) ∷ []) ≡ f u
total_one f u = sum_single (λ (v : List Observer). sum_by f v) (u ∷ []) ∙ sum_single f u

weight_at_most : (b : Bool) → weight b ≤ 1
weight_at_most true = omega arith
weight_at_most false = omega arith

pub begins : (x : Numbers) → numbers_of x ≡ controller.opening → x.held_up ≡ 0 → x.shown ≡ 0 → x.tokens ≡ 0 → Kept x (others 0 ∷ [])
begins x is held_up shown tokens = record {
  calls = [];
  numbers = is;
  held_up = held_up;
  shown = shown;
  tokens = tokens;
  marks = none_marked;
  rate = subst (λ n. 1 ≤ n.rate) (sym is) (omega arith);
  each = each;
  alone = λ c. omega (arith, total_one (coverage c) (observer (Others 0) []), weight_at_most (covers (Others 0) c));
  stops = ap (λ n. n.stops) is ∙ sym (total_one (tokens_held holds_stop) (observer (Others 0) []));
  delays = ap (λ n. n.delays) is ∙ sym (total_one (tokens_held holds_slow) (observer (Others 0) []));
  few = omega (arith, total_one share (observer (Others 0) []));
}
  where
    each : (i : ℕ) (v : List Observer) → get_elem? (others 0 ∷ []) i ≡ some v → AllByRecursion (Fits []) v
    each zero v e = subst (AllByRecursion (Fits [])) (some-injective (others 0) v e) (record { rest = []; begins = refl; behind = tt; first = refl }, tt)
    each (suc i) v e = absurd (some-ne-none v (sym e))

-- a client that the others cover is the next client, or is still covered by the others once the next client is cut off
cut_as : (c k : ℕ) (z l m e : Bool) → (c == 0) ≡ z → nat_lt k c ≡ l → nat_lt (k + 1) c ≡ m → (c == (k + 1)) ≡ e → weight (z || m) + weight e ≡ weight (z || l)
cut_as c k true l m true p q r s = absurd (grind (arith, nat_tests))
cut_as c k true l m false p q r s = refl
cut_as c k false true true true p q r s = absurd (grind (arith, nat_tests))
cut_as c k false true true false p q r s = refl
cut_as c k false true false true p q r s = refl
cut_as c k false true false false p q r s = absurd (grind (arith, nat_tests))
cut_as c k false false true e p q r s = absurd (grind (arith, nat_tests))
cut_as c k false false false true p q r s = absurd (grind (arith, nat_tests))
cut_as c k false false false false p q r s = refl

cut : (c k : ℕ) → weight (covers (Others (k + 1)) c) + weight (covers (Client (k + 1)) c) ≡ weight (covers (Others k) c)
cut c k = cut_as c k (c == 0) (nat_lt k c) (nat_lt (k + 1) c) (c == (k + 1)) refl refl refl refl

fewer : (c k : ℕ) → covers (Others k) c ≡ false → covers (Others (k + 1)) c ≡ false
fewer c k h = fewer_as (covers (Others (k + 1)) c) (covers (Client (k + 1)) c) (cut c k ∙ ap weight h)
  where
    fewer_as : (a b : Bool) → weight a + weight b ≡ 0 → a ≡ false
    fewer_as true b e = absurd (omega (arith, e))
    fewer_as false b e = refl

not_next : (c k : ℕ) → covers (Others k) c ≡ false → covers (Client (k + 1)) c ≡ false
not_next c k h = next_as (covers (Others (k + 1)) c) (covers (Client (k + 1)) c) (cut c k ∙ ap weight h)
  where
    next_as : (a b : Bool) → weight a + weight b ≡ 0 → b ≡ false
    next_as a true e = absurd (omega (arith, e))
    next_as a false e = refl

pub cuts : (id k : ℕ) → k < 2 ^ 32 → (v : List Observer) → v ≡ others k → Forks Kept id v (fewer_others v) (next_client v)
cuts id k few v is = subst (λ (u : List Observer). Forks Kept id u (fewer_others u) (next_client u)) (sym is) cut_off
  where
    cut_off : Forks Kept id (others k) (others (k + 1)) (client_view (k + 1) [])
    cut_off x views r at =
        let mine = (r.each id (others k) at).0 in
        let left : Observer = observer (Others (k + 1)) [] in
        let right : Observer = observer (Client (k + 1)) [] in
        let was : Observer = observer (Others k) [] in
        forked x views id (others k) r at (others (k + 1)) (client_view (k + 1) []) (
          record {
            rest = mine.rest;
            begins = mine.begins;
            behind = all_map (IsOfOthers (Others k)) (IsOfOthers (Others (k + 1))) (λ (n : Call) h. fewer n.client k h) mine.rest mine.behind;
            first = refl;
          },
          tt,
        )
        (record { rest = mine.rest; begins = mine.begins; behind = all_map (IsOfOthers (Others k)) (IsOfOthers (Client (k + 1))) (λ (n : Call) h. not_next n.client k h) mine.rest mine.behind; first = tt }, tt)
        (λ c. omega (arith, sum_single (coverage c) left, sum_single (coverage c) right, sum_single (coverage c) was, cut c k))
        (omega (arith, sum_single (tokens_held holds_stop) left, sum_single (tokens_held holds_stop) right, sum_single (tokens_held holds_stop) was))
        (omega (arith, sum_single (tokens_held holds_slow) left, sum_single (tokens_held holds_slow) right, sum_single (tokens_held holds_slow) was))
        (omega (arith, sum_single share left, sum_single share right, sum_single share was, few))

pub fewer_is : (k : ℕ) (rest left : List Observer) → left ≡ fewer_others rest → rest ≡ others k → left ≡ others (k + 1)
fewer_is k rest left cut is = cut ∙ ap fewer_others is

pub next_is : (k j : ℕ) (rest next : List Observer) → next ≡ next_client rest → rest ≡ others k → j ≡ k → next ≡ client_view (j + 1) []
next_is k j rest next cut is same = cut ∙ ap next_client is ∙ ap (λ n. client_view (n + 1) []) (sym same)

-- Notes and whole views

pub copies : (id c : ℕ) (seen : List Call) (v : List Observer) → v ≡ client_view c seen → Forks Kept id v v (note_of v)
copies id c seen v is = subst (λ (u : List Observer). Forks Kept id u u (note_of u)) (sym is) copy
  where
    copy : Forks Kept id (client_view c seen) (client_view c seen) (observer Nobody seen ∷ [])
    copy x views r at =
        let fits = r.each id (client_view c seen) at in
        let note : Observer = observer Nobody seen in
        forked x views id (client_view c seen) r at (client_view c seen) (note ∷ []) fits
        (record { rest = fits.0.rest; begins = fits.0.begins; behind = all_map (IsOfOthers (Client c)) (IsOfOthers Nobody) (λ k h. refl) fits.0.rest fits.0.behind; first = tt }, tt)
        (λ d. omega (arith, sum_single (coverage d) note))
        (omega (arith, sum_single (tokens_held holds_stop) note))
        (omega (arith, sum_single (tokens_held holds_slow) note))
        (omega (arith, sum_single share note))

-- a note is copied as a client's view is
pub note_copies : (id : ℕ) (seen : List Call) (v : List Observer) → v ≡ observer Nobody seen ∷ [] → Forks Kept id v v (note_of v)
note_copies id seen v is = subst (λ (u : List Observer). Forks Kept id u u (note_of u)) (sym is) copy
  where
    copy : Forks Kept id (observer Nobody seen ∷ []) (observer Nobody seen ∷ []) (observer Nobody seen ∷ [])
    copy x views r at =
        let note : Observer = observer Nobody seen in
        let fits = r.each id (note ∷ []) at in
        forked x views id (note ∷ []) r at (note ∷ []) (note ∷ []) fits fits
        (λ d. omega (arith, sum_single (coverage d) note))
        (omega (arith, sum_single (tokens_held holds_stop) note))
        (omega (arith, sum_single (tokens_held holds_slow) note))
        (omega (arith, sum_single share note))

pub moves : (id : ℕ) (v : List Observer) → Forks Kept id v [] v
moves id v x views r at = forked x views id v r at [] v tt (r.each id v at) (λ c. omega arith) (omega arith) (omega arith) (omega arith)

pub joins : (id other : ℕ) (v w : List Observer) → Merges Kept id v other w (v ++ w) []
joins id other v w x views r at apart there = merged x views id v r at other w apart there

-- Numbers are compared field by field

abbrev pub eq_numbers : Numbers → Numbers → Bool
eq_numbers x y = (x.stops == y.stops) && ((x.delays == y.delays) && ((x.rate == y.rate) && ((x.credit == y.credit) && ((x.next == y.next) && ((x.held_up == y.held_up) && ((x.shown == y.shown) && (x.tokens == y.tokens)))))))

pub eq_same : (x y : Numbers) → eq_numbers x y ≡ true → x ≡ y
eq_same x y e =
    let a = and_both (x.stops == y.stops) _ e in
    let b = and_both (x.delays == y.delays) _ a.1 in
    let c = and_both (x.rate == y.rate) _ b.1 in
    let d = and_both (x.credit == y.credit) _ c.1 in
    let f = and_both (x.next == y.next) _ d.1 in
    let stops = same_number x.stops y.stops a.0 in
    let delays = same_number x.delays y.delays b.0 in
    let rate = same_number x.rate y.rate c.0 in
    let credit = same_number x.credit y.credit d.0 in
    let next = same_number x.next y.next f.0 in
    let h = and_both (x.held_up == y.held_up) _ f.1 in
    let held_up = same_number x.held_up y.held_up h.0 in
    let k = and_both (x.shown == y.shown) _ h.1 in
    let shown = same_number x.shown y.shown k.0 in
    let tokens = same_number x.tokens y.tokens k.1 in
    λ i. record { stops = stops i; delays = delays i; rate = rate i; credit = credit i; next = next i; held_up = held_up i; shown = shown i; tokens = tokens i }

pub eq_here : (x y : Numbers) → x ≡ y → eq_numbers x y ≡ true
eq_here x y e = subst (λ (z : Numbers). eq_numbers x z ≡ true) e (whole x)
  where
    whole : (x : Numbers) → eq_numbers x x ≡ true
    whole x = rw (equal_number x.stops x.stops refl, equal_number x.delays x.delays refl, equal_number x.rate x.rate refl, equal_number x.credit x.credit refl, equal_number x.next x.next refl, equal_number x.held_up x.held_up refl, equal_number x.shown x.shown refl, equal_number x.tokens x.tokens refl) refl

pub exchanges : (eq : Numbers → Numbers → Bool) → ((x y : Numbers) → eq x y ≡ true → x ≡ y) → ((x y : Numbers) → x ≡ y → eq x y ≡ true)
    → (id c : ℕ) (seen : List Call) (a b : Action) (found again new : Numbers) → a ≡ b → again ≡ found → MayCall b (asked_in c seen) → numbers_of new ≡ numbers_after (numbers_of found) (action_of b)
    → new.held_up ≡ held_up_after c found.held_up (numbers_of found) (action_of b) → new.shown ≡ shown_after found.shown (action_of b)
    → new.tokens ≡ found.tokens + token_weight (action_of b) → marked_of b ≡ 0
    → (v : List Observer) → v ≡ client_view c seen → Turns Kept id v (λ x. if eq x found then new else x) (λ v x _ w. Exchanges a again v x w)
exchanges eq same here id c seen a b found again new is at may next held_up shown tokens unsaid v view =
    subst (λ (k : Action). Turns Kept id v (λ x. if eq x found then new else x) (λ v x _ w. Exchanges k again v x w)) (sym is)
    (subst (λ (n : Numbers). Turns Kept id v (λ x. if eq x found then new else x) (λ v x _ w. Exchanges b n v x w)) (sym at) (exchange_turn eq same here id c seen b found new may next held_up shown tokens unsaid v view))
