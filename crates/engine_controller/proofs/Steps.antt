-- Each step keeps the rule of the controller's words.
use Rattle.std.proofs.Common.{◌≡◌, ◌≢◌, ℕ, ◌+◌, ◌≤◌, Bool, true, false, List, [], ◌∷◌, ◌++◌, set, sym, ap, ◌∙◌, refl, subst, ⊎_elim, arith, append_assoc}
use Rattle.std.specs.List.{AllByRecursion, sum_by}
use Rattle.std.proofs.lemmas.List.{append-nil}
use Rattle.std.proofs.lemmas.List.Sums.{sum_by-cons, sum_by-append}
use mathlib.Core.Option.{some}
use mathlib.Core.List.{IsPrefix}
use lib.ListN.{get_elem?}
use Rattle.atomic_table.proofs.Lists.{at_set, at_snoc}
use Rattle.model_base.specs.Controller as controller
use Rattle.model_base.specs.Controller.{numbers_after}
use Rattle.model_base.specs.Tokens.{holds_stop, holds_slow}
use Rattle.engine_controller.specs.declared.numbers.Numbers.{Numbers}
use Rattle.engine_controller.specs.declared.numbers.Action.{Action}
use Rattle.engine_controller.specs.declared.rule.Call.{Call}
use Rattle.engine_controller.specs.declared.rule.Observer.{Observer}
use Rattle.engine_controller.specs.declared.rule.Caller.{Caller}
use Rattle.engine_controller.specs.declared.rule.Caller.TheVariants.{Nobody, Client, Others}
use Rattle.engine_controller.specs.Numbers.{numbers_of, action_of, held_up_after, shown_after, token_weight}
use Rattle.engine_controller.specs.Rule.{numbers_at, held_up_at, shown_at, tokens_in, marked_of, AreMarked, asked_in, call, observer, client_view, covers, coverage, IsOfOthers, Fits, weight, tokens_held, share, total, Kept, IsInRange, Sees, Makes, MayCall}
use Rattle.engine_controller.specs.Passes.{token_in}
use Rattle.engine_controller.proofs.Totals.{sum_set, sum_snoc, sum_one, sum_two, sum_single, sum_at_most, all_append, all_map}
use Rattle.engine_controller.proofs.Histories.{numbers_append, held_up_append, shown_more}
use Rattle.engine_controller.proofs.Counted.{counted_more, marked_more}
use Rattle.engine_controller.proofs.Unchanged.{rate_after}
use Rattle.engine_controller.proofs.Asked.{same_client, not_that_client, asked_behind, asked_more, stop_held, slow_held, stops_count, delays_count}

abbrev Views : Type 0
Views = List (List Observer)

weight_none : (b : Bool) → weight b ≡ 0 → b ≡ false
weight_none true e = absurd (omega (arith, e))
weight_none false e = refl

held_at_most : (holds : List controller.Action → Bool) (s : Caller) (seen : List Call) → tokens_held holds (observer s seen) ≤ share (observer s seen)
held_at_most holds Nobody seen = omega arith
held_at_most holds (Client c) seen = weight_at_most (holds (asked_in c seen))
  where
    weight_at_most : (b : Bool) → weight b ≤ 1
    weight_at_most true = omega arith
    weight_at_most false = omega arith
held_at_most holds (Others known) seen = omega arith

total_at_most : (holds : List controller.Action → Bool) (views : Views) → total (tokens_held holds) views ≤ total share views
total_at_most holds views = sum_at_most (λ (v : List Observer). sum_by (tokens_held holds) v) (λ (v : List Observer). sum_by share v) (λ v. sum_at_most (tokens_held holds) share (λ u. held_at_most holds u.caller u.seen) v) views

pub in_range : (x : Numbers) (views : Views) → Kept x views → IsInRange x
in_range x views r = record {
  rate = r.rate;
  stops = omega (arith, r.stops, total_at_most holds_stop views, r.few);
  delays = omega (arith, r.delays, total_at_most holds_slow views, r.few);
}

-- One pass moves

module _ (x : Numbers) (views : Views) (id : ℕ) (v : List Observer) (r : Kept x views) (at : get_elem? views id ≡ some v) where
  pub moved : (y : Numbers) (w : List Observer) (calls : List Call) → numbers_of y ≡ numbers_at calls → y.held_up ≡ held_up_at calls → y.shown ≡ shown_at calls → y.tokens ≡ tokens_in calls → AreMarked calls → 1 ≤ y.rate → AllByRecursion (Fits calls) w
      → ((j : ℕ) (u : List Observer) → j ≢ id → get_elem? views j ≡ some u → AllByRecursion (Fits calls) u)
      → ((c : ℕ) → sum_by (coverage c) w ≡ sum_by (coverage c) v)
      → y.stops + sum_by (tokens_held holds_stop) v ≡ x.stops + sum_by (tokens_held holds_stop) w
      → y.delays + sum_by (tokens_held holds_slow) v ≡ x.delays + sum_by (tokens_held holds_slow) w
      → sum_by share w ≡ sum_by share v
      → Kept y (set views id w)
  moved y w calls n held_up shown tokens marks rate fits rest same stops delays shares = record {
    calls = calls;
    numbers = n;
    held_up = held_up;
    shown = shown;
    tokens = tokens;
    marks = marks;
    rate = rate;
    each = λ j u e. ⊎_elim (λ (t : (j ≡ id) × (w ≡ u)). subst (AllByRecursion (Fits calls)) t.1 fits) (λ (t : (j ≢ id) × (get_elem? views j ≡ some u)). rest j u t.0 t.1) (at_set views id j w u e);
    alone = λ c. omega (arith, sum_set (λ (u : List Observer). sum_by (coverage c) u) views id v w at, same c, r.alone c);
    stops = omega (arith, sum_set (λ (u : List Observer). sum_by (tokens_held holds_stop) u) views id v w at, stops, r.stops);
    delays = omega (arith, sum_set (λ (u : List Observer). sum_by (tokens_held holds_slow) u) views id v w at, delays, r.delays);
    few = omega (arith, sum_set (λ (u : List Observer). sum_by share u) views id v w at, shares, r.few);
  }

  pub forked : (left right : List Observer) → AllByRecursion (Fits r.calls) left → AllByRecursion (Fits r.calls) right
      → ((c : ℕ) → sum_by (coverage c) left + sum_by (coverage c) right ≡ sum_by (coverage c) v)
      → sum_by (tokens_held holds_stop) left + sum_by (tokens_held holds_stop) right ≡ sum_by (tokens_held holds_stop) v
      → sum_by (tokens_held holds_slow) left + sum_by (tokens_held holds_slow) right ≡ sum_by (tokens_held holds_slow) v
      → sum_by share left + sum_by share right ≡ sum_by share v
      → Kept x (set views id left ++ right ∷ [])
  forked left right fits fits' same stops delays shares = record {
    calls = r.calls;
    numbers = r.numbers;
    held_up = r.held_up;
    shown = r.shown;
    tokens = r.tokens;
    marks = r.marks;
    rate = r.rate;
    each = λ j u e. ⊎_elim
        (λ (was : get_elem? (set views id left) j ≡ some u).
        ⊎_elim (λ (t : (j ≡ id) × (left ≡ u)). subst (AllByRecursion (Fits r.calls)) t.1 fits) (λ (t : (j ≢ id) × (get_elem? views j ≡ some u)). r.each j u t.1) (at_set views id j left u was))
        (λ (is : right ≡ u). subst (AllByRecursion (Fits r.calls)) is fits')
        (at_snoc (set views id left) right u j e);
    alone = λ c. omega (arith, sum_snoc (λ (u : List Observer). sum_by (coverage c) u) (set views id left) right, sum_set (λ (u : List Observer). sum_by (coverage c) u) views id v left at, same c, r.alone c);
    stops = omega (arith, sum_snoc (λ (u : List Observer). sum_by (tokens_held holds_stop) u) (set views id left) right, sum_set (λ (u : List Observer). sum_by (tokens_held holds_stop) u) views id v left at, stops, r.stops);
    delays = omega (arith, sum_snoc (λ (u : List Observer). sum_by (tokens_held holds_slow) u) (set views id left) right, sum_set (λ (u : List Observer). sum_by (tokens_held holds_slow) u) views id v left at, delays, r.delays);
    few = omega (arith, sum_snoc (λ (u : List Observer). sum_by share u) (set views id left) right, sum_set (λ (u : List Observer). sum_by share u) views id v left at, shares, r.few);
  }

  -- it takes in the observers of another pass, which then has none
  pub merged : (other : ℕ) (w : List Observer) → ¬ (other ≡ id) → get_elem? (set views id (v ++ w)) other ≡ some w → Kept x (set (set views id (v ++ w)) other [])
  merged other w apart there =
      let here : get_elem? views other ≡ some w = ⊎_elim (λ (t : (other ≡ id) × ((v ++ w) ≡ w)). absurd (apart t.0)) (λ (t : (other ≢ id) × (get_elem? views other ≡ some w)). t.1) (at_set views id other (v ++ w) w there) in
      let both : AllByRecursion (Fits r.calls) (v ++ w) = all_append (Fits r.calls) v w (r.each id v at) (r.each other w here) in
      let sums : (f : Observer → ℕ) → total f (set (set views id (v ++ w)) other []) ≡ total f views = λ f. omega (
        arith,
        sum_set (λ (u : List Observer). sum_by f u) (set views id (v ++ w)) other w [] there,
        sum_set (λ (u : List Observer). sum_by f u) views id v (v ++ w) at,
        sum_by-append f v w,
      ) in
      record {
        calls = r.calls;
        numbers = r.numbers;
        held_up = r.held_up;
        shown = r.shown;
        tokens = r.tokens;
        marks = r.marks;
        rate = r.rate;
        each = λ j u e. ⊎_elim
            (λ (t : (j ≡ other) × ([] ≡ u)). subst (AllByRecursion (Fits r.calls)) t.1 tt)
            (λ (t : (j ≢ other) × (get_elem? (set views id (v ++ w)) j ≡ some u)).
            ⊎_elim (λ (s : (j ≡ id) × ((v ++ w) ≡ u)). subst (AllByRecursion (Fits r.calls)) s.1 both) (λ (s : (j ≢ id) × (get_elem? views j ≡ some u)). r.each j u s.1) (at_set views id j (v ++ w) u t.1))
            (at_set (set views id (v ++ w)) other j [] u e);
        alone = λ c. omega (arith, sums (coverage c), r.alone c);
        stops = r.stops ∙ sym (sums (tokens_held holds_stop));
        delays = r.delays ∙ sym (sums (tokens_held holds_slow));
        few = omega (arith, sums share, r.few);
      }

-- Calls

-- observers that don't cover a client still fit after that client's next call
fits_more : (calls : List Call) (c : ℕ) (a : Action) (u : List Observer) → sum_by (coverage c) u ≡ 0 → AllByRecursion (Fits calls) u → AllByRecursion (Fits (calls ++ call c a ∷ [])) u
fits_more calls c a [] none fits = tt
fits_more calls c a (s ∷ u) none fits =
    let f = fits.0 in
    let silent : covers s.caller c ≡ false = weight_none (covers s.caller c) (omega (arith, none, sum_by-cons (coverage c) s u)) in (
      record {
        rest = f.rest ++ call c a ∷ [];
        begins = sym (append_assoc s.seen f.rest (call c a ∷ [])) ∙ ap (λ l. l ++ call c a ∷ []) f.begins;
        behind = all_append (IsOfOthers s.caller) f.rest (call c a ∷ []) f.behind (silent, tt);
        first = f.first;
      },
      fits_more calls c a u (omega (arith, none, sum_by-cons (coverage c) s u)) fits.1,
    )

fits_whole : (c : ℕ) (calls : List Call) → Fits calls (observer (Client c) calls)
fits_whole c calls = record { rest = []; begins = append-nil calls; behind = tt; first = tt }

covers_once : (c : ℕ) (seen : List Call) → sum_by (coverage c) (client_view c seen) ≡ 1
covers_once c seen = sum_single (coverage c) (observer (Client c) seen) ∙ ap weight (same_client c)

-- observers that cover no client
pub record AreNotes (notes : List Observer) : Type 0 where
  pub cover : (c : ℕ) → sum_by (coverage c) notes ≡ 0
  pub stop : sum_by (tokens_held holds_stop) notes ≡ 0
  pub slow : sum_by (tokens_held holds_slow) notes ≡ 0
  pub share_is : sum_by share notes ≡ 0

pub no_notes : AreNotes []
no_notes = record { cover = λ c. refl; stop = refl; slow = refl; share_is = refl }

pub one_note : (seen : List Call) → AreNotes (observer Nobody seen ∷ [])
one_note seen = record {
  cover = λ c. sum_single (coverage c) (observer Nobody seen);
  stop = sum_single (tokens_held holds_stop) (observer Nobody seen);
  slow = sum_single (tokens_held holds_slow) (observer Nobody seen);
  share_is = sum_single share (observer Nobody seen);
}

module _ (id c : ℕ) (seen : List Call) (notes : List Observer) (quiet : AreNotes notes) where
  -- the history so far is seen
  pub sees_at : (x : Numbers) (views : Views) → Kept x views → get_elem? views id ≡ some (observer (Client c) seen ∷ notes)
      → (w : List Observer) × Kept x (set views id w) × Sees (observer (Client c) seen ∷ notes) x x w
  sees_at x views r at =
      let v : List Observer = observer (Client c) seen ∷ notes in
      let fits = r.each id v at in
      let mine = fits.0 in
      let w : List Observer = client_view c r.calls in
      let asked : asked_in c r.calls ≡ asked_in c seen = ap (asked_in c) (sym mine.begins) ∙ asked_behind c seen mine.rest mine.behind in
      let sums : (f : Observer → ℕ) → sum_by f notes ≡ 0 → f (observer (Client c) r.calls) ≡ f (observer (Client c) seen) → sum_by f w ≡ sum_by f v = λ f z e. omega (arith, sum_single f (observer (Client c) r.calls), sum_by-cons f (observer (Client c) seen) notes, z, e) in (
        w,
        moved x views id v r at x w r.calls r.numbers r.held_up r.shown r.tokens r.marks r.rate (fits_whole c r.calls, tt) (λ j u _ e. r.each j u e)
            (λ d. sums (coverage d) (quiet.cover d) refl)
            (ap (λ k. x.stops + k) (sym (sums (tokens_held holds_stop) quiet.stop (ap (λ l. weight (holds_stop l)) asked))))
            (ap (λ k. x.delays + k) (sym (sums (tokens_held holds_slow) quiet.slow (ap (λ l. weight (holds_slow l)) asked))))
            (sums share quiet.share_is refl),
        record {
          between = mine.rest;
          view = ap (client_view c) (sym mine.begins);
          others = all_map (IsOfOthers (Client c)) (λ (k : Call). k.client ≢ c) (λ k h. not_that_client k.client c h) mine.rest mine.behind;
          known = all_map (Fits r.calls) (λ (u : Observer). IsPrefix u.seen (seen ++ mine.rest)) (λ u f. (f.rest, f.begins ∙ sym mine.begins)) v fits;
          numbers = r.numbers ∙ ap numbers_at (sym mine.begins);
          shown = r.shown ∙ ap shown_at (sym mine.begins);
          tokens = r.tokens ∙ ap tokens_in (sym mine.begins);
          range = in_range x views r;
        },
      )

module _ (id c : ℕ) (seen : List Call) (a : Action) (may : MayCall a (asked_in c seen)) where
  -- a call is made
  pub makes_at : (x y : Numbers) (views : Views) → numbers_of y ≡ numbers_after (numbers_of x) (action_of a)
      → y.held_up ≡ held_up_after c x.held_up (numbers_of x) (action_of a) → y.shown ≡ shown_after x.shown (action_of a) → y.tokens ≡ x.tokens + token_weight (action_of a) → marked_of a ≤ x.tokens → Kept x views → get_elem? views id ≡ some (client_view c seen)
      → (w : List Observer) × Kept y (set views id w) × Makes a (client_view c seen) x w
  makes_at x y views new held_up shown tokens marked r at =
      let v : List Observer = client_view c seen in
      let mine = (r.each id v at).0 in
      let next : List Call = r.calls ++ call c a ∷ [] in
      let w : List Observer = client_view c next in
      let asked : asked_in c r.calls ≡ asked_in c seen = ap (asked_in c) (sym mine.begins) ∙ asked_behind c seen mine.rest mine.behind in
      let later : asked_in c next ≡ asked_in c seen ++ token_in (action_of a) = asked_more c r.calls a ∙ ap (λ l. l ++ token_in (action_of a)) asked in
      let stop : weight (holds_stop (asked_in c seen)) ≤ x.stops = omega (arith, r.stops, sum_one (λ (u : List Observer). sum_by (tokens_held holds_stop) u) views id v at, sum_single (tokens_held holds_stop) (observer (Client c) seen)) in
      let slow : weight (holds_slow (asked_in c seen)) ≤ x.delays = omega (arith, r.delays, sum_one (λ (u : List Observer). sum_by (tokens_held holds_slow) u) views id v at, sum_single (tokens_held holds_slow) (observer (Client c) seen)) in
      let stops : y.stops + weight (holds_stop (asked_in c seen)) ≡ x.stops + weight (holds_stop (asked_in c next)) =
      ap (λ n. n.stops + weight (holds_stop (asked_in c seen))) new ∙ stops_count a (numbers_of x) (asked_in c seen) may stop
      ∙ ap (λ b. x.stops + weight b) (sym (ap holds_stop later ∙ stop_held a (asked_in c seen))) in
      let delays : y.delays + weight (holds_slow (asked_in c seen)) ≡ x.delays + weight (holds_slow (asked_in c next)) =
      ap (λ n. n.delays + weight (holds_slow (asked_in c seen))) new ∙ delays_count a (numbers_of x) (asked_in c seen) may slow
      ∙ ap (λ b. x.delays + weight b) (sym (ap holds_slow later ∙ slow_held a (asked_in c seen))) in (
        w,
        moved x views id v r at y w next
            (new ∙ ap (λ n. numbers_after n (action_of a)) r.numbers ∙ sym (numbers_append controller.opening r.calls (call c a ∷ [])))
            (held_up ∙ (λ i. held_up_after c (r.held_up i) (r.numbers i) (action_of a)) ∙ sym (held_up_append 0 controller.opening r.calls (call c a ∷ [])))
            (shown ∙ ap (λ n. shown_after n (action_of a)) r.shown ∙ sym (shown_more r.calls c a))
            (tokens ∙ ap (λ n. n + token_weight (action_of a)) r.tokens ∙ sym (counted_more r.calls c a))
            (marked_more r.calls (call c a) r.marks (subst (λ n. marked_of a ≤ n) r.tokens marked))
            (subst (λ n. 1 ≤ n.rate) (sym new) (rate_after (numbers_of x) (action_of a) r.rate))
            (fits_whole c next, tt)
            (λ j u apart e. fits_more r.calls c a u (omega (arith, r.alone c, sum_two (λ (u : List Observer). sum_by (coverage c) u) views j id u v apart e at, covers_once c seen)) (r.each j u e))
            (λ d. sum_single (coverage d) (observer (Client c) next) ∙ sym (sum_single (coverage d) (observer (Client c) seen)))
            (omega (arith, stops, sum_single (tokens_held holds_stop) (observer (Client c) next), sum_single (tokens_held holds_stop) (observer (Client c) seen)))
            (omega (arith, delays, sum_single (tokens_held holds_slow) (observer (Client c) next), sum_single (tokens_held holds_slow) (observer (Client c) seen)))
            (sum_single share (observer (Client c) next) ∙ sym (sum_single share (observer (Client c) seen))),
        record {
          between = mine.rest;
          view = ap (λ l. client_view c (l ++ call c a ∷ [])) (sym mine.begins);
          others = all_map (IsOfOthers (Client c)) (λ (k : Call). k.client ≢ c) (λ k h. not_that_client k.client c h) mine.rest mine.behind;
          numbers = r.numbers ∙ ap numbers_at (sym mine.begins);
          held_up = r.held_up ∙ ap held_up_at (sym mine.begins);
          shown = r.shown ∙ ap shown_at (sym mine.begins);
          tokens = r.tokens ∙ ap tokens_in (sym mine.begins);
          own_stop = λ holds. subst (λ b. weight b ≤ x.stops) holds stop;
        },
      )
