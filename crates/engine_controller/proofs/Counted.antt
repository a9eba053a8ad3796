-- How many token calls there are among calls, and which of them come before a client's newest one.
use Rattle.std.proofs.Common.{◌≡◌, ℕ, zero, suc, ◌+◌, ◌<◌, ◌≤◌, Bool, true, false, true≢false, List, [], ◌∷◌, ◌++◌, length, take, drop, Some, sym, ap, ◌∙◌, refl, subst, arith, ⊎_elim}
use Rattle.std.proofs.lemmas.List.{take-append-drop, take-append-le, take-take, take_at, take_all, length_push}
use Rattle.std.proofs.lemmas.Bool.Decides.{nat_tests}
use Rattle.std.specs.Prelude.{slice_get, ◌==◌, ◌||◌, ◌&&◌, nat_lt, if◌then◌else◌}
use Rattle.std.specs.List.{AllByRecursion}
use Rattle.model_base.specs.Tokens.{is_token}
use Rattle.engine_controller.specs.declared.rule.Call.{Call}
use Rattle.engine_controller.specs.declared.numbers.Action.{Action}
use Rattle.engine_controller.specs.Numbers.{action_of, token_weight}
use Rattle.engine_controller.specs.Rule.{call, tokens_in, newest_token, marked_of, AreMarked}
use Rattle.engine_controller.specs.Passes.{own_front}
use Rattle.engine_controller.proofs.Totals.{get_snoc, get_within}

pub counted_append : (xs ys : List Call) → tokens_in (xs ++ ys) ≡ tokens_in xs + tokens_in ys
counted_append [] ys = omega arith
counted_append (c ∷ xs) ys = let rest = counted_append xs ys in omega (arith, rest)

pub counted_more : (calls : List Call) (client : ℕ) (a : Action) → tokens_in (calls ++ call client a ∷ []) ≡ tokens_in calls + token_weight (action_of a)
counted_more calls client a =
    let one : token_weight (action_of a) + 0 ≡ token_weight (action_of a) = omega arith in
    counted_append calls (call client a ∷ []) ∙ ap (λ n. tokens_in calls + n) one

-- the first of these calls aren't more
pub counted_take : (n : ℕ) (calls : List Call) → tokens_in (take n calls) ≤ tokens_in calls
counted_take n calls =
    let both = counted_append (take n calls) (drop n calls) in
    let all = ap tokens_in (take-append-drop n calls) in
    omega (arith, both, all)

pub counted_fewer : (m n : ℕ) (calls : List Call) → m ≤ n → tokens_in (take m calls) ≤ tokens_in (take n calls)
counted_fewer m n calls less = subst (λ (l : List Call). tokens_in l ≤ tokens_in (take n calls)) (take-take m n calls less) (counted_take m (take n calls))

-- one call more is taken
pub counted_next : (calls : List Call) (at : ℕ) (k : Call) → slice_get calls at ≡ Some k → tokens_in (take (suc at) calls) ≡ tokens_in (take at calls) + token_weight (action_of k.action)
counted_next [] at k e = absurd (cc (e))
counted_next (c ∷ calls) zero k e =
    let is : c ≡ k = cc (e) in
    let same : token_weight (action_of c.action) ≡ token_weight (action_of k.action) = ap (λ (x : Call). token_weight (action_of x.action)) is in
    omega (arith, same)
counted_next (c ∷ calls) (suc at) k e = let rest = counted_next calls at k e in omega (arith, rest)

-- Marks

pub none_marked : AreMarked []
none_marked at c e = absurd (cc (e))

-- a call whose mark isn't above the token calls before it
pub marked_more : (calls : List Call) (k : Call) → AreMarked calls → marked_of k.action ≤ tokens_in calls → AreMarked (calls ++ k ∷ [])
marked_more calls k marks last at c e =
    ⊎_elim
    (λ (was : slice_get calls at ≡ Some c).
    let low = get_within calls c at was in
    subst (λ (l : List Call). marked_of c.action ≤ tokens_in l) (sym (take-append-le at calls (k ∷ []) (omega (arith, low)))) (marks at c was))
    (λ (t : (at ≡ length calls) × (k ≡ c)).
    subst (λ (x : Call). marked_of x.action ≤ tokens_in (take at (calls ++ k ∷ []))) t.1
    (subst (λ (l : List Call). marked_of k.action ≤ tokens_in l) (sym (take_at calls (k ∷ []) at (sym t.0))) last))
    (get_snoc calls k c at e)

-- The newest token call of a client

-- the call is a token call of the client's
abbrev pub is_own_token : ℕ → Call → Bool
is_own_token c k = (k.client == c) && is_token (action_of k.action)

-- none of these calls is a token call of the client's
abbrev pub HasNoToken : ℕ → List Call → Type 0
HasNoToken c calls = AllByRecursion (λ (k : Call). is_own_token c k ≡ false) calls

-- how far the newest one is, after one call more at the front
abbrev newest_if : ℕ → Bool → ℕ
newest_if n own = if nat_lt 0 n || own then n + 1 else 0

none_newest : (c : ℕ) (calls : List Call) → HasNoToken c calls → newest_token c calls ≡ 0
none_newest c [] h = refl
none_newest c (k ∷ calls) h = (λ i. newest_if (none_newest c calls h.1 i) (h.0 i))

newest_behind : (c : ℕ) (xs ys : List Call) → HasNoToken c ys → newest_token c (xs ++ ys) ≡ newest_token c xs
newest_behind c [] ys h = none_newest c ys h
newest_behind c (k ∷ xs) ys h = ap (λ n. newest_if n (is_own_token c k)) (newest_behind c xs ys h)

newest_within : (c : ℕ) (calls : List Call) → newest_token c calls ≤ length calls
newest_within c [] = omega arith
newest_within c (k ∷ calls) = within (nat_lt 0 (newest_token c calls) || is_own_token c k) (newest_token c calls) (length calls) (newest_within c calls)
  where
    within : (b : Bool) (n m : ℕ) → n ≤ m → (if b then n + 1 else 0) ≤ suc m
    within true n m low = omega (arith, low)
    within false n m low = omega arith

newest_last : (c : ℕ) (calls : List Call) (k : Call) → is_own_token c k ≡ true → newest_token c (calls ++ k ∷ []) ≡ length (calls ++ k ∷ [])
newest_last c [] k own = ap (newest_if 0) own
newest_last c (x ∷ calls) k own =
    more (is_own_token c x) (newest_token c (calls ++ k ∷ [])) (length (calls ++ k ∷ [])) (newest_last c calls k own) (let long = length_push calls k in omega (arith, long))
  where
    more : (b : Bool) (n m : ℕ) → n ≡ m → 0 < m → newest_if n b ≡ suc m
    more b n m is some =
        let yes : nat_lt 0 n ≡ true = grind (arith, nat_tests) in
        rw yes (omega (arith, is))

newest_after : (c : ℕ) (calls : List Call) (at : ℕ) (k : Call) → slice_get calls at ≡ Some k → is_own_token c k ≡ true → at < newest_token c calls
newest_after c [] at k e own = absurd (cc (e))
newest_after c (x ∷ calls) zero k e own =
    let is : x ≡ k = cc (e) in
    at_once (is_own_token c x) (newest_token c calls) (ap (is_own_token c) is ∙ own)
  where
    at_once : (b : Bool) (n : ℕ) → b ≡ true → 0 < newest_if n b
    at_once true n t = either (nat_lt 0 n)
      where
        either : (b : Bool) → 0 < (if b || true then n + 1 else 0)
        either true = omega arith
        either false = omega arith
    at_once false n t = absurd (true≢false (sym t))
newest_after c (x ∷ calls) (suc at) k e own = later (is_own_token c x) (newest_token c calls) (newest_after c calls at k e own)
  where
    later : (b : Bool) (n : ℕ) → at < n → suc at < newest_if n b
    later b n low =
        let yes : nat_lt 0 n ≡ true = grind (arith, nat_tests) in
        rw yes (omega (arith, low))

-- calls that are no token calls of the client's leave those up to its newest one as they are
pub front_behind : (c : ℕ) (xs ys : List Call) → HasNoToken c ys → own_front c (xs ++ ys) ≡ own_front c xs
front_behind c xs ys h = ap (λ n. take n (xs ++ ys)) (newest_behind c xs ys h) ∙ take-append-le (newest_token c xs) xs ys (newest_within c xs)

-- after a token call of the client's these are all calls
pub front_token : (c : ℕ) (calls : List Call) (k : Call) → is_own_token c k ≡ true → own_front c (calls ++ k ∷ []) ≡ calls ++ k ∷ []
front_token c calls k own =
    let last = newest_last c calls k own in
    take_all (newest_token c (calls ++ k ∷ [])) (calls ++ k ∷ []) (omega (arith, last))

-- the calls up to a token call of the client's are among those up to its newest one
pub front_after : (c : ℕ) (calls : List Call) (at : ℕ) (k : Call) → slice_get calls at ≡ Some k → is_own_token c k ≡ true → tokens_in (take (at + 1) calls) ≤ tokens_in (own_front c calls)
front_after c calls at k e own =
    let low = newest_after c calls at k e own in
    subst (λ (l : List Call). tokens_in l ≤ tokens_in (own_front c calls)) (take-take (at + 1) (newest_token c calls) calls (omega (arith, low))) (counted_take (at + 1) (own_front c calls))

pub front_fewer : (c : ℕ) (calls : List Call) → tokens_in (own_front c calls) ≤ tokens_in calls
front_fewer c calls = counted_take (newest_token c calls) calls
