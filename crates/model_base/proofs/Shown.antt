-- What clients had been shown as they took tokens or gave them back, and what calls say: in more calls it is no less.
use Rattle.std.proofs.Common.{◌≡◌, ℕ, zero, suc, ◌+◌, ◌≤◌, max, false, true≢false, IsTrue, Some, slice_get, List, [], ◌∷◌, ◌++◌, fold, take, sym, ap, ◌∙◌, arith}
use Rattle.std.proofs.lemmas.List.Sums.{fold-append}
use Rattle.std.specs.List.{AllByRecursion}
use mathlib.Core.List.{IsPrefix}
use Rattle.model_base.specs.Controller.{ControllerCall}
use Rattle.model_base.specs.Tokens.{shown_by_token, shown_by_tokens, is_token, said_by, AreHeard}

-- the greatest of a number and those of the token calls
abbrev pub shown_from : ℕ → List ControllerCall → ℕ
shown_from most calls = fold (λ most (t : ControllerCall). max most (shown_by_token t.action)) most calls

pub shown_at_least : (most : ℕ) (calls : List ControllerCall) → most ≤ shown_from most calls
shown_at_least most [] = omega arith
shown_at_least most (t ∷ calls) = let rest = shown_at_least (max most (shown_by_token t.action)) calls in omega (arith, rest)

pub shown_in_fewer : (most : ℕ) (calls : List ControllerCall) (a b : ℕ) → a ≤ b → shown_from most (take a calls) ≤ shown_from most (take b calls)
shown_in_fewer most [] zero b less = shown_at_least most (take b [])
shown_in_fewer most [] (suc a) zero less = absurd (omega (arith, less))
shown_in_fewer most [] (suc a) (suc b) less = omega arith
shown_in_fewer most (t ∷ calls) zero b less = shown_at_least most (take b (t ∷ calls))
shown_in_fewer most (t ∷ calls) (suc a) zero less = absurd (omega (arith, less))
shown_in_fewer most (t ∷ calls) (suc a) (suc b) less = shown_in_fewer (max most (shown_by_token t.action)) calls a b (omega (arith, less))

pub shown_in_prefix : (xs ys : List ControllerCall) → IsPrefix xs ys → shown_by_tokens xs ≤ shown_by_tokens ys
shown_in_prefix xs ys p =
    let whole : shown_by_tokens ys ≡ shown_from (shown_by_tokens xs) p.0 = ap shown_by_tokens (sym p.1) ∙ fold-append (λ most (t : ControllerCall). max most (shown_by_token t.action)) 0 xs p.0 in
    let more = shown_at_least (shown_by_tokens xs) p.0 in
    omega (arith, whole, more)

-- from a greater number it is no less
pub shown_from_more : (a b : ℕ) (calls : List ControllerCall) → a ≤ b → shown_from a calls ≤ shown_from b calls
shown_from_more a b [] less = less
shown_from_more a b (t ∷ calls) less = shown_from_more (max a (shown_by_token t.action)) (max b (shown_by_token t.action)) calls (omega (arith, less))

-- The same of what calls say

abbrev pub said_from : ℕ → List ControllerCall → ℕ
said_from most calls = fold (λ most (t : ControllerCall). max most (said_by t.action)) most calls

pub said_at_least : (most : ℕ) (calls : List ControllerCall) → most ≤ said_from most calls
said_at_least most [] = omega arith
said_at_least most (t ∷ calls) = let rest = said_at_least (max most (said_by t.action)) calls in omega (arith, rest)

pub said_in_fewer : (most : ℕ) (calls : List ControllerCall) (a b : ℕ) → a ≤ b → said_from most (take a calls) ≤ said_from most (take b calls)
said_in_fewer most [] zero b less = said_at_least most (take b [])
said_in_fewer most [] (suc a) zero less = absurd (omega (arith, less))
said_in_fewer most [] (suc a) (suc b) less = omega arith
said_in_fewer most (t ∷ calls) zero b less = said_at_least most (take b (t ∷ calls))
said_in_fewer most (t ∷ calls) (suc a) zero less = absurd (omega (arith, less))
said_in_fewer most (t ∷ calls) (suc a) (suc b) less = said_in_fewer (max most (said_by t.action)) calls a b (omega (arith, less))

-- Where calls say nothing, or take no token and give none back, what is heard is right.

abbrev pub AreQuiet : List ControllerCall → Type 0
AreQuiet calls = AllByRecursion (λ (t : ControllerCall). said_by t.action ≡ 0) calls

none_said : (most : ℕ) (calls : List ControllerCall) → AreQuiet calls → said_from most calls ≤ most
none_said most [] quiet = omega arith
none_said most (t ∷ calls) quiet = let rest = none_said (max most (said_by t.action)) calls quiet.1 in let none = quiet.0 in omega (arith, rest, none)

front_quiet : (calls : List ControllerCall) (n : ℕ) → AreQuiet calls → AreQuiet (take n calls)
front_quiet [] zero quiet = tt
front_quiet [] (suc n) quiet = tt
front_quiet (t ∷ calls) zero quiet = tt
front_quiet (t ∷ calls) (suc n) quiet = (quiet.0, front_quiet calls n quiet.1)

pub heard_if_quiet : (calls : List ControllerCall) → AreQuiet calls → AreHeard calls
heard_if_quiet calls quiet at heard_at most token there is before hears = let none = none_said 0 (take (at + 1) calls) (front_quiet calls (at + 1) quiet) in omega (arith, none)

abbrev pub HaveNoToken : List ControllerCall → Type 0
HaveNoToken calls = AllByRecursion (λ (t : ControllerCall). is_token t.action ≡ false) calls

no_token_at : (calls : List ControllerCall) → HaveNoToken calls → (at : ℕ) (token : ControllerCall) → slice_get calls at ≡ Some token → IsTrue (is_token token.action) → ⊥
no_token_at [] none at token there is = cc there
no_token_at (t ∷ calls) none zero token there is = let same : t ≡ token = cc there in true≢false (sym is ∙ ap (λ (u : ControllerCall). is_token u.action) (sym same) ∙ none.0)
no_token_at (t ∷ calls) none (suc at) token there is = no_token_at calls none.1 at token there is

pub heard_without_tokens : (calls : List ControllerCall) → HaveNoToken calls → AreHeard calls
heard_without_tokens calls none at heard_at most token there is before hears = absurd (no_token_at calls none at token there is)
