-- Histories of entries, cut and put together.
use Rattle.std.proofs.Common.{◌≡◌, ℕ, ◌<◌, ◌≤◌, List, [], ◌∷◌, ◌++◌, refl, ap, sym, ◌∙◌, subst, arith}
use Rattle.model_base.specs.History.{Entry, IsHistory, Follows, RunsFollow, last_sequence, last_of}
use Rattle.std.proofs.Common.{◌≡◌, ℕ, ◌<◌, ◌≤◌, List, [], ◌∷◌, ◌++◌, Contains, ◌⊎◌, inl, inr, refl, ap, sym, ◌∙◌, subst, arith}
use Rattle.model_base.specs.History.{Entry, Follows, IsHistory, last_sequence, last_of}
use Rattle.model_core_laws.proofs.Lists.{contains_cases}

-- a history, and after it one that goes on from its end, are one history
pub history_more : (start : ℕ) (xs ys : List Entry) → IsHistory start xs → IsHistory (last_sequence start xs) ys → IsHistory start (xs ++ ys)
history_more start [] ys a b = b
history_more start (x ∷ xs) ys a b = (a.0, history_more (last_of x) xs ys a.1 b)

-- a history cut in two: its first entries are a history, and the others are one that goes on from there
pub history_front : (start : ℕ) (xs ys : List Entry) → IsHistory start (xs ++ ys) → IsHistory start xs
history_front start [] ys h = tt
history_front start (x ∷ xs) ys h = (h.0, history_front (last_of x) xs ys h.1)

pub history_right : (start : ℕ) (xs ys : List Entry) → IsHistory start (xs ++ ys) → IsHistory (last_sequence start xs) ys
history_right start [] ys h = h
history_right start (x ∷ xs) ys h = history_right (last_of x) xs ys h.1

pub last_sequence_append : (start : ℕ) (xs ys : List Entry) → last_sequence start (xs ++ ys) ≡ last_sequence (last_sequence start xs) ys
last_sequence_append start [] ys = refl
last_sequence_append start (x ∷ xs) ys = last_sequence_append (last_of x) xs ys

pub runs_follow : (start : ℕ) (xs : List Entry) → IsHistory start xs → RunsFollow xs
runs_follow start [] a = tt
runs_follow start (x ∷ xs) a = a.1

-- a run begins after the sequence that was given before it, and doesn't end before it begins
pub run_after : (last : ℕ) (x : Entry) → Follows last x → (last < x.first) × (x.first ≤ last_of x)
run_after last x f = (let a = f.first in omega arith, let a = f.first in let b = f.some in omega arith)

pub history_rises : (start : ℕ) (xs : List Entry) → IsHistory start xs → start ≤ last_sequence start xs
history_rises start [] h = omega arith
history_rises start (x ∷ xs) h = let a = history_rises (last_of x) xs h.1 in let b = h.0.first in let c = h.0.some in omega (arith, a, b, c)

pub history_up_to : (start : ℕ) (xs : List Entry) (x : Entry) → IsHistory start xs → Contains xs x → last_of x ≤ last_sequence start xs
history_up_to start [] x h (k, l, e) = absurd (omega arith)
history_up_to start (y ∷ xs) x h is = by (contains_cases y xs x is) (history_up_to (last_of y) xs x h.1)
  where
    by : (y ≡ x) ⊎ Contains xs x → (Contains xs x → last_of x ≤ last_sequence (last_of y) xs) → last_of x ≤ last_sequence (last_of y) xs
    by (inl e) later = subst (λ (z : Entry). last_of z ≤ last_sequence (last_of y) xs) e (history_rises (last_of y) xs h.1)
    by (inr e) later = later e

pub history_above : (last : ℕ) (es : List Entry) (x : Entry) → IsHistory last es → Contains es x → last < x.first
history_above last [] x h (k, l, e) = absurd (omega arith)
history_above last (e ∷ es) x h is = by (contains_cases e es x is) (history_above (last_of e) es x h.1)
  where
    by : (e ≡ x) ⊎ Contains es x → (Contains es x → last_of e < x.first) → last < x.first
    by (inl here) later = subst (λ (y : Entry). last < y.first) here (run_after last e h.0).0
    by (inr there) later = let a = run_after last e h.0 in let b = later there in omega (arith, a.0, a.1, b)

-- no two entries of a history begin at one sequence
pub same_entry : (start : ℕ) (es : List Entry) (x y : Entry) → IsHistory start es → Contains es x → Contains es y → x.first ≡ y.first → x ≡ y
same_entry start [] x y h (k, l, e) is same = absurd (omega arith)
same_entry start (e ∷ es) x y h here there same = by (contains_cases e es x here) (contains_cases e es y there) (λ a b. same_entry (last_of e) es x y h.1 a b same)
  where
    apart : (z : Entry) → Contains es z → e.first < z.first
    apart z is = let a = run_after start e h.0 in let b = history_above (last_of e) es z h.1 is in omega (arith, a.1, b)

    by : (e ≡ x) ⊎ Contains es x → (e ≡ y) ⊎ Contains es y → (Contains es x → Contains es y → x ≡ y) → x ≡ y
    by (inl a) (inl b) later = sym a ∙ b
    by (inl a) (inr b) later = absurd (let n = apart y b in let m : e.first ≡ x.first = ap (λ (z : Entry). z.first) a in omega arith)
    by (inr a) (inl b) later = absurd (let n = apart x a in let m : e.first ≡ y.first = ap (λ (z : Entry). z.first) b in omega arith)
    by (inr a) (inr b) later = later a b
