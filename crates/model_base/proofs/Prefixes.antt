-- Prefixes of one list, and of one trace.
use Rattle.std.proofs.Common.{◌≡◌, ℕ, zero, suc, ◌≤◌, Some, List, [], ◌∷◌, ◌++◌, length, slice_get, take, refl, ap, sym, ◌∙◌, arith, append_assoc, length-append}
use Rattle.std.proofs.lemmas.List.{take-append-le}
use mathlib.Core.List.{IsPrefix}
use Rattle.model_base.specs.Trace.{Trace, Begins}

pub prefix_self : {A : Type 0} (xs : List A) → IsPrefix xs xs
prefix_self [] = ([], refl)
prefix_self (x ∷ xs) = (let r = prefix_self xs in r.0, ap (λ ys. x ∷ ys) (prefix_self xs).1)

pub prefix_trans : {A : Type 0} (xs ys zs : List A) → IsPrefix xs ys → IsPrefix ys zs → IsPrefix xs zs
prefix_trans xs ys zs p q = (p.0 ++ q.0, sym (append_assoc xs p.0 q.0) ∙ (ap (λ w. w ++ q.0) p.1 ∙ q.1))

pub prefix_length : {A : Type 0} (xs ys : List A) → IsPrefix xs ys → length xs ≤ length ys
prefix_length xs ys p = let e : length (xs ++ p.0) ≡ length ys = ap length p.1 in omega (arith, length-append xs p.0, e)

-- what is in a prefix is at the same place of the whole list
at_front : {A : Type 0} (xs rest : List A) (i : ℕ) (x : A) → slice_get xs i ≡ Some x → slice_get (xs ++ rest) i ≡ Some x
at_front [] rest i x h = absurd (cc h)
at_front (y ∷ xs) rest zero x h = h
at_front (y ∷ xs) rest (suc i) x h = at_front xs rest i x h

pub prefix_at : {A : Type 0} (xs ys : List A) → IsPrefix xs ys → (i : ℕ) (x : A) → slice_get xs i ≡ Some x → slice_get ys i ≡ Some x
prefix_at xs ys p i x h = ap (λ zs. slice_get zs i) (sym p.1) ∙ at_front xs p.0 i x h

-- and its first elements are the first ones of the whole list
pub prefix_take : {A : Type 0} (xs ys : List A) → IsPrefix xs ys → (n : ℕ) → n ≤ length xs → take n ys ≡ take n xs
prefix_take xs ys p n within = ap (take n) (sym p.1) ∙ take-append-le n xs p.0 within

pub begins_self : (v : Trace) → Begins v v
begins_self v = record { start = refl; opening = refl; kept = refl; entries = prefix_self v.entries; logged = prefix_self v.logged; controller_calls = prefix_self v.controller_calls; log_calls = prefix_self v.log_calls }

pub begins_trans : (u v w : Trace) → Begins u v → Begins v w → Begins u w
begins_trans u v w a b = record { start = a.start ∙ b.start; opening = a.opening ∙ b.opening; kept = a.kept ∙ b.kept; entries = prefix_trans u.entries v.entries w.entries a.entries b.entries; logged = prefix_trans u.logged v.logged w.logged a.logged b.logged; controller_calls = prefix_trans u.controller_calls v.controller_calls w.controller_calls a.controller_calls b.controller_calls; log_calls = prefix_trans u.log_calls v.log_calls w.log_calls a.log_calls b.log_calls }
