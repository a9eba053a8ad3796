-- The slots of a table that could not be made, or is closed.
use Rattle.std.proofs.Common.{◌≡◌, ℕ, zero, suc, ◌+◌, List, [], ◌∷◌, ◌++◌, length, replicate, refl, sym, ap, ◌∙◌, arith, length-append}
use Rattle.std.proofs.lemmas.List.{append_cancel_right, length-replicate}
use Rattle.line_rule.specs.declared.content.LineSlot.{LineSlot}
use Rattle.line_rule.specs.declared.content.LineSlot.TheVariants.{Empty, Asked, Told, TheLog, TheRight}
use mathlib.Core.Path.{Path}
use Rattle.line_rule.proofs.Leads.{same_last}
use Rattle.line_writers.proofs.Tops.{log_in}

pub snoc_same : {A : Type 0} (a b : List A) (x y : A) → a ++ x ∷ [] ≡ b ++ y ∷ [] → (a ≡ b) × (x ≡ y)
snoc_same a b x y e = let is = same_last a b x y e in (append_cancel_right a b (x ∷ []) (e ∙ ap (λ z. b ++ z ∷ []) (sym is)), is)

pub replicate_snoc : {A : Type 0} (n : ℕ) (a : A) → replicate (suc n) a ≡ replicate n a ++ a ∷ []
replicate_snoc zero a = refl
replicate_snoc (suc n) a = ap (λ l. a ∷ l) (replicate_snoc n a)

pub length_between : {A : Type 0} (n : ℕ) (x y z : A) → length (x ∷ (replicate n y ++ z ∷ [])) ≡ n + 2
length_between n x y z = omega (arith, length-append (replicate n y) (z ∷ []), length-replicate n y)

abbrev pub first_slot : {A : Type 0} → A → List A → A
first_slot d [] = d
first_slot d (x ∷ xs) = x

module _ {Request Reply Log Right : Type 0} where
  abbrev pub right_in : Right → LineSlot Request Reply Log Right → Right
  right_in d Empty = d
  right_in d (Asked q) = d
  right_in d (Told p) = d
  right_in d (TheLog l) = d
  right_in d (TheRight r) = r

  pub one_log : (a b : Log) → Path (LineSlot Request Reply Log Right) (TheLog a) (TheLog b) → a ≡ b
  one_log a b e = ap (log_in {Request = Request} {Reply = Reply} {Log = Log} {Right = Right} a) e

  pub one_right : (a b : Right) → Path (LineSlot Request Reply Log Right) (TheRight a) (TheRight b) → a ≡ b
  one_right a b e = ap (right_in a) e

  abbrev pub at_start : ℕ → Log → Right → List (LineSlot Request Reply Log Right)
  at_start n l m = TheLog l ∷ (replicate n Empty ++ TheRight m ∷ [])

  pub one_start : (n : ℕ) (l l' : Log) (m m' : Right) → at_start n l m ≡ at_start n l' m' → (l ≡ l') × (m ≡ m')
  one_start n l l' m m' e = (one_log l l' (ap (first_slot (TheLog l)) e), one_right m m' (snoc_same (TheLog l ∷ replicate n Empty) (TheLog l' ∷ replicate n Empty) (TheRight m) (TheRight m') e).1)
