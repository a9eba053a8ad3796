-- The writers at the start.
use Rattle.std.proofs.Common.{◌≡◌, ℕ, zero, suc, ◌+◌, ◌-◌, List, [], ◌∷◌, ◌++◌, length, get_or, replicate, ap, ◌∙◌, subst, arith, length-append}
use Rattle.atomic_table.specs.Seated.{TableId}
use Rattle.line_writers.specs.declared.writer.Writer.{Writer}
use Rattle.line_writers.specs.Roles.{IsNew, AreNew}

module _ {Request Reply Log Right : Type 0} (table : TableId) where
  pub new_snoc : (m : ℕ) (ws : List (Writer Request Reply Log Right)) (w : Writer Request Reply Log Right) → AreNew table m ws → IsNew table (m - length ws) w → AreNew table m (ws ++ w ∷ [])
  new_snoc m [] w ok new = (subst (λ k. IsNew table k w) (let h : m - 0 ≡ m = omega arith in h) new, tt)
  new_snoc m (x ∷ xs) w ok new = (ok.0, new_snoc (m - 1) xs w ok.1 (subst (λ k. IsNew table k w) (let h : m - suc (length xs) ≡ m - 1 - length xs = omega arith in h) new))

pub length_snoc : {A : Type 0} (xs ys : List A) (x : A) (m : ℕ) → ys ≡ xs ++ x ∷ [] → length xs ≡ m → length ys ≡ m + 1
length_snoc xs ys x m e is = ap length e ∙ (length-append xs (x ∷ []) ∙ (omega arith))

pub zeros : (n m : ℕ) → m ≡ 0 → get_or (replicate n m) 0 m ≡ 0
zeros zero m e = e
zeros (suc n) m e = e

pub zeros_one : (n m : ℕ) → m ≡ 0 → get_or (replicate n m) 1 m ≡ 0
zeros_one zero m e = e
zeros_one (suc zero) m e = e
zeros_one (suc (suc n)) m e = e
