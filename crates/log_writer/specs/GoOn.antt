-- Logs that were written on.
use Rattle.std.specs.Prelude.{◌≡◌, ℕ, List, [], ◌∷◌, ◌++◌}
use Rattle.std.specs.List.{AllByRecursion}

-- Logs that were written on: the first of them are as they were, the next one begins with what it had, and there was
-- nothing after it.
pub record GoOn (files later : List (List ℕ)) : Type 0 where
  pub full : List (List ℕ)
  pub current : List ℕ
  pub none : List (List ℕ)
  pub before : files ≡ full ++ current ∷ none
  pub empty : AllByRecursion (λ (file : List ℕ). file ≡ []) none
  pub more : List ℕ
  pub others : List (List ℕ)
  pub after : later ≡ full ++ (current ++ more) ∷ others
