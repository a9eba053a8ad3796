-- Values as numbers.
use Rattle.std.specs.Prelude.{ℕ, ◌^◌, ◌<◌, Bool, nat_lt, List, sum_by}
use Rattle.std.specs.List.{list_all, AllByRecursion}
use Rattle.model_base.specs.Map.{Pairs}
use Rattle.model_base.specs.Batch.{value}
use Rattle.model_base.specs.Calls.{Command, add}
use Rattle.model_base.specs.Script.{value_of_digits}

-- a value that a command puts is a number below 1000
abbrev pub HasSmallValue : Command → Type 0
HasSmallValue (add (value family key v)) = value_of_digits v < 1000
HasSmallValue other = Unit {0}

abbrev pub HasSmallValues : List (List Command) → Type 0
HasSmallValues script = AllByRecursion (λ cs. AllByRecursion HasSmallValue cs) script

-- each value is a number of 64 bits
abbrev pub have_numbers : Pairs → Bool
have_numbers pairs = list_all (λ p. nat_lt (value_of_digits p.1) (2 ^ 64)) pairs

-- the sum of the values as numbers
abbrev pub sum_of_values : Pairs → ℕ
sum_of_values pairs = sum_by (λ p. value_of_digits p.1) pairs
