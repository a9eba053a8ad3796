-- What is printed when a call has ended.
use Rattle.std.specs.Prelude.{◌≡◌, ◌⊎◌, ℕ, List, ◌++◌, take, Option, Some, None, ⊤}
use Rattle.std.specs.Io.KnownBytes.{Appends}
use Rattle.model_base.specs.Counts.{Rose}

-- a count of faults didn't rise, and is below the greatest u64
abbrev pub NoFault : ℕ → ℕ → Type 0
NoFault before now = Rose before now → ⊥

-- the text was printed after what was there before
abbrev pub Prints : List ℕ → List ℕ → List ℕ → Type 0
Prints before after text = after ≡ before ++ text

-- a prefix of the text was printed
abbrev pub PrintsFront : List ℕ → List ℕ → List ℕ → Type 0
PrintsFront before after text = (n : ℕ) × (after ≡ before ++ take n text)

-- a refusal's text was printed, or a prefix of it where the sink failed
abbrev pub Says : List ℕ → List ℕ → List ℕ → ℕ → ℕ → Type 0
Says before after text failed fails = Prints before after text ⊎ (Rose failed fails × PrintsFront before after text)

-- `Says`, where the sink tells its bytes
abbrev pub SaysTo : Option (List ℕ) → Option (List ℕ) → List ℕ → ℕ → ℕ → Type 0
SaysTo (Some before) (Some after) text failed fails = Says before after text failed fails
SaysTo (Some before) None text failed fails = ⊥
SaysTo None after text failed fails = ⊤

-- a sink took a prefix of the text
abbrev pub TakesPrefix : Option (List ℕ) → Option (List ℕ) → List ℕ → Type 0
TakesPrefix before after text = (n : ℕ) × Appends before after (take n text)
