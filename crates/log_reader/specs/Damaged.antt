-- Damage at a place of a file. `number` is the log's number, if it has one.
use Rattle.std.specs.Prelude.{ℕ, Bool, true, false, List, Option}
use Rattle.model_base.specs.Reading.{Seen, fragment, nothing, damage, seen_at}

abbrev pub is_damage : Seen → Bool
is_damage (damage d) = true
is_damage (fragment f) = false
is_damage nothing = false

-- there is damage at this place of the file
abbrev pub is_damaged : Option ℕ → List ℕ → ℕ → Bool
is_damaged number file at = is_damage (seen_at number file at)
