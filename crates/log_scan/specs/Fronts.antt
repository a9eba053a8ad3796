-- The first bytes of a file from a place on.
use Rattle.std.specs.Prelude.{◌≡◌, ℕ, ◌-◌, ◌&&◌, min, List, length, take, drop, nat_le, Option, Some, None, if◌then◌else◌}
use Rattle.model_base.specs.Reading.{number_field, type_field}

-- the first `len` bytes of the buffer are those of the file from a place on, as many as both have
abbrev pub IsFront : List ℕ → ℕ → List ℕ → ℕ → Type 0
IsFront file at buffer len =
    (len ≡ min (length buffer) (length file - at)) × (take len buffer ≡ take len (drop at file))

-- the number that the first header of the file has, if its kind is one of a log with a number
abbrev pub first_number : List ℕ → Option ℕ
first_number file =
    if nat_le 11 (length file) && nat_le 5 (type_field file) && nat_le (type_field file) 8
    then Some (number_field file) else None
