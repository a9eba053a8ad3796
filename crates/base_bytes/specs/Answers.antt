-- What contracts see of the answers of reads.
use Rattle.std.specs.Prelude.{ℕ, List, Option, Some, None}
use Rattle.base_bytes.specs.declared.answers.Found.{Found}
use Rattle.base_bytes.specs.declared.answers.Found.TheVariants.{Absent, Value}

-- the value that was found, if one was
abbrev pub found_value : Found → Option (List ℕ)
found_value Absent = None
found_value (Value bytes) = Some bytes
