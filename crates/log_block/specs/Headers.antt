-- A fragment's header, as the code has it.
use Rattle.std.specs.Prelude.{ℕ, List, ◌∷◌, ◌++◌, Option, Some, None}
use Rattle.std.specs.Int.{w32, to_le_bytes}
use Rattle.log_block.specs.declared.headers.ByFormat.{ByFormat}
use Rattle.log_block.specs.declared.headers.ByFormat.TheVariants.{Plain, Numbered}

-- what the checksum covers: the type, the log's number, if it has one, and the part
abbrev pub summed : Option ℕ → ℕ → List ℕ → List ℕ
summed None code part = code ∷ part
summed (Some n) code part = code ∷ to_le_bytes w32 n ++ part

-- the bytes of a header
abbrev pub bytes_of : ByFormat → List ℕ
bytes_of (Plain bytes) = bytes
bytes_of (Numbered bytes) = bytes
