-- Readers of bytes in memory, whose reads never fail.
use Rattle.std.specs.Prelude.{◌≢◌, ℕ, Option, Some}
use Rattle.log_reader.specs.declared.reader.Next.{Next}
use Rattle.log_reader.specs.declared.reader.Next.TheVariants.{Record, Fault}

-- a reader that has this answer hasn't stopped for a fault
abbrev pub IsUnfailed : Option Next → Type 0
IsUnfailed stopped = (count : ℕ) → stopped ≢ Some (Fault count)

-- nor for a record
abbrev pub IsNoRecord : Option Next → Type 0
IsNoRecord stopped = (start end : ℕ) → stopped ≢ Some (Record start end)
