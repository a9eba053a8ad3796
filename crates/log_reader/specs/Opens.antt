-- Opening a reader at a place of a log.
use Rattle.std.specs.Prelude.{◌≡◌, ℕ, ◌-◌, ◌%◌}
use Rattle.base_devices.specs.Faults.{Rose}
use Rattle.log_reader.specs.declared.errors.OpenError.{OpenError}
use Rattle.log_reader.specs.declared.errors.OpenError.TheVariants.{Fault, NoMemory}

-- where the block begins that has this offset
abbrev pub starts_at : ℕ → ℕ
starts_at place = place - place % 32768

-- why a reader was not opened: the disk's count of faults rose, and this is what it is; or there was no memory, and no
-- fault
abbrev pub IsOpenError : ℕ → ℕ → OpenError → Type 0
IsOpenError before now (Fault count) = Rose before count × (count ≡ now)
IsOpenError before now NoMemory = now ≡ before
