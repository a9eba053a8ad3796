-- Keeping what a reader reads.
use Rattle.std.specs.Prelude.{◌≡◌, ℕ, List}
use Rattle.log_reader.specs.Reader.{Reader, Follows}
use Rattle.log_recovery.specs.declared.kept.Kept.{Kept}
use Rattle.log_recovery.specs.declared.recovery.End.{End}
use Rattle.log_recovery.specs.Keeping.{KeepsFront}
use Rattle.log_recovery.specs.Recovering.{HasKept}

-- the reader has read this file so far, and all records before its place are kept, after what was kept before
pub record KeepsRead (file : List ℕ) (before kept : Kept) (log : Reader) : Type 0 where
  pub place : kept.end ≡ log.place
  pub follows : Follows file log
  pub front : KeepsFront log.number file before kept

-- where all that was read was kept, what is kept in the end is what recovery of the file keeps
abbrev pub KeepsAllRead : List ℕ → Kept → Reader → Kept → End → Type 0
KeepsAllRead file old log new end =
    (before : Kept) → KeepsRead file before old log → HasKept log.number file before new end
