-- Which calls wrote which log of a set.
use Rattle.std.specs.Prelude.{◌≡◌, ℕ, List, [], ◌∷◌, ◌++◌, flat_map, None, ⊤}
use Rattle.std.specs.List.{AllZip}
use Rattle.base_devices.specs.declared.disk.Disk.{Ghosts}
use Rattle.model_base.specs.LogContents.{GroupCall}
use Rattle.log_writer.specs.declared.writer.LogWriter.{LogWriter}
use Rattle.log_writer.specs.declared.set.LogSet.{LogSet}
use Rattle.log_writer.specs.Words.{fault_of}
use Rattle.log_writer.specs.Adding.{Syncs}
use Rattle.log_writer.specs.Reads.{WasRead}
use Rattle.log_writer.specs.Written.{Wrote, if_worked, first_fault}
use Rattle.log_writer.specs.Sets.{counted, full_of, current_of, later_of, fault_in}

-- the second call is the first one, as one log's disk counts its fault
abbrev pub IsSameCall : GroupCall → GroupCall → Type 0
IsSameCall c d = (count : ℕ) × (d ≡ counted count c)

-- the calls up to the first that failed; those after it do nothing
abbrev pub until_fault : List GroupCall → List GroupCall
until_fault [] = []
until_fault (c ∷ calls) = c ∷ if_worked c.failed (until_fault calls) []

module _ {D : Type 0} {ghosts : Ghosts D} where
  -- These calls wrote the log, and it was synced after them; then it may have been read.
  pub record IsFilled (old : LogWriter D ghosts) (calls : List GroupCall) (new : LogWriter D ghosts) : Type 0 where
    pub written : LogWriter D ghosts
    pub wrote : Wrote old calls written
    pub alive : fault_of written ≡ None
    pub synced : LogWriter D ghosts
    pub syncs : Syncs written synced
    pub was_read : WasRead synced new

  -- each of these logs was written by its calls, and synced after them
  abbrev pub AreFilled : List (LogWriter D ghosts) → List (List GroupCall) → List (LogWriter D ghosts) → Type 0
  AreFilled [] [] [] = ⊤
  AreFilled [] [] (new ∷ news) = ⊥
  AreFilled [] (calls ∷ parts) news = ⊥
  AreFilled (old ∷ olds) [] news = ⊥
  AreFilled (old ∷ olds) (calls ∷ parts) [] = ⊥
  AreFilled (old ∷ olds) (calls ∷ parts) (new ∷ news) = IsFilled old calls new × AreFilled olds parts news

  -- The calls took the set from what it was to what it is: some logs were filled, from the current one on, each by its
  -- calls (`parts`); and the log that is the current one now was written by the other calls (`own`). Those that were
  -- full before may have been read (`kept`).
  pub record IsSplit (old : LogSet D ghosts) (calls : List GroupCall) (new : LogSet D ghosts) : Type 0 where
    pub started : List (LogWriter D ghosts)
    pub last : LogWriter D ghosts
    pub begun : current_of old ∷ later_of old ≡ started ++ last ∷ later_of new
    pub kept : List (LogWriter D ghosts)
    pub were_read : AllZip WasRead (full_of old) kept
    pub filled : List (LogWriter D ghosts)
    pub full : full_of new ≡ kept ++ filled
    pub parts : List (List GroupCall)
    pub are_filled : AreFilled started parts filled
    pub own : List GroupCall
    pub wrote : Wrote last own (current_of new)
    pub same : AllZip IsSameCall (until_fault calls) (flat_map (λ part. part) parts ++ own)
    pub fault : fault_in new ≡ first_fault calls
