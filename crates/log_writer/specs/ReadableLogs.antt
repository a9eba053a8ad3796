-- What a log that is open can be read for: the bytes of its logs, and of which batches they are the text.
use Rattle.std.specs.Prelude.{◌≡◌, ℕ, List, [], ◌∷◌, ◌++◌, map, flat_map, Option, Some}
use Rattle.std.specs.List.{AllByRecursion, AllZip}
use Rattle.base_devices.specs.Disk.{Disk}
use Rattle.base_devices.specs.declared.disk.Disk.{Ghosts}
use Rattle.model_base.specs.Batch.{IsBatch}
use Rattle.model_base.specs.Log.{Beginning, SpellsWhole}
use Rattle.model_base.specs.Recovery.{Logged, logged_bytes}
use Rattle.log_writer.specs.declared.writer.LogWriter.{LogWriter}
use Rattle.log_writer.specs.declared.set.LogSet.{LogSet}
use Rattle.log_writer.specs.Adding.{GroupCall}
use Rattle.log_writer.specs.Reads.{held_in, held_at}
use Rattle.log_writer.specs.Words.{disk_of}
use Rattle.log_writer.specs.Written.{if_worked, Stands}
use Rattle.log_writer.specs.Sets.{later_of, begun_in, chosen_of, logs_of, SetWasRead}
use Rattle.log_writer.specs.SetCrashes.{HasOpenedSet}

-- the batch that is the record of a call
abbrev pub batch_of_call : GroupCall → Logged
batch_of_call c = record { first = c.first; records = flat_map (λ records. records) c.batches }

-- the batches of the calls before the first that failed; they are in the log whole
abbrev pub batches_by : List GroupCall → List Logged
batches_by [] = []
batches_by (c ∷ calls) = if_worked c.failed (batch_of_call c ∷ batches_by calls) []

abbrev pub AreBatches : List Logged → Type 0
AreBatches batches = AllByRecursion (λ b. IsBatch (logged_bytes b) b.first b.records) batches

-- the bytes are the text of these batches, and of no others, in a log with this number, if it has one
abbrev pub IsTextOf : Option ℕ → List ℕ → List Logged → Type 0
IsTextOf number file batches = SpellsWhole number file (map logged_bytes batches)

-- The batches are cut into parts, one for each file, and each file is the text of its part.
pub record HoldInTurn (number : Option ℕ) (files : List (List ℕ)) (batches : List Logged) : Type 0 where
  pub parts : List (List Logged)
  pub all : flat_map (λ part. part) parts ≡ batches
  pub each : AllZip (IsTextOf number) files parts
  pub are_batches : AreBatches batches

-- the disk tells what it holds
abbrev pub IsTold : {D : Type 0} → Ghosts D → D → Type 0
IsTold ghosts disk = (d : Disk) × (ghosts.told disk ≡ Some d)

module _ {D : Type 0} {ghosts : Ghosts D} where
  -- the disks of these logs tell what they hold
  abbrev pub AreTold : List (LogWriter D ghosts) → Type 0
  AreTold logs = AllByRecursion (λ (log : LogWriter D ghosts). IsTold ghosts (disk_of log)) logs

  -- the log is known to have these bytes
  abbrev pub HasBytes : LogWriter D ghosts → List ℕ → Type 0
  HasBytes log file = held_in log ≡ Some file

  -- these are the bytes of the one log
  pub record IsOneFile (log : LogWriter D ghosts) (files : List (List ℕ)) : Type 0 where
    pub file : List ℕ
    pub has : HasBytes log file
    pub only : files ≡ file ∷ []

  -- what there is of a log that has not begun
  abbrev pub no_bytes : LogWriter D ghosts → List ℕ
  no_bytes log = []

  -- these are the bytes of the logs of a set; those that have not begun have none
  pub record AreSetFiles (set : LogSet D ghosts) (files : List (List ℕ)) : Type 0 where
    pub begun : List (List ℕ)
    pub have : AllZip HasBytes (begun_in set) begun
    pub all : files ≡ begun ++ map no_bytes (later_of set)

  -- As it was opened the log has these batches, and nothing else; and its disk tells what it holds.
  pub record KeepsBatches (log : LogWriter D ghosts) (batches : List Logged) : Type 0 where
    pub beginning : Beginning
    pub stands : Stands beginning [] log
    pub text : IsTextOf beginning.number beginning.kept batches
    pub are_batches : AreBatches batches
    pub told : IsTold ghosts (disk_of log)

  -- A set begins with nothing, and its disks tell what they hold.
  pub record SetKeepsNone (set : LogSet D ghosts) (batches : List Logged) : Type 0 where
    pub none : batches ≡ []
    pub disks : List D
    pub opened : HasOpenedSet disks set
    pub told : AreTold (logs_of set)

  -- the bytes of the log of a set that is chosen to be read
  abbrev pub chosen_held : LogSet D ghosts → Option (List ℕ)
  chosen_held set = held_at (begun_in set) (chosen_of set)

  -- the set was read, and the same log of it stays chosen
  pub record ChosenWasRead (old new : LogSet D ghosts) : Type 0 where
    pub was_read : SetWasRead old new
    pub chosen : chosen_of new ≡ chosen_of old
