-- A log that was read, and what is read of it.
use Rattle.std.specs.Prelude.{◌≡◌, ℕ, zero, suc, List, [], ◌∷◌, take, sum_by, Option, Some, None}
use Rattle.base_devices.specs.Disk.{Disk}
use Rattle.base_devices.specs.OnlyReads.{OnlyReads}
use Rattle.base_devices.specs.declared.disk.Disk.{Ghosts}
use Rattle.log_writer.specs.declared.writer.LogWriter.{LogWriter}
use Rattle.log_writer.specs.Words.{disk_of, number_of, len_of, fault_of, room_of}

-- the first `len` bytes of the disk's content, if the disk tells it
abbrev pub front_of : ℕ → Option Disk → Option (List ℕ)
front_of len None = None
front_of len (Some d) = Some (take len d.content)

module _ {D : Type 0} {ghosts : Ghosts D} where
  -- the log's disk was read, and the log is as it was
  pub record WasRead (old new : LogWriter D ghosts) : Type 0 where
    pub number : number_of new ≡ number_of old
    pub len : len_of new ≡ len_of old
    pub fault : fault_of new ≡ fault_of old
    pub room : room_of new ≡ room_of old
    pub disk : OnlyReads ghosts (disk_of old) (disk_of new)

  -- The bytes of the log, if they are known. What a call that failed left behind its end is no part of it.
  abbrev pub held_in : LogWriter D ghosts → Option (List ℕ)
  held_in log = front_of (len_of log) (ghosts.told (disk_of log))

  -- how many calls of these logs' disks have failed in all
  abbrev pub faults_in : List (LogWriter D ghosts) → ℕ
  faults_in logs = sum_by (λ (log : LogWriter D ghosts). ghosts.faults (disk_of log)) logs

  -- the bytes of the log at this place of a list, counted from 0; after the last one there are none
  abbrev pub held_at : List (LogWriter D ghosts) → ℕ → Option (List ℕ)
  held_at [] k = Some []
  held_at (log ∷ logs) zero = held_in log
  held_at (log ∷ logs) (suc k) = held_at logs k
