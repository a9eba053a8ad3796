-- A set of logs, each on a disk of its own, which are written one after another; and what `add_group` does to it.
use Rattle.std.specs.Prelude.{◌≡◌, ◌⊎◌, ℕ, ◌-◌, ◌^◌, ◌<◌, ◌≤◌, min, List, [], ◌∷◌, ◌++◌, length, map, sum, sum_by, Option, Some, None, IfSome}
use Rattle.std.specs.List.{AllZip}
use Rattle.base_devices.specs.declared.disk.Disk.{Ghosts}
use Rattle.model_base.specs.LogContents.{GroupCall}
use Rattle.log_writer.specs.declared.writer.LogWriter.{LogWriter}
use Rattle.log_writer.specs.declared.set.LogSet.{LogSet}
use Rattle.log_writer.specs.Words.{disk_of, len_of}
use Rattle.log_writer.specs.Adding.{Adds, Syncs, FailsToSync}
use Rattle.log_writer.specs.Reads.{WasRead}

-- how many calls of these logs' disks have failed in all; the count stops at the greatest u64
abbrev pub count_in : {D : Type 0} {ghosts : Ghosts D} → List (LogWriter D ghosts) → ℕ
count_in {ghosts = ghosts} logs = min (sum_by (λ log. ghosts.faults (disk_of log)) logs) (2 ^ 64 - 1)

-- the call, where it failed with this count
abbrev pub counted : ℕ → GroupCall → GroupCall
counted count c = record c { failed = counted_fault c.failed }
  where
    counted_fault : Option ℕ → Option ℕ
    counted_fault None = None
    counted_fault (Some n) = Some count

module _ {D : Type 0} {ghosts : Ghosts D} where
  -- the full logs, the first one first; the one that is written to; and those that nothing is written to yet
  abbrev pub full_of : LogSet D ghosts → List (LogWriter D ghosts)
  full_of s = s.full.items

  abbrev pub current_of : LogSet D ghosts → LogWriter D ghosts
  current_of s = s.current

  abbrev pub later_of : LogSet D ghosts → List (LogWriter D ghosts)
  later_of s = s.later.items

  -- all its logs, in their order
  abbrev pub logs_of : LogSet D ghosts → List (LogWriter D ghosts)
  logs_of s = full_of s ++ current_of s ∷ later_of s

  -- which of them is read, counted from 0
  abbrev pub chosen_of : LogSet D ghosts → ℕ
  chosen_of s = s.chosen

  -- those that have begun
  abbrev pub begun_in : LogSet D ghosts → List (LogWriter D ghosts)
  begun_in s = full_of s ++ current_of s ∷ []

  -- the length of all of them; it stops at the greatest u64
  abbrev pub len_in : LogSet D ghosts → ℕ
  len_in s = min (sum (map (λ (log : LogWriter D ghosts). len_of log) (begun_in s))) (2 ^ 64 - 1)

  -- from which length on a log is full, if another one is left
  abbrev pub limit_of : LogSet D ghosts → ℕ
  limit_of s = s.limit

  -- the count of the fault that ended the set, if one did: that of all its disks
  abbrev pub fault_in : LogSet D ghosts → Option ℕ
  fault_in s = s.fault

  -- the current log isn't full, or no other one is left
  abbrev pub HasRoom : LogSet D ghosts → Type 0
  HasRoom s = (len_of (current_of s) < limit_of s) ⊎ (later_of s ≡ [])

  -- the current log was full, and was synced; the next one is the current one now
  pub record GoesOn (old new : LogSet D ghosts) : Type 0 where
    pub is_full : limit_of old ≤ len_of (current_of old)
    pub synced : LogWriter D ghosts
    pub syncs : Syncs (current_of old) synced
    pub full : full_of new ≡ full_of old ++ synced ∷ []
    pub later : later_of old ≡ current_of new ∷ later_of new
    pub limit : limit_of new ≡ limit_of old
    pub fault : fault_in new ≡ None

  -- The call wrote to the current log, or failed there. The other logs are as they were.
  pub record AddsHere (c : GroupCall) (old new : LogSet D ghosts) : Type 0 where
    pub full : full_of new ≡ full_of old
    pub adds : Adds (counted (ghosts.faults (disk_of (current_of new))) c) (current_of old) (current_of new)
    pub later : later_of new ≡ later_of old
    pub limit : limit_of new ≡ limit_of old
    pub fault : fault_in new ≡ c.failed
    pub count : IfSome c.failed (λ count. count ≡ count_in (logs_of new))

  -- The current log was full, another one was left, and the sync of the full one failed. Nothing was written, and the
  -- set takes no more.
  pub record IsStuck (old new : LogSet D ghosts) (count : ℕ) : Type 0 where
    pub is_full : limit_of old ≤ len_of (current_of old)
    pub some : 0 < length (later_of old)
    pub full : full_of new ≡ full_of old
    pub fails : FailsToSync (current_of old) (current_of new) (ghosts.faults (disk_of (current_of new)))
    pub later : later_of new ≡ later_of old
    pub limit : limit_of new ≡ limit_of old
    pub fault : fault_in new ≡ Some count
    pub count_is : count ≡ count_in (logs_of new)

  -- The call wrote to the current log, or failed there, if that had room; or that one was synced first, and the call
  -- wrote to the next, or failed there; or that sync failed, and the call wrote nothing.
  pub data AddsOver (c : GroupCall) (old new : LogSet D ghosts) : Type 0 where
    here : HasRoom old → AddsHere c old new → AddsOver c old new
    next : (between : LogSet D ghosts) → GoesOn old between → AddsHere c between new → AddsOver c old new
    stuck : (count : ℕ) → c.failed ≡ Some count → IsStuck old new count → AddsOver c old new

  -- After an earlier fault nothing is done.
  pub record AddsTo (c : GroupCall) (old new : LogSet D ghosts) : Type 0 where
    pub dead : IfSome (fault_in old) (λ count. (c.failed ≡ Some count) × (new ≡ old))
    pub put : fault_in old ≡ None → AddsOver c old new

  -- The logs that have begun were read, and the set is as it was; but another log may be chosen to be read.
  pub record SetWasRead (old new : LogSet D ghosts) : Type 0 where
    pub full : AllZip WasRead (full_of old) (full_of new)
    pub current : WasRead (current_of old) (current_of new)
    pub later : later_of new ≡ later_of old
    pub limit : limit_of new ≡ limit_of old
    pub fault : fault_in new ≡ fault_in old

  -- These calls, one after another, took the set from what it was to what it is. It may have been read in between.
  pub data WroteSet (old : LogSet D ghosts) : List GroupCall → LogSet D ghosts → Type 0 where
    no_call : WroteSet old [] old
    one_more : {calls : List GroupCall} {now new : LogSet D ghosts} (c : GroupCall)
        → WroteSet old calls now → AddsTo c now new → WroteSet old (calls ++ c ∷ []) new
    read : {calls : List GroupCall} {now new : LogSet D ghosts}
        → WroteSet old calls now → SetWasRead now new → WroteSet old calls new

  -- the set has room for a group, as it was or in its next log
  pub data MakesRoom (old new : LogSet D ghosts) : Type 0 where
    stays : HasRoom old → new ≡ old → MakesRoom old new
    goes_on : GoesOn old new → MakesRoom old new
