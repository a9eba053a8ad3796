-- What a log has become by calls of `add_group`.
use Rattle.std.specs.Prelude.{◌≡◌, ℕ, ◌+◌, ◌≤◌, true, List, [], ◌∷◌, ◌++◌, length, take, drop, slice_get}
use Rattle.std.specs.Prelude.{Option, Some, None, IfSome}
use Rattle.std.specs.List.{AllByRecursion}
use Rattle.base_devices.specs.Disk.{Disk}
use Rattle.base_devices.specs.declared.disk.Disk.{Ghosts}
use Rattle.model_base.specs.Counts.{Rose}
use Rattle.model_base.specs.Log.{Beginning, text_after}
use Rattle.log_laws.specs.Prefixes.{BeginsWith, HoldsFront}
use Rattle.log_writer.specs.declared.writer.LogWriter.{LogWriter}
use Rattle.log_writer.specs.Words.{disk_of, number_of, len_of, fault_of}
use Rattle.log_writer.specs.Crashes.{HoldsUpTo}
use Rattle.log_writer.specs.Opening.{HasBegun}
use Rattle.log_writer.specs.Adding.{GroupCall, record_of_call, Adds}
use Rattle.log_writer.specs.Reads.{WasRead}

-- These calls, one after another, took the log from what it was to what it is. It may have been read in between.
pub data Wrote {D : Type 0} {ghosts : Ghosts D} (old : LogWriter D ghosts)
    : List GroupCall → LogWriter D ghosts → Type 0 where
  no_call : Wrote old [] old
  one_more : {calls : List GroupCall} {now new : LogWriter D ghosts} (c : GroupCall)
      → Wrote old calls now → Adds c now new → Wrote old (calls ++ c ∷ []) new
  read : {calls : List GroupCall} {now new : LogWriter D ghosts}
      → Wrote old calls now → WasRead now new → Wrote old calls new

-- the log began like this on the disk, and these calls wrote it
pub record IsWritten {D : Type 0} {ghosts : Ghosts D} (b : Beginning) (disk : D) (calls : List GroupCall)
    (log : LogWriter D ghosts) : Type 0 where
  pub begun : LogWriter D ghosts
  pub has_begun : HasBegun b disk begun
  pub wrote : Wrote begun calls log

-- the log that began on the disk `begun` was written by these calls, and then the disk `ended` was handed back
abbrev pub IsWrittenFrom : {D : Type 0} (ghosts : Ghosts D) → Beginning → D → D → List GroupCall → Type 0
IsWrittenFrom {D} ghosts b begun ended calls =
    (log : LogWriter D ghosts) × IsWritten b begun calls log × (disk_of log ≡ ended)

-- A crash may have left this image once the calls `before` had all returned, during the calls `after` or after them,
-- and the disk that was handed back still tells of that time.
pub record IsLeftSince {D : Type 0} (ghosts : Ghosts D) (b : Beginning) (begun ended : D)
    (before after : List GroupCall) (image : List ℕ) : Type 0 where
  pub between : LogWriter D ghosts
  pub written : IsWritten b begun before between
  pub last : LogWriter D ghosts
  pub wrote : Wrote between after last
  pub is_ended : disk_of last ≡ ended
  pub remembered : ghosts.from ended ≤ ghosts.moment (disk_of between)
  pub left : ghosts.since ended (ghosts.moment (disk_of between)) image

-- one value where a call worked, and the other where it failed
abbrev pub if_worked : {A : Type 0} → Option ℕ → A → A → A
if_worked None worked failed = worked
if_worked (Some count) worked failed = failed

-- the fault of the first call that failed, if one did
abbrev pub first_fault : List GroupCall → Option ℕ
first_fault [] = None
first_fault (c ∷ calls) = if_worked c.failed (first_fault calls) c.failed

-- the records of the calls before the first that failed; they are in the log whole
abbrev pub written_by : List GroupCall → List (List ℕ)
written_by [] = []
written_by (c ∷ calls) = if_worked c.failed (record_of_call c ∷ written_by calls) []

-- these records and that of the call that failed, which may be there in part
abbrev pub begun_by : List GroupCall → List (List ℕ)
begun_by [] = []
begun_by (c ∷ calls) = record_of_call c ∷ if_worked c.failed (begun_by calls) []

-- each of these calls that worked and was to sync is among the first n
abbrev pub HaveSynced : List GroupCall → ℕ → Type 0
HaveSynced calls n = AllByRecursion (λ (c : GroupCall). c.failed ≡ None → c.sync ≡ true → ⊥) (drop n calls)

-- For each of these calls that worked and was to sync, an image holds all up to the end of its record, as far as
-- `HoldsUpTo` says.
abbrev pub HoldsSynced : Beginning → ℕ → List GroupCall → List ℕ → Type 0
HoldsSynced b reached calls image = (k : ℕ) (c : GroupCall) → slice_get calls k ≡ Some c → c.failed ≡ None
    → c.sync ≡ true → HoldsUpTo reached (text_after b (take (k + 1) (written_by calls))) image

-- The disk's content begins with the text of all that was written. Its place is at the end of this text, or, once a
-- call has failed, there or after it; and up to its place the disk holds this text and a front of that of the record
-- whose call failed. The first `safe` records are safe, and those that were to be synced are among them.
pub record HoldsCalls (b : Beginning) (d : Disk) (calls : List GroupCall) (safe : ℕ) : Type 0 where
  pub content : BeginsWith (text_after b (written_by calls)) d.content
  pub behind : length (text_after b (written_by calls)) ≤ d.place
  pub place : first_fault calls ≡ None → d.place ≡ length (text_after b (written_by calls))
  pub front : HoldsFront (text_after b (begun_by calls)) d.place d.content
  pub some : safe ≤ length (written_by calls)
  pub synced : length (text_after b (take safe (written_by calls))) ≤ d.synced
  pub have_synced : HaveSynced calls safe

-- the log has the first fault of these calls, and its disk has what they wrote
pub record Stands {D : Type 0} {ghosts : Ghosts D} (b : Beginning) (calls : List GroupCall) (log : LogWriter D ghosts)
    : Type 0 where
  pub number_is : number_of log ≡ b.number
  pub fault : fault_of log ≡ first_fault calls
  pub len : len_of log ≡ length (text_after b (written_by calls))
  pub told : IfSome (ghosts.told (disk_of log)) (λ d. (safe : ℕ) × HoldsCalls b d calls safe)

-- the content now is the text, and after it what was there when the log began
abbrev pub IsTextOver : List ℕ → Disk → Disk → Type 0
IsTextOver t before now = now.content ≡ t ++ drop (length t) before.content

-- since the log was opened on this disk, the disk's count of faults hasn't fallen; if the log has a fault, the count
-- rose to the fault's count, and is at least that now
pub record HasCauseSince {D : Type 0} {ghosts : Ghosts D} (disk : D) (log : LogWriter D ghosts) : Type 0 where
  pub later : ghosts.faults disk ≤ ghosts.faults (disk_of log)
  pub rose : IfSome (fault_of log) (λ count. Rose (ghosts.faults disk) count × (count ≤ ghosts.faults (disk_of log)))
