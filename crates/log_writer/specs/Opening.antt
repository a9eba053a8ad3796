-- What opening a log does to its disk.
use Rattle.std.specs.Prelude.{◌≡◌, ◌⊎◌, ℕ, ◌<◌, ◌≤◌, min, List, [], length, take, Option, Some, None, IfSome, Result}
use Rattle.std.specs.Prelude.{MatchResult, OnOk}
use Rattle.model_base.specs.Counts.{Rose}
use Rattle.model_base.specs.Log.{Beginning, SpellsWhole}
use Rattle.base_devices.specs.Disk.{Disk, IsImage, all_safe, rewound, cut_at, Told, TimePasses, LeavesOnly}
use Rattle.base_devices.specs.Faults.{HasCause}
use Rattle.base_devices.specs.declared.disk.Disk.{Ghosts}
use Rattle.log_writer.specs.declared.errors.OpenError.{OpenError}
use Rattle.log_writer.specs.declared.errors.OpenError.TheVariants.{Fault, NotEmpty, NoMemory}
use Rattle.log_writer.specs.declared.writer.LogWriter.{LogWriter}
use Rattle.log_writer.specs.Words.{disk_of, number_of, len_of, fault_of}

-- the disk tells the same as before, and its count of faults hasn't fallen
pub record IsLookedAt {D : Type 0} (ghosts : Ghosts D) (old new : D) : Type 0 where
  pub same : ghosts.told new ≡ ghosts.told old
  pub later : ghosts.faults old ≤ ghosts.faults new
  pub time : TimePasses ghosts.told ghosts.moment ghosts.from ghosts.since old new

-- A log is opened on an empty disk, and has no bytes. No call of the disk failed.
pub record HasOpened {D : Type 0} {ghosts : Ghosts D} (disk : D) (log : LogWriter D ghosts) : Type 0 where
  pub looked_at : IsLookedAt ghosts disk (disk_of log)
  pub empty : IfSome (ghosts.told disk) (λ d. d.content ≡ [])
  pub number : number_of log ≡ None
  pub len : len_of log ≡ 0
  pub fault : fault_of log ≡ None
  pub no_fault : ghosts.faults (disk_of log) ≡ ghosts.faults disk

-- what a crash may leave of a disk, if of its safe bytes only those among the first `sure` are certain to stay
abbrev pub MayBeLeftOf : Option Disk → ℕ → List ℕ → Type 0
MayBeLeftOf told sure image = IfSome told (λ d. IsImage (record d { synced = min d.synced sure }) image)

-- a crash at any moment leaves nothing but that
abbrev pub LeavesOf : {D : Type 0} → Ghosts D → D → D → ℕ → Type 0
LeavesOf ghosts old new sure =
    LeavesOnly ghosts.moment ghosts.from ghosts.since old new (MayBeLeftOf (ghosts.told old) sure)

-- a crash at any moment leaves nothing but what it might have left before
abbrev pub LeavesAsBefore : {D : Type 0} → Ghosts D → D → D → Type 0
LeavesAsBefore ghosts old new =
    LeavesOnly ghosts.moment ghosts.from ghosts.since old new (λ image. IfSome (ghosts.told old) (λ d. IsImage d image))

-- A log with this number begins at the disk's start, over what is there. It has no bytes yet, and the disk's bytes are
-- as they were.
pub record HasReused {D : Type 0} {ghosts : Ghosts D} (disk : D) (number : ℕ) (log : LogWriter D ghosts) : Type 0 where
  pub told : Told (ghosts.told disk) (ghosts.told (disk_of log)) (λ before after. after ≡ rewound before)
  pub number_is : number_of log ≡ Some number
  pub len : len_of log ≡ 0
  pub fault : fault_of log ≡ None
  pub no_fault : ghosts.faults (disk_of log) ≡ ghosts.faults disk
  pub crash : LeavesAsBefore ghosts disk (disk_of log)

-- the content has the first `kept` bytes, and they spell records of a log with this number, if it has one
pub record SpellsInFront (number : Option ℕ) (kept : ℕ) (content : List ℕ) : Type 0 where
  pub within : kept ≤ length content
  pub records : List (List ℕ)
  pub spelled : SpellsWhole number (take kept content) records

-- The log goes on after the first `kept` bytes of the disk. Nothing else is left, and they are safe.
pub record HasResumed {D : Type 0} {ghosts : Ghosts D} (disk : D) (kept : ℕ) (number : Option ℕ)
    (log : LogWriter D ghosts) : Type 0 where
  pub told : Told (ghosts.told disk) (ghosts.told (disk_of log))
      (λ before after. after ≡ all_safe (take kept before.content))
  pub number_is : number_of log ≡ number
  pub len : len_of log ≡ kept
  pub fault : fault_of log ≡ None
  pub no_fault : ghosts.faults (disk_of log) ≡ ghosts.faults disk
  pub crash : LeavesOf ghosts disk (disk_of log) kept

-- the bytes that the log keeps are in front of the place, and are safe, and writes have come no further than before
pub record HasKeptBytes (b : Beginning) (before after : Disk) : Type 0 where
  pub place : after.place ≡ length b.kept
  pub kept : take after.place after.content ≡ b.kept
  pub safe : length b.kept ≤ after.synced
  pub reach : after.reach ≤ before.reach

-- What holds of a log that has begun on a disk, in any of the three ways.
pub record HasBegun {D : Type 0} {ghosts : Ghosts D} (b : Beginning) (disk : D) (log : LogWriter D ghosts)
    : Type 0 where
  pub told : Told (ghosts.told disk) (ghosts.told (disk_of log)) (HasKeptBytes b)
  pub number_is : number_of log ≡ b.number
  pub len : len_of log ≡ length b.kept
  pub fault : fault_of log ≡ None
  pub no_fault : ghosts.faults (disk_of log) ≡ ghosts.faults disk
  pub crash : LeavesOf ghosts disk (disk_of log) (length b.kept)

-- why no new log was opened: the look at the disk's length failed, or the disk isn't empty, or it is empty and there
-- was no memory for the block
abbrev pub IsCause : {D : Type 0} → Ghosts D → D → D → OpenError → Type 0
IsCause ghosts old new (Fault count) = Rose (ghosts.faults old) count × (count ≡ ghosts.faults new)
IsCause ghosts old new (NotEmpty len) = (0 < len) × IfSome (ghosts.told old) (λ d. length d.content ≡ len)
IsCause ghosts old new NoMemory = IfSome (ghosts.told old) (λ d. d.content ≡ [])

-- without a fault the disk's count of faults is as before
abbrev pub CountStands : {D : Type 0} → Ghosts D → D → D → OpenError → Type 0
CountStands ghosts old new (Fault count) = Unit {0}
CountStands ghosts old new (NotEmpty len) = ghosts.faults new ≡ ghosts.faults old
CountStands ghosts old new NoMemory = ghosts.faults new ≡ ghosts.faults old

-- no new log was opened, for this reason; the disk was only looked at
pub record IsOpenError {D : Type 0} (ghosts : Ghosts D) (old new : D) (why : OpenError) : Type 0 where
  pub looked_at : IsLookedAt ghosts old new
  pub cause : IsCause ghosts old new why
  pub no_fault : CountStands ghosts old new why

-- a call of the disk failed; or there was no memory for the block, and nothing was done to the disk
abbrev pub IsCauseOver : {D : Type 0} → Ghosts D → D → D → OpenError → Type 0
IsCauseOver ghosts old new (Fault count) = Rose (ghosts.faults old) count × (count ≡ ghosts.faults new)
IsCauseOver ghosts old new (NotEmpty len) = ⊥
IsCauseOver ghosts old new NoMemory = new ≡ old

-- no log was begun over old bytes, or, below, after kept ones, for this reason; the disk is as it was, or it is
-- rewound, or cut
pub record IsReuseError {D : Type 0} (ghosts : Ghosts D) (old new : D) (why : OpenError) : Type 0 where
  pub told : Told (ghosts.told old) (ghosts.told new) (λ before after. (after ≡ before) ⊎ (after ≡ rewound before))
  pub later : ghosts.faults old ≤ ghosts.faults new
  pub cause : IsCauseOver ghosts old new why
  pub crash : LeavesAsBefore ghosts old new

pub record IsResumeError {D : Type 0} (ghosts : Ghosts D) (old new : D) (kept : ℕ) (why : OpenError) : Type 0 where
  pub told : Told (ghosts.told old) (ghosts.told new)
      (λ before after. (after ≡ before) ⊎ (after ≡ cut_at kept before))
  pub later : ghosts.faults old ≤ ghosts.faults new
  pub cause : IsCauseOver ghosts old new why
  pub crash : LeavesOf ghosts old new kept

-- The first `kept` bytes of a disk are kept, with nothing after them, and are made safe. Where that fails, the disk is
-- as it was, or cut.
pub record Keeps {D T E : Type 0} (ghosts : Ghosts D) (old new : D) (kept : ℕ) (result : Result T E) : Type 0 where
  pub told : Told (ghosts.told old) (ghosts.told new) (λ before after. MatchResult result
      (λ _. after ≡ all_safe (take kept before.content))
      (λ _. (after ≡ before) ⊎ (after ≡ cut_at kept before)))
  pub counted : OnOk result (ghosts.added new ≡ kept)
  pub cause : HasCause (ghosts.faults old) (ghosts.faults new) result
  pub crash : LeavesOf ghosts old new kept
