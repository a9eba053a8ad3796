-- What it does to a disk to put bytes at its place, and perhaps to sync them.
use Rattle.std.specs.Prelude.{◌≡◌, ℕ, ◌+◌, ◌≤◌, Bool, true, false, List, ◌++◌, length, take, Result, MatchResult}
use Rattle.base_devices.specs.Disk.{Disk, IsAllSafe, put_at, Told, LeavesOnly}
use Rattle.base_devices.specs.Faults.{HasCause}
use Rattle.base_devices.specs.declared.disk.Disk.{Ghosts}
use Rattle.log_writer.specs.Crashes.{safe_len, reach_with, MayBeLeft}

-- all the content is safe, if a sync was asked for; otherwise at least what was safe in front of the place
abbrev pub IsSynced : Bool → Disk → Disk → Type 0
IsSynced true before after = IsAllSafe after
IsSynced false before after = safe_len before ≤ after.synced

-- the bytes are where the place was, over what was there, and the place is after them
pub record StandPut (before after : Disk) (bytes : List ℕ) (sync : Bool) : Type 0 where
  pub content : after.content ≡ put_at before.place bytes before.content
  pub place : after.place ≡ before.place + length bytes
  pub synced : IsSynced sync before after

-- what was in front of the place is there still, whatever follows it, and as much of it is safe; the place hasn't moved
-- back
pub record StaysInFront (before after : Disk) : Type 0 where
  pub content : take before.place after.content ≡ take before.place before.content
  pub place : before.place ≤ after.place
  pub synced : safe_len before ≤ after.synced

-- Where putting failed, some of the bytes are put: as many as the place has moved on by. What is behind the place is
-- left to the disk, whose call failed.
pub record IsPutInPart (before after : Disk) (bytes : List ℕ) : Type 0 where
  pub stays : StaysInFront before after
  pub some : ℕ
  pub few : some ≤ length bytes
  pub moved : after.place ≡ before.place + some
  pub part : take after.place after.content ≡ take before.place before.content ++ take some bytes

-- The bytes are put; or where that failed, some of them, and nothing in front of the place has changed.
abbrev pub ArePut : {T E : Type 0} → Disk → Disk → List ℕ → Bool → Result T E → Type 0
ArePut before after bytes sync result =
    MatchResult result (λ _. StandPut before after bytes sync) (λ _. IsPutInPart before after bytes)

pub record Puts {D T E : Type 0} (ghosts : Ghosts D) (old new : D) (bytes : List ℕ) (sync : Bool) (result : Result T E)
    : Type 0 where
  pub are_put : Told (ghosts.told old) (ghosts.told new) (λ before after. ArePut before after bytes sync result)
  pub counted : MatchResult result
      (λ _. ghosts.added new ≡ ghosts.added old + length bytes)
      (λ _. ghosts.added old ≤ ghosts.added new)
  pub cause : HasCause (ghosts.faults old) (ghosts.faults new) result
  pub reached : Told (ghosts.told old) (ghosts.told new)
      (λ before after. after.reach ≤ reach_with before (length bytes))
  -- what a crash at any moment of it leaves has what was safe in front of the place, and reaches no further than the
  -- end of these bytes, or, if that is further, than writes could come before
  pub crash : LeavesOnly ghosts.moment ghosts.from ghosts.since old new (MayBeLeft (ghosts.told old) (length bytes))
