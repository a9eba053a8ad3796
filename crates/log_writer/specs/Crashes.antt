-- What a crash leaves of a log's disk, in bytes and in records.
use Rattle.std.specs.Prelude.{◌≡◌, ℕ, ◌+◌, ◌≤◌, min, max, List, [], ◌∷◌, ◌++◌, length, take, map, Option, IfSome}
use Rattle.std.specs.List.{AllByRecursion}
use Rattle.base_devices.specs.Disk.{Disk, IsImage, LeavesOnly}
use Rattle.base_devices.specs.declared.disk.Disk.{Ghosts}
use Rattle.model_base.specs.Batch.{IsBatch}
use Rattle.model_base.specs.Log.{Beginning, text_after, SpellsWhole}
use Rattle.model_base.specs.Recovery.{Logged, logged_bytes, AreInOrder, NoChance, NoChanceForReader}
use Rattle.log_laws.specs.Prefixes.{RecoversPrefix, ReadsPrefix}
pub use Rattle.model_base.specs.LogContents.{HoldsUpTo}

-- how many bytes are safe, whatever is put at the disk's place
abbrev pub safe_len : Disk → ℕ
safe_len d = min d.synced d.place

-- those bytes are a prefix of the image
pub record KeepsSafe (d : Disk) (image : List ℕ) : Type 0 where
  pub front : take (safe_len d) image ≡ take (safe_len d) d.content
  pub no_shorter : safe_len d ≤ length image

-- the same, where the disk tells what it is
abbrev pub KeepsWhatWasSafe : Option Disk → List ℕ → Type 0
KeepsWhatWasSafe told image = IfSome told (λ d. KeepsSafe d image)

-- how far writes may come while `more` bytes are put at the place: as far as before, or to the end of these bytes
abbrev pub reach_with : Disk → ℕ → ℕ
reach_with d more = max d.reach (d.place + more)

-- what a crash may leave meanwhile: the safe bytes, and nothing past that reach
pub record IsLeft (d : Disk) (more : ℕ) (image : List ℕ) : Type 0 where
  pub safe : KeepsSafe d image
  pub no_longer : length image ≤ reach_with d more

-- the same, where the disk tells what it is
abbrev pub MayBeLeft : Option Disk → ℕ → List ℕ → Type 0
MayBeLeft told more image = IfSome told (λ d. IsLeft d more image)

-- The disk has the text of these records up to its place, in a log of this beginning, and the first `safe` of them are
-- safe. What is after the place is no part of the log.
pub record HoldsRecords (b : Beginning) (d : Disk) (records : List (List ℕ)) (safe : ℕ) : Type 0 where
  pub content : take d.place d.content ≡ text_after b records
  pub some : safe ≤ length records
  pub synced : length (text_after b (take safe records)) ≤ d.synced

-- the records are batches whose runs rise
pub record AreRisingBatches (records : List (List ℕ)) : Type 0 where
  pub batches : List Logged
  pub same : map logged_bytes batches ≡ records
  pub each : AllByRecursion (λ b. IsBatch (logged_bytes b) b.first b.records) batches
  pub rising : AreInOrder 0 batches

-- Unless a checksum matches by chance, recovery of the image and a reader of it find a prefix of the records that the
-- log kept, followed by these, with at least the first `safe` of these. Recovery looks at batches, so it is said of
-- recovery only where the kept records and the safe ones are batches whose runs rise.
pub record KeepsPrefix (b : Beginning) (records : List (List ℕ)) (safe : ℕ) (image : List ℕ) : Type 0 where
  pub recovered : (kept : List (List ℕ)) → SpellsWhole b.number b.kept kept
      → AreRisingBatches (kept ++ take safe records) → NoChance b.number image (text_after b records)
      → RecoversPrefix b.number (kept ++ records) image (λ n. length kept + safe ≤ n)
  pub read : (kept : List (List ℕ)) → SpellsWhole b.number b.kept kept
      → NoChanceForReader b.number image (text_after b records)
      → ReadsPrefix b.number (kept ++ records) image (λ n. length kept + safe ≤ n)

-- A crash at any moment of a call that adds a record leaves a prefix of the earlier records followed by this one, with
-- all that was safe.
abbrev pub LeavesPrefix : {D : Type 0} → Ghosts D → D → D → List ℕ → Type 0
LeavesPrefix ghosts old new record_bytes = IfSome (ghosts.told old) (λ d.
    (b : Beginning) (records : List (List ℕ)) (safe : ℕ) → HoldsRecords b d records safe
    → LeavesOnly ghosts.moment ghosts.from ghosts.since old new (KeepsPrefix b (records ++ record_bytes ∷ []) safe))

-- Now that the call has returned, a crash leaves all the earlier records and this one.
abbrev pub IsDurable : {D : Type 0} → Ghosts D → Option ℕ → D → D → List ℕ → Type 0
IsDurable ghosts number old new record_bytes = IfSome (ghosts.told old) (λ d.
    (b : Beginning) (records : List (List ℕ)) → b.number ≡ number → take d.place d.content ≡ text_after b records
    → IfSome (ghosts.told new) (λ e. (image : List ℕ) → IsImage e image
    → KeepsPrefix b (records ++ record_bytes ∷ []) (length records + 1) image))
