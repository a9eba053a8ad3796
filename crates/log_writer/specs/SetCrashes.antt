-- What a crash leaves of several disks, whose logs are written one after another.
use Rattle.std.specs.Prelude.{◌≡◌, ℕ, ◌≤◌, List, [], ◌∷◌, map, Some, None, IfSome, ⊤}
use Rattle.std.specs.List.{AllByRecursion, AllZip}
use Rattle.base_devices.specs.Disk.{Disk, IsImage, IsAllSafe}
use Rattle.base_devices.specs.declared.disk.Disk.{Ghosts}
use Rattle.log_laws.specs.Fronts.{HaveFront}
use Rattle.log_writer.specs.declared.set.LogSet.{LogSet}
use Rattle.log_writer.specs.Words.{disk_of}
use Rattle.log_writer.specs.Opening.{HasOpened}
use Rattle.log_writer.specs.Sets.{full_of, logs_of, fault_in}

module _ {D : Type 0} (ghosts : Ghosts D) where
  -- a crash now may leave this image of the disk, if the disk tells what it is
  abbrev pub IsLeftNow : D → List ℕ → Type 0
  IsLeftNow disk image = IfSome (ghosts.told disk) (λ d. IsImage d image)

  -- a crash at some moment from `old` to `new` may have left this image, and the disk still tells of that time
  abbrev pub IsLeftBetween : D → D → List ℕ → Type 0
  IsLeftBetween old new image = (ghosts.from new ≤ ghosts.moment old) × ghosts.since new (ghosts.moment old) image

  -- A crash at some moment from `olds` to `news` may have left these images: of one disk what it may have left in that
  -- time, of each disk before it what it may leave now, and of each disk after it what it might have left when that
  -- time began. A crash at any moment leaves such images of logs that are written one after another, since a log isn't
  -- written to any more once the next one has begun.
  pub data AreLeft : List D → List D → List (List ℕ) → Type 0 where
    here : {old new : D} {olds news : List D} {image : List ℕ} {images : List (List ℕ)}
        → IsLeftBetween old new image → AllZip IsLeftNow olds images
        → AreLeft (old ∷ olds) (new ∷ news) (image ∷ images)
    later : {old new : D} {olds news : List D} {image : List ℕ} {images : List (List ℕ)}
        → IsLeftNow new image → AreLeft olds news images → AreLeft (old ∷ olds) (new ∷ news) (image ∷ images)

-- a set of logs was opened on these empty disks, and has no bytes
pub record HasOpenedSet {D : Type 0} {ghosts : Ghosts D} (disks : List D) (set : LogSet D ghosts) : Type 0 where
  pub none_full : full_of set ≡ []
  pub opened : AllZip HasOpened disks (logs_of set)
  pub fault : fault_in set ≡ None

-- Each disk tells what it is; and of each after the first a crash leaves its content and nothing else.
abbrev pub AreSafeAfterFirst : {D : Type 0} → Ghosts D → List D → Type 0
AreSafeAfterFirst ghosts [] = ⊤
AreSafeAfterFirst ghosts (disk ∷ disks) = ((d : Disk) × (ghosts.told disk ≡ Some d))
    × AllByRecursion (λ other. (d : Disk) × (ghosts.told other ≡ Some d) × IsAllSafe d) disks

-- What a crash may leave of the disks at any moment from one state of a set to another is a front of these logs, with
-- at least so many records for certain.
abbrev pub LeavesFront : {D : Type 0} {ghosts : Ghosts D} → LogSet D ghosts → LogSet D ghosts → ℕ
    → List (List (List ℕ)) → Type 0
LeavesFront {ghosts = ghosts} old new safe logs = (images : List (List ℕ))
    → AreLeft ghosts (map (λ log. disk_of log) (logs_of old)) (map (λ log. disk_of log) (logs_of new)) images
    → HaveFront safe logs images
