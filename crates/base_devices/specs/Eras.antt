-- What a disk in memory tells of the times before its last sync.
--
-- An era is the time between two syncs that changed something. In an era some bytes were safe, and writes reached up
-- to some point. What a crash might have left at its end covers what it might have left earlier in it.
--
-- Since the last rewind or cut, bytes have been written one piece after the other, from the place that it set. So when
-- an era ended at the place `place`, the bytes before this place were those that the content has there now, and the
-- bytes after it were those from the rewind or cut. These are kept as `before`, which has all bytes of the eras that
-- ended earlier.
use Rattle.std.specs.Prelude.{◌⊎◌, ℕ, ◌+◌, Bool, true, false, List, [], ◌∷◌, ◌++◌, length, take, drop}
use Rattle.base_devices.specs.Disk.{Disk, IsImage}
use Rattle.base_devices.specs.declared.mem_disk.Era.{Era}

-- a disk at the end of an era, with this content
abbrev pub disk_with : List ℕ → Era → Disk
disk_with content era = record { content = content; synced = era.synced; reach = era.reach; place = era.place }

-- The disk at the end of an era, made of the content now and the content at the last rewind or cut. It still has bytes
-- that were cut off, but its images are those of the era, since an image is compared with the safe bytes alone.
abbrev pub disk_in : List ℕ → List ℕ → Era → Disk
disk_in content before era = disk_with (take era.place content ++ drop era.place before) era

-- a crash in one of these eras might have left this
abbrev pub WasImage : List ℕ → List ℕ → List Era → List ℕ → Type 0
WasImage content before [] image = ⊥
WasImage content before (era ∷ eras) image =
    IsImage (disk_in content before era) image ⊎ WasImage content before eras image

-- The moments are numbered by how many eras have ended. The disk tells of all moments, or of none once an era is
-- forgotten.
abbrev pub told_from : Bool → List Era → ℕ
told_from false eras = 0
told_from true eras = length eras + 1

-- an era that ended before the last rewind or cut: its place becomes 0
abbrev pub set_out_era : Era → Era
set_out_era era = record era { place = 0 }
