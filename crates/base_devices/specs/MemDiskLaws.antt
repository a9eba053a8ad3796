-- Why a disk in memory keeps the laws of a disk.
use Rattle.std.specs.Prelude.{ℕ, ◌<◌, ◌≤◌, ◌^◌, List, [], ◌∷◌, length, drop}
use Rattle.std.proofs.Common.{inl, inr}
use Rattle.std.proofs.Math.Nat.{lt_of_le_of_lt}
use Rattle.base_devices.specs.Disk.{IsDisk, IsImage}
use Rattle.base_devices.specs.Eras.{WasImage}
use Rattle.base_devices.specs.MemDisk.{disk_of, place_of, moment_of, from_of, since_of}
use Rattle.base_devices.specs.declared.mem_disk.Era.{Era}
use Rattle.base_devices.specs.declared.mem_disk.MemDisk.{MemDisk}

-- the place is in the content or at its end, and no `Vec` has 2 ^ 63 bytes
pub mem_disk_is_small : (d : MemDisk) → place_of d < 2 ^ 63
mem_disk_is_small d = lt_of_le_of_lt d.placed d.small

-- what it shows is a disk
pub mem_disk_is_disk : (d : MemDisk) → IsDisk (disk_of d)
mem_disk_is_disk d = record { synced = d.safe; within = d.reached; placed = d.placed; small = d.small }

-- no era has ended after the last of them
none_since : (content before : List ℕ) (eras : List Era) (image : List ℕ)
    → WasImage content before (drop (length eras) eras) image → ⊥
none_since content before [] image was = was
none_since content before (era ∷ eras) image was = none_since content before eras image was

-- so since this moment a crash might have left only what it may leave now
pub only_since_now : (d : MemDisk) (image : List ℕ) → from_of d ≤ moment_of d → since_of d (moment_of d) image
    → IsImage (disk_of d) image
only_since_now d image from (inl now) = now
only_since_now d image from (inr was) = absurd (none_since d.content.items d.before.items d.past.items image was)
