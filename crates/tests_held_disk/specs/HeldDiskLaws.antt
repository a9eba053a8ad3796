-- A held disk keeps the laws of a disk.
use Rattle.std.specs.Prelude.{ℕ, ◌+◌, ◌<◌, ◌≤◌, ◌^◌, List, max}
use Rattle.std.proofs.Common.{inl}
use Rattle.std.proofs.Math.Nat.{le_trans, min-le_left, le-max_left, le-max_right, lt_irrefl, lt_of_lt_of_le, le_refl}
use Rattle.std.proofs.Math.Numerals.{lt-add-one}
use Rattle.base_devices.specs.Disk.{Disk, IsDisk, IsImage, CountsNow, IsOnlyNow}
use Rattle.base_devices.specs.MemDisk.{disk_of, moment_of, from_of, since_of}
use Rattle.base_devices.specs.MemDiskLaws.{mem_disk_is_disk, mem_disk_is_small, only_since_now}
use Rattle.base_devices.specs.declared.mem_disk.MemDisk.{MemDisk}
use Rattle.tests_held_disk.specs.HeldDisk.{disk_at, from_at, held_told, held_added, held_moment, held_from, held_since}
use Rattle.tests_held_disk.specs.declared.disk.HeldDisk.{HeldDisk}
use Rattle.tests_held_disk.specs.declared.disk.Turn.{Turn}
use Rattle.tests_held_disk.specs.declared.disk.Turn.TheVariants.{Ahead, Past, Late}

-- with fewer safe bytes, and a reach that is no less, it is a disk still
is_disk_at : (turn : Turn) (d : Disk) → IsDisk d → IsDisk (disk_at turn d)
is_disk_at (Ahead others) d is = is
is_disk_at Past d is = is
is_disk_at (Late safe tried) d is =
    record {
      synced = le_trans (min-le_left d.synced safe) is.synced;
      within = le_trans is.within (le-max_left d.reach tried);
      placed = is.placed;
      small = is.small;
    }

pub held_is_disk : (h : HeldDisk) → IsDisk (disk_at h.turn (disk_of h.inner))
held_is_disk h = is_disk_at h.turn (disk_of h.inner) (mem_disk_is_disk h.inner)

pub held_added_small : (h : HeldDisk) → held_added h < 2 ^ 63
held_added_small h = mem_disk_is_small h.inner

-- after an append waited in vain, the disk tells of no moment up to now
never_late : (from moment t : ℕ) → max from (moment + 1) ≤ t → t ≤ moment → ⊥
never_late from moment t after until =
    let passed : moment + 1 ≤ t = le_trans (le-max_right from (moment + 1)) after in
    lt_irrefl moment (lt_of_lt_of_le (lt-add-one moment) (le_trans passed until))

-- otherwise it tells what the disk in memory tells
counts_now_at : (turn : Turn) (d : MemDisk) (t : ℕ) (image : List ℕ) → from_at turn (from_of d) (moment_of d) ≤ t
    → t ≤ moment_of d → IsImage (disk_at turn (disk_of d)) image → since_of d t image
counts_now_at (Ahead others) d t image after until is = inl is
counts_now_at Past d t image after until is = inl is
counts_now_at (Late safe tried) d t image after until is = absurd (never_late (from_of d) (moment_of d) t after until)

only_now_at : (turn : Turn) (d : MemDisk) (image : List ℕ) → from_at turn (from_of d) (moment_of d) ≤ moment_of d
    → since_of d (moment_of d) image → IsImage (disk_at turn (disk_of d)) image
only_now_at (Ahead others) d image after was = only_since_now d image after was
only_now_at Past d image after was = only_since_now d image after was
only_now_at (Late safe tried) d image after was =
    absurd (never_late (from_of d) (moment_of d) (moment_of d) after (le_refl (moment_of d)))

pub held_counts_now : (h : HeldDisk) → CountsNow (held_told h) (held_from h) (held_moment h) (held_since h)
held_counts_now h = counts_now_at h.turn h.inner

pub held_only_now : (h : HeldDisk) → IsOnlyNow (held_told h) (held_from h) (held_moment h) (held_since h)
held_only_now h = only_now_at h.turn h.inner
