-- What a disk in memory shows.
use Rattle.std.specs.Prelude.{◌≡◌, ◌⊎◌, ℕ, ◌+◌, ◌-◌, ◌≤◌, Bool, false, nat_lt, Option, Some, All}
use Rattle.std.specs.Prelude.{List, ◌++◌, length, take, drop, map, slice_set}
use Rattle.base_devices.specs.Disk.{Disk, IsImage}
use Rattle.base_devices.specs.Drawn.{bytes_drawn}
use Rattle.base_devices.specs.Eras.{WasImage, set_out_era, told_from}
use Rattle.base_devices.specs.Listed.{Listed}
use Rattle.base_devices.specs.declared.mem_disk.MemDisk.{MemDisk}

-- the content, how much of it is safe, how far writes reached, and where the next append writes
abbrev pub disk_of : MemDisk → Disk
disk_of d = record { content = d.content.items; synced = d.synced; reach = d.reach; place = d.place }

abbrev pub told_of : MemDisk → Option Disk
told_of d = Some (disk_of d)

-- how many bytes it has
abbrev pub len_of : MemDisk → ℕ
len_of d = length (disk_of d).content

-- how many bytes the content may have
abbrev pub capacity_of : MemDisk → ℕ
capacity_of d = d.capacity

-- where the next append writes
abbrev pub place_of : MemDisk → ℕ
place_of d = (disk_of d).place

-- there is no room for this number of bytes from the place on
abbrev pub has_no_room : MemDisk → ℕ → Bool
has_no_room d more = nat_lt (capacity_of d) (place_of d + more)

-- its first len bytes, as a crash may leave them; all of them are safe
abbrev pub cut_to : ℕ → Disk → Disk
cut_to len d = record { content = take len d.content; synced = len; reach = len; place = len }

-- its safe bytes and then drawn ones, len bytes in all: a crash that tears what wasn't safe may leave them
abbrev pub torn_to : ℕ → ℕ → Disk → Disk
torn_to len seed d =
    record {
      content = take d.synced d.content ++ bytes_drawn (len - d.synced) seed;
      synced = len;
      reach = len;
      place = len;
    }

-- the disk with another byte at one place of the content
abbrev pub with_byte : Disk → ℕ → ℕ → Disk
with_byte d at byte = record d { content = slice_set d.content at byte }

-- the numbers of the calls that must fail, how many were made, and how many failed
abbrev pub disk_calls : MemDisk → Listed
disk_calls d = d.calls

-- how many eras have ended
abbrev pub moment_of : MemDisk → ℕ
moment_of d = length d.past.items

-- the first moment of which it tells what a crash might have left
abbrev pub from_of : MemDisk → ℕ
from_of d = told_from d.forgot d.past.items

-- what a crash might have left since a moment: now, or in an era that ended since then
abbrev pub since_of : MemDisk → ℕ → List ℕ → Type 0
since_of d t image =
    IsImage (disk_of d) image ⊎ WasImage d.content.items d.before.items (drop t d.past.items) image

-- what it tells of crashes begins now
pub record StartsAnew (d : MemDisk) : Type 0 where
  pub moment : moment_of d ≡ 0
  pub from : from_of d ≡ 0

-- no era has ended, and none was forgotten
pub record SameEra (old new : MemDisk) : Type 0 where
  pub moment : moment_of new ≡ moment_of old
  pub from : from_of new ≡ from_of old

-- the bytes that were safe in the eras that have ended are all before the place that their era ended at
abbrev pub HasKeptSafe : MemDisk → Type 0
HasKeptSafe d = All (λ era. era.synced ≤ era.place) d.past.items

-- No era ends. `before` becomes the content, and the eras that have ended get the place 0, so that their bytes are
-- looked up in `before`. The disk forgets these eras, unless in each of them all safe bytes were before its place.
pub record IsTurned (old new : MemDisk) : Type 0 where
  pub before : new.before.items ≡ old.content.items
  pub past : new.past.items ≡ map set_out_era old.past.items
  pub forgot : new.forgot ≡ false → (old.forgot ≡ false) × HasKeptSafe old
  pub remembers : HasKeptSafe old → new.forgot ≡ old.forgot
