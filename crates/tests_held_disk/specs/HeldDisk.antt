-- What a held disk shows: it is the disk in memory, except for an append that waited in vain.
--
-- Such an append failed. So it may have reached the medium, from the disk's place on and as far as it tried to write,
-- and it counts as one more fault. What the disk in memory tells of crashes before now leaves this out. So from then
-- on a held disk tells nothing of crashes before now.
use Rattle.std.specs.Prelude.{ℕ, ◌+◌, min, max, Bool, true, List, Option, Some, Result}
use Rattle.base_devices.specs.Disk.{Disk}
use Rattle.base_devices.specs.Listed.{FailsAsListed, faults_after_call}
use Rattle.base_devices.specs.MemDisk.{disk_of, place_of, disk_calls, moment_of, from_of, since_of}
use Rattle.base_devices.specs.declared.mem_disk.MemDisk.{MemDisk}
use Rattle.tests_held_disk.specs.declared.disk.HeldDisk.{HeldDisk}
use Rattle.tests_held_disk.specs.declared.disk.Turn.{Turn}
use Rattle.tests_held_disk.specs.declared.disk.Turn.TheVariants.{Ahead, Past, Late}
use Rattle.tests_held_disk.specs.declared.hold.AppendHold.{AppendHold}

-- how many have to arrive before the hold is open
abbrev pub need_of : AppendHold → ℕ
need_of hold = hold.need

-- the disk in memory
abbrev pub inner_of : HeldDisk → MemDisk
inner_of h = h.inner

-- how many have to arrive before the held append goes on
abbrev pub hold_need : HeldDisk → ℕ
hold_need h = need_of h.hold.now

-- how many appends remain up to the held one, with it; 0 where none is held any more
abbrev pub left_at : Turn → ℕ
left_at (Ahead others) = others + 1
left_at Past = 0
left_at (Late safe tried) = 0

abbrev pub left_of : HeldDisk → ℕ
left_of h = left_at h.turn

-- A call fails just where it does so on the disk in memory: where its number is listed or the disk is full.
abbrev pub FailsAsInner : {T E : Type 0} → HeldDisk → HeldDisk → Bool → Result T E → Type 0
FailsAsInner old new full result = FailsAsListed (disk_calls (inner_of old)) (disk_calls (inner_of new)) full result

-- the disk, where an append that waited in vain left at most `safe` bytes safe and tried to write up to `tried`
abbrev pub disk_at : Turn → Disk → Disk
disk_at (Ahead others) d = d
disk_at Past d = d
disk_at (Late safe tried) d = record d { synced = min d.synced safe; reach = max d.reach tried }

-- the first moment that the disk tells of: after an append waited in vain, one that is later than now
abbrev pub from_at : Turn → ℕ → ℕ → ℕ
from_at (Ahead others) from moment = from
from_at Past from moment = from
from_at (Late safe tried) from moment = max from (moment + 1)

-- the count of faults, where an append that waited in vain is one
abbrev pub faults_at : Turn → ℕ → ℕ
faults_at (Ahead others) faults = faults
faults_at Past faults = faults
faults_at (Late safe tried) faults = faults_after_call true faults

-- what a held disk gives as the ghost members of the trait `Disk`
abbrev pub held_told : HeldDisk → Option Disk
held_told h = Some (disk_at h.turn (disk_of h.inner))

abbrev pub held_added : HeldDisk → ℕ
held_added h = place_of h.inner

abbrev pub held_moment : HeldDisk → ℕ
held_moment h = moment_of h.inner

abbrev pub held_from : HeldDisk → ℕ
held_from h = from_at h.turn (from_of h.inner) (moment_of h.inner)

abbrev pub held_since : HeldDisk → ℕ → List ℕ → Type 0
held_since h = since_of h.inner

abbrev pub held_faults : HeldDisk → ℕ
held_faults h = faults_at h.turn (disk_calls h.inner).faults
