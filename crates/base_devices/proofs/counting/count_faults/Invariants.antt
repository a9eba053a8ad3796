use Rattle.std.proofs.Common.{◌≡◌, take}
use Rattle.base_devices.specs.Faults.{count_in_all}
use Rattle.base_devices.proofs.counting.count_faults.Given as goal

-- the faults of the disks so far are counted
abbrev pub invariant-loop-disk : goal.invariant-loop-disk
invariant-loop-disk g l = l.count ≡ count_in_all g.D.Disk.faults (take l.disk-index l.disks)
