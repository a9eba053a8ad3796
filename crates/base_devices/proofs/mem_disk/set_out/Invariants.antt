use Rattle.std.proofs.Common.{◌≡◌, ◌++◌, take, drop, map}
use Rattle.base_devices.specs.Eras.{set_out_era}
use Rattle.base_devices.proofs.mem_disk.set_out.Given as goal

-- the eras so far have the place 0, and the others are as they were
abbrev pub invariant-loop-era : goal.invariant-loop-era
invariant-loop-era l = l.eras ≡ map set_out_era (take l.era-index l.initial.eras) ++ drop l.era-index l.initial.eras
