use Rattle.std.proofs.Common.{◌≡◌, ◌-◌, ◌%◌, ◌^◌, ◌++◌, take}
use Rattle.base_devices.proofs.Drawn.{drawn_from}
use Rattle.base_devices.proofs.mem_disk.draw_over.Given as goal

-- the bytes so far, and those that the next draws make, are all that the draws of the seed make
abbrev pub invariant-loop-byte : goal.invariant-loop-byte
invariant-loop-byte l =
    take l.byte-index l.bytes ++ drawn_from (l.byte-index-end - l.byte-index) l.draws.state ≡ drawn_from l.byte-index-end (l.seed % 2 ^ 31)
