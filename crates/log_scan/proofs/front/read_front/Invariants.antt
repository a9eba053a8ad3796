use Rattle.std.proofs.Common.{◌≡◌, ◌+◌, ◌-◌, ◌^◌, ◌<◌, ◌≤◌, length, take, drop, IfSome}
use Rattle.log_scan.proofs.front.read_front.Given as goal

-- the first `len` bytes of the buffer are read
abbrev pub invariant-loop-len : goal.invariant-loop-len
invariant-loop-len g l = record {
  in_buffer : l.len ≤ length l.buffer;
  bytes : IfSome (g.R.ReadAt.held l.fn.disk) (λ d. (l.len ≤ length (drop l.at d)) × (take l.len l.buffer ≡ take l.len (drop l.at d)));
  small : 0 < l.len → l.at + l.len < 2 ^ 63;
  worked : g.R.ReadAt.failures l.disk ≡ g.R.ReadAt.failures l.fn.disk;
  disk : g.R.ReadAt.only_reads l.fn.disk l.disk;
}

abbrev pub decreases-loop-len : goal.decreases-loop-len
decreases-loop-len g l = length l.buffer - l.len
