use Rattle.std.proofs.Common.{◌≡◌, ◌+◌, ◌-◌, ◌^◌, ◌<◌, ◌≤◌, length, take, drop, IfSome}
use Rattle.log_reader.proofs.read_block.read_block.Given as goal

-- the first `len` bytes of the block are read
abbrev pub invariant-loop-len : goal.invariant-loop-len
invariant-loop-len g l = record {
  in_block : l.len ≤ length l.block;
  bytes : IfSome (g.R.ReadAt.held l.fn.disk) (λ d. take l.len l.block ≡ take l.len (drop l.start d));
  small : l.start + l.len < 2 ^ 63;
  worked : g.R.ReadAt.failures l.disk ≡ g.R.ReadAt.failures l.fn.disk;
  disk : g.R.ReadAt.only_reads l.fn.disk l.disk;
}

abbrev pub decreases-loop-len : goal.decreases-loop-len
decreases-loop-len g l = length l.block - l.len
