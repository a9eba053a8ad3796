use Rattle.std.proofs.Common.{◌≡◌, ◌<◌, ◌-◌, ◌^◌, ◌++◌, length, take}
use Rattle.model_base.specs.Varint.{varint_within, varint}
use Rattle.base_bytes.proofs.numbers.put_varint32.Given as goal

-- the bytes so far and the spelling of what is left, in the bytes that are left, are the whole spelling
abbrev pub invariant-loop-rest : goal.invariant-loop-rest
invariant-loop-rest l = record {
  room : length l.spelling ≡ 5;
  few : l.len < 5;
  small : l.rest < 128 ^ (5 - l.len);
  spelled : take l.len l.spelling ++ varint_within (5 - l.len) l.rest ≡ varint l.n;
}

abbrev pub decreases-loop-rest : goal.decreases-loop-rest
decreases-loop-rest l = l.rest
