use Rattle.std.proofs.Common.{ℕ, ◌+◌, ◌*◌, ◌<◌, ◌≤◌, ◌^◌, ◌++◌, List, take}
use Rattle.model_base.specs.Varint.{IsVarint, GoesOn}
use Rattle.base_bytes.proofs.reading.long_varint32.Given as goal

-- Each byte so far says that another follows, and the low bits of these bytes make n: followed by a spelling of m,
-- they spell n + 2 ^ (7 * i) * m.
abbrev pub invariant-loop-i : goal.invariant-loop-i
invariant-loop-i l = record {
  some : 1 ≤ l.i;
  few : l.i ≤ 4;
  goes_on : GoesOn l.i l.bytes;
  small : l.n < 2 ^ (7 * l.i);
  spelled : (m : ℕ) (rest : List ℕ) → 0 < m → IsVarint rest m → IsVarint (take l.i l.bytes ++ rest) (l.n + 2 ^ (7 * l.i) * m);
}
