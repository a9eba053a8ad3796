-- The part at `low` begins not above the key or is the first one, and the part at `high` begins above it.
use Rattle.std.proofs.Common.{◌<◌, ◌≤◌, ◌-◌, length, map, take, drop}
use Rattle.base_maps.specs.Cuts.{AreBelow, AreAbove}
use Rattle.base_maps.specs.Parts.{all_in}
use Rattle.base_maps.proofs.part.part_of.Given as goal

abbrev pub invariant-loop-high : goal.invariant-loop-high
invariant-loop-high g l = record {
  ordered : l.low < l.high;
  within : l.high ≤ length l.parts;
  below : AreBelow l.key (all_in (take l.low (map g.P.Part.rows l.parts)));
  above : AreAbove l.key (all_in (drop l.high (map g.P.Part.rows l.parts)));
}

abbrev pub decreases-loop-high : goal.decreases-loop-high
decreases-loop-high g l = l.high - l.low
