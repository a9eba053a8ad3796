-- The entries before `low` are below the key, and those from `high` on are above it.
use Rattle.std.proofs.Common.{◌≤◌, ◌-◌, length, take, drop}
use Rattle.table_nodes.specs.Nodes.{at_key}
use Rattle.table_tree.specs.Places.{AreUnder, AreOver}
use Rattle.table_tree.proofs.places.place_of.Given as goal

abbrev pub invariant-loop-low : goal.invariant-loop-low
invariant-loop-low l = record {
  ordered : l.low ≤ l.high;
  within : l.high ≤ length l.entries;
  under : AreUnder (at_key l.family l.key) (take l.low l.entries);
  over : AreOver (at_key l.family l.key) (drop l.high l.entries);
}

abbrev pub decreases-loop-low : goal.decreases-loop-low
decreases-loop-low l = l.high - l.low
