-- What is left, and what was moved, last one first, are all items.
use Rattle.std.proofs.Common.{◌≡◌, ◌≤◌, ◌++◌, ◌-◌, length, reverse, vec_capacity}
use Rattle.table_tree.proofs.splitting.move_back.Given as goal

abbrev pub invariant-loop-from : goal.invariant-loop-from
invariant-loop-from g l = record {
  all : l.from.items ++ reverse l.to.items ≡ l.initial.from.items;
  kept : l.keep ≤ length l.from.items;
  room : (vec_capacity l.from ≡ vec_capacity l.initial.from) × (vec_capacity l.to ≡ vec_capacity l.initial.to);
}

abbrev pub decreases-loop-from : goal.decreases-loop-from
decreases-loop-from g l = length l.from.items - l.keep
