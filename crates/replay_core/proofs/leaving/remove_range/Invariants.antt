use Rattle.std.proofs.Common.{◌≡◌, ◌+◌, ◌≤◌, ◌++◌, take, drop, vec_len}
use Rattle.std.specs.Prelude.{vec_capacity}
use Rattle.replay_core.proofs.leaving.remove_range.Given as goal

-- one item is taken out for each pass of the loop
abbrev pub invariant-loop : goal.invariant-loop
invariant-loop g l = (l.items.items ≡ take l.start l.initial.items.items ++ drop (l.start + l.counter) l.initial.items.items)
    × (vec_len l.items + l.counter ≡ vec_len l.initial.items) × (vec_capacity l.initial.items ≤ vec_capacity l.items) × (l.start + l.len ≤ vec_len l.initial.items)
