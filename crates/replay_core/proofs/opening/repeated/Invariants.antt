use Rattle.std.proofs.Common.{◌≡◌, replicate, vec_len}
use Rattle.replay_core.proofs.opening.repeated.Given as goal

abbrev pub invariant-loop-count : goal.invariant-loop-count
invariant-loop-count g l = (l.list.items ≡ replicate l._count l.item) × (vec_len l.list ≡ l._count)
