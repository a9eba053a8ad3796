use Rattle.std.proofs.Common.{◌≡◌, ◌++◌}
use Rattle.model_base.specs.Map.{rows_within}
use Rattle.replay_schedules.proofs.answers.rows_in.Given as goal

-- the rows so far, with those of the pairs that are left, are the rows of all pairs
abbrev pub invariant-loop-own : goal.invariant-loop-own
invariant-loop-own l = l.rows ++ rows_within l.family l.lo l.hi l.own-iterator ≡ rows_within l.family l.lo l.hi l.pairs
