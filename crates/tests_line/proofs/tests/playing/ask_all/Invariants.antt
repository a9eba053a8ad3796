use Rattle.std.proofs.Common.{ℕ, ◌+◌, ◌<◌, ◌≤◌, length, slice_index_or}
use Rattle.tests_line.specs.declared.counter.Player.{Player}
use Rattle.tests_line.specs.Players.{MayWrite, HasAsked}
use Rattle.tests_line.proofs.tests.playing.ask_all.Given as goal

abbrev pub invariant-loop-i : goal.invariant-loop-i
invariant-loop-i g l = record {
  asked : (j : ℕ) (d : Player) → j < l.i → HasAsked l.list (j + 1) (slice_index_or l.players j d);
  out : (j : ℕ) (d : Player) → l.i ≤ j → j < length l.players → MayWrite l.list (j + 1) (slice_index_or l.players j d);
}
