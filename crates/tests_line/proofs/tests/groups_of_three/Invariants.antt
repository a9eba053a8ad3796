use Rattle.std.proofs.Common.{◌≡◌, vec_len}
use Rattle.tests_line.specs.Players.{AllMayWrite}
use Rattle.tests_line.proofs.tests.groups_of_three.Given as goal

abbrev pub invariant-loop-row : goal.invariant-loop-row
invariant-loop-row g l = record {
  out : AllMayWrite l.list l.players.items;
  len : vec_len l.players ≡ 3;
}
