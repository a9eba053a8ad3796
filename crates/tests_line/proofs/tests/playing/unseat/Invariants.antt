use Rattle.std.proofs.Common.{◌≡◌, ◌+◌, vec_len, vec_capacity}
use Rattle.tests_line.specs.Players.{AllMayWrite, AreSat}
use Rattle.tests_line.proofs.tests.playing.unseat.Given as goal

abbrev pub invariant-loop-i : goal.invariant-loop-i
invariant-loop-i l = record {
  players : AllMayWrite l.list l.players.items;
  writers : AreSat l.list (vec_len l.initial.players) l.writers.items;
  left : vec_len l.players + l.i ≡ vec_len l.initial.players;
  room : (vec_len l.writers ≡ l.i) × (vec_capacity l.writers ≡ vec_capacity l.initial.writers);
}
