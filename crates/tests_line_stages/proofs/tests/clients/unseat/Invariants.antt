use Rattle.std.proofs.Common.{◌≡◌, ◌+◌, vec_len, vec_capacity}
use Rattle.tests_line_stages.specs.Clients.{AllMayWrite, AreIdle}
use Rattle.tests_line_stages.proofs.tests.clients.unseat.Given as goal

abbrev pub invariant-loop-i : goal.invariant-loop-i
invariant-loop-i l = record {
  clients : AllMayWrite l.list l.clients.items;
  writers : AreIdle l.list (vec_len l.initial.clients) l.writers.items;
  left : vec_len l.clients + l.i ≡ vec_len l.initial.clients;
  room : (vec_len l.writers ≡ l.i) × (vec_capacity l.writers ≡ vec_capacity l.initial.writers);
}
