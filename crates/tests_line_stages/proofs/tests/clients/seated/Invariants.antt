use Rattle.std.proofs.Common.{◌≡◌, ◌+◌, vec_len, vec_capacity}
use Rattle.line_writers.specs.Rooms.{AllReady}
use Rattle.line_writers.specs.Seats.{clients_of, AllNew}
use Rattle.tests_line_stages.specs.Clients.{AllMayWrite, AllStand}
use Rattle.tests_line_stages.proofs.tests.clients.seated.Given as goal

abbrev pub invariant-loop-made : goal.invariant-loop-made
invariant-loop-made g l = record {
  writers : AllNew l.list l.writers.items;
  lists : AllReady (clients_of l.list) l.lists.items;
  clients : AllMayWrite l.list l.clients.items;
  stand : AllStand l.list l.clients.items;
  left : (vec_len l.writers + l.made ≡ clients_of l.list) × (vec_len l.lists + l.made ≡ clients_of l.list);
  room : (vec_len l.clients ≡ l.made) × (vec_capacity l.clients ≡ clients_of l.list);
}
