use Rattle.std.proofs.Common.{◌≡◌, ◌+◌, ◌++◌, map, length, vec_capacity}
use Rattle.engine_groups.proofs.closing.part_all.Given as goal
use Rattle.engine_groups.specs.Clients.{pass_in, seat_in, writer_in}

abbrev pub invariant-loop-client : goal.invariant-loop-client
invariant-loop-client g l = record {
  writers : l.writers.items ++ map writer_in l.clients.items ≡ map writer_in l.initial.clients.items;
  seats : l.seats.items ++ map seat_in l.clients.items ≡ map seat_in l.initial.clients.items;
  passes : l.passes.items ++ map pass_in l.clients.items ≡ map pass_in l.initial.clients.items;
  writers_count : length l.writers.items + length l.clients.items ≡ length l.initial.clients.items;
  seats_count : length l.seats.items + length l.clients.items ≡ length l.initial.clients.items;
  passes_count : length l.passes.items + length l.clients.items ≡ length l.initial.clients.items;
  writers_room : vec_capacity l.writers ≡ vec_capacity l.initial.writers;
  seats_room : vec_capacity l.seats ≡ vec_capacity l.initial.seats;
  passes_room : vec_capacity l.passes ≡ vec_capacity l.initial.passes;
}

abbrev pub decreases-loop-client : goal.decreases-loop-client
decreases-loop-client g l = length l.clients.items
