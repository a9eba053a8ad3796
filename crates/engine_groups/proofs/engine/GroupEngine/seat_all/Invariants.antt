-- The clients with the greatest numbers are made, and the writers that have no client yet are left. Writers and clients
-- are in reverse order.
use Rattle.std.proofs.Common.{◌≡◌, ◌+◌, ◌≤◌, length, reverse, vec_capacity}
use Rattle.line_writers.specs.Roles.{AreNew}
use Rattle.line_writers.specs.Rooms.{AllReady}
use Rattle.line_writers.specs.Seats.{table_of, clients_of}
use Rattle.engine_controller.specs.Passes.{IsOthersOf}
use Rattle.engine_parts.specs.Layout.{AreRoomy}
use Rattle.engine_groups.specs.AtStart.{AreSeatsAtStart, ArePassesAtStart, AreNewcomers}
use Rattle.engine_groups.proofs.engine.GroupEngine.seat_all.Given as goal

abbrev pub invariant-loop-writer : goal.invariant-loop-writer
invariant-loop-writer g l = record {
  writers : AreNew (table_of l.self.list) (length l.writers.items) (reverse l.writers.items);
  seats : AreSeatsAtStart g.Versions.Table l.self.table (length l.writers.items) l.seats.items;
  passes : ArePassesAtStart l.self.controller 1 l.passes.items;
  passes_count : length l.passes.items ≡ length l.writers.items;
  lists : AllReady (clients_of l.self.list) l.lists.items;
  lists_count : length l.lists.items ≡ length l.writers.items;
  layouts : AreRoomy (clients_of l.self.list) l.layouts.items;
  layouts_count : length l.layouts.items ≡ length l.writers.items;
  envelopes_count : length l.envelopes.items ≡ length l.writers.items;
  clients : AreNewcomers g.Versions.Table l.self (length l.writers.items + 1) (reverse l.clients.items);
  count : length l.clients.items + length l.writers.items ≡ clients_of l.self.list;
  clients_room : clients_of l.self.list ≤ vec_capacity l.clients;
  others : IsOthersOf l.self.controller l.others;
  writers_room : clients_of l.self.list ≤ vec_capacity l.writers;
  seats_room : clients_of l.self.list ≤ vec_capacity l.seats;
  passes_room : clients_of l.self.list ≤ vec_capacity l.passes;
}

abbrev pub decreases-loop-writer : goal.decreases-loop-writer
decreases-loop-writer g l = length l.writers.items
