use Rattle.std.proofs.Common.{◌≡◌, ◌≤◌, vec_len, vec_capacity}
use Rattle.line_writers.specs.Rooms.{AllReady}
use Rattle.line_writers.proofs.room.Lists.for_all.Given as goal

abbrev pub invariant-loop-made : goal.invariant-loop-made
invariant-loop-made g l = (vec_len l.all ≡ l.made) × (l.clients ≤ vec_capacity l.all) × AllReady l.clients l.all.items
