-- What a table in memory says of itself.
use Rattle.std.specs.Prelude.{◌≡◌, ℕ, List}
use Rattle.table_nodes.specs.declared.node.Nodes.{Nodes}
use Rattle.table_nodes.specs.declared.parts.Parts.{Parts}
use Rattle.table_tree.specs.declared.tree.Tree.{Tree}
use Rattle.table_rule.specs.declared.view.Opening.{Opening}
use Rattle.table_rule.specs.Histories.{In}
use Rattle.table_tree.specs.Shapes.{Shape, leaf}
use Rattle.table_calls.specs.declared.table.Table.{Ghosts}
use Rattle.table_calls.specs.Account.{Account}
use Rattle.table_steps.specs.declared.launching.Turn as turn
use Rattle.table_steps.specs.declared.seat.TableSeat.{TableSeat}
use Rattle.table_steps.specs.Accounts as steps
use Rattle.table_memory.specs.declared.memory_table.MemoryTable.{MemoryTable}

abbrev pub Seat : Type 0
Seat = TableSeat Tree Nodes

abbrev pub Turn : Type 0
Turn = turn.Turn Tree Nodes

-- what it was opened for
abbrev pub opening_of : MemoryTable → Opening
opening_of t = steps.opening_of t.steps

-- what a client's seat knows and has to do
abbrev pub account_of : Seat → Account
account_of s = steps.account s

-- the seat is of this table, and is between two calls
abbrev pub IsOurs : MemoryTable → Seat → Type 0
IsOurs t s = steps.IsOurs t.steps s

-- the turn is of this table, and no group is launched
abbrev pub MayLaunch : MemoryTable → Turn → Type 0
MayLaunch t u = steps.MayLaunch t.steps u

-- all that the calls of a table need to have defined of it
abbrev pub memory_table : Ghosts MemoryTable Nodes Parts Seat Turn Nodes
memory_table = record {
  opening = opening_of;
  account = account_of;
  history = steps.history_of;
  versions = λ nodes. nodes;
  ours = IsOurs;
  our_turn = MayLaunch;
}

-- nothing is published or launched
abbrev pub IsTurnAtStart : MemoryTable → Turn → Type 0
IsTurnAtStart t u = steps.IsTurnAtStart t.steps u

-- the seats of the clients from 1 to `count`, which have seen nothing yet and have nothing to do
abbrev pub AreSeatsAtStart : MemoryTable → ℕ → List Seat → Type 0
AreSeatsAtStart t count seats = steps.AreSeatsAtStart t.steps count seats

-- no tree has a version
abbrev pub AreLeaves : List Shape → Type 0
AreLeaves trees = (tree : Shape) → In tree trees → tree ≡ leaf
