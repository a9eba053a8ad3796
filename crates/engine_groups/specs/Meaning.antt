-- What contracts say of a table.
use Rattle.table_calls.specs.declared.table.Table.{Ghosts}
use Rattle.table_nodes.specs.declared.node.Nodes.{Nodes}
use Rattle.table_nodes.specs.declared.parts.Parts.{Parts}

-- what the table was opened with, which seats and turns are its own, and what each of these shows
abbrev pub Meaning : Type 0 → Type 0 → Type 0 → Type 0 → Type 1
Meaning Versions Seat Turn Part = Ghosts Versions Nodes Parts Seat Turn Part
