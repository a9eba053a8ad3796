-- Threads may share a table over the memtable's trees, and its seats and its turn may go to them.
use denote.Struct.Declared.{shape, fields}
use denote.Param.Send.{IsSend, IsSync, AllSync, struct_sync, recorded_sync, sendable}
use Rattle.std.proofs.Crossing.{crosses}
use Rattle.table_nodes.proofs.content.Content.TheSendSync as content
use Rattle.table_nodes.specs.contracts.links.Links as links
use Rattle.table_nodes.specs.contracts.node.Node as node
use Rattle.table_nodes.specs.contracts.node.Nodes as nodes
use Rattle.table_tree.specs.contracts.tree.Tree as tree
use Rattle.table_tree.specs.contracts.entry.Entry as entry
use Rattle.table_tree.specs.contracts.page.Page as page
use Rattle.table_nodes.proofs.links.Links.TheLaws.TheKnot as knot
use Rattle.base_keys.proofs.front.Front.TheSendSync as front
use Rattle.table_tree.proofs.entry.Families.TheSendSync as families
use Rattle.table_tree.proofs.page.Page.TheLaws.TheKnot as pages
use Rattle.table_tree.specs.contracts.calls.TreeVersioned.TheImpl as tree_ghosts
use Rattle.table_nodes.specs.contracts.calls.NodesVersioned.TheImpl as nodes_ghosts
use Rattle.table_steps.specs.contracts.seat.TableSeat as seat_row
use Rattle.table_steps.specs.contracts.launching.Turn as turn_row
use Rattle.table_steps.proofs.seat.TableSeat.TheSendSync as seat
use Rattle.table_steps.proofs.launching.Turn.TheSendSync as turn
use Rattle.table_steps.proofs.shared.SharedTable.TheSendSync as shared
use Rattle.table_memory.specs.contracts.memory_table.MemoryTable as table

pub nodes_send : IsSend nodes.the_row
nodes_send = search (sendable, crosses, knot.send-Nodes, content.the_send) depth 9

links_send : IsSend links.the_row
links_send = search (sendable, crosses, knot.send-Links, content.the_send) depth 9

node_send : IsSend (node.the_field).row
node_send = search (sendable, crosses, knot.send-Node, links_send, content.the_send) depth 12

entry_send : IsSend entry.the_row
entry_send = search (sendable, crosses, front.the_send, node_send) depth 12

page_send : IsSend page.the_row
page_send = search (sendable, crosses, pages.send-Page, entry_send, families.the_send) depth 12

pub tree_send : IsSend tree.the_row
tree_send = search (sendable, crosses, page_send, nodes_send) depth 12

pub seat_send : IsSend (seat_row.the_row tree.the_row nodes.the_row)
seat_send = seat.the_send tree.the_row nodes.the_row tree_send nodes_send

pub turn_send : IsSend (turn_row.the_row tree.the_row nodes.the_row)
turn_send = turn.the_send tree.the_row nodes.the_row tree_send nodes_send

pub seat_field_send : IsSend (seat_row.the_field tree.the_row nodes.the_row).row
seat_field_send = seat.the_field_send tree.the_row nodes.the_row tree_send nodes_send

pub turn_field_send : IsSend (turn_row.the_field tree.the_row nodes.the_row).row
turn_field_send = turn.the_field_send tree.the_row nodes.the_row tree_send nodes_send

pub table_sync : IsSync table.the_row
table_sync =
    let C = table.the_type in
    let all : AllSync (fields C) = (shared.the_field_sync tree.the_row nodes.the_row tree_ghosts.ghosts nodes_ghosts.ghosts tree_send nodes_send, tt) in
    recorded_sync table.the_field.row C.D C.to C.to_one (struct_sync (shape C) all)
