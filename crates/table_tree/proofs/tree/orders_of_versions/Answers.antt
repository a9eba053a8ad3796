-- The versions, sorted by their sequences, are such an order.
use Rattle.table_tree.proofs.Orders.{order_up_to}
use Rattle.table_tree.proofs.tree.orders_of_versions.Goals as goal

pub returns : goal.returns
returns c versions at = order_up_to at versions
