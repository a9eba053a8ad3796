-- The key's bytes are written first, and then those of the value after them.
use Rattle.table_nodes.proofs.Writing.{both_written}
use Rattle.table_nodes.proofs.content.in_place.Goals as goal

pub returns : goal.returns
returns c = both_written _ _ _ _ _ c.copy_from_slice.ensures.after c.copy_from_slice-2.ensures.after
