-- The key's entry, or the place where it would have one.
use Rattle.table_nodes.specs.Nodes.{at_key}
use Rattle.table_tree.proofs.Starts.{start_at_entry, start_at_place}
use Rattle.table_tree.proofs.range.start_of.Goals as goal

pub returns-in-Ok : goal.returns-in-Ok
returns-in-Ok c = start_at_entry (at_key c.args.family c.args.key.now) c.args.entries.now c.in-Ok.at c.requires.sorted (c.in-Ok.ensures {u = tt})

pub returns-in-Err : goal.returns-in-Err
returns-in-Err c = start_at_place (at_key c.args.family c.args.key.now) c.args.entries.now c.in-Err.at (c.in-Err.ensures {u = tt})
