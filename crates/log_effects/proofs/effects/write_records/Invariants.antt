-- The map has the changes of the records before those that are left.
use Rattle.std.proofs.Common.{◌≡◌, List, ◌++◌}
use Rattle.model_base.specs.Batch.{Record}
use Rattle.model_base.specs.Map.{after_records}
use Rattle.log_effects.proofs.effects.write_records.Given as goal

abbrev pub invariant-loop-view : goal.invariant-loop-view
invariant-loop-view l = (written : List Record) × (l.fn.records ≡ written ++ l.view-iterator)
    × (l.map ≡ after_records l.fn.map written)
