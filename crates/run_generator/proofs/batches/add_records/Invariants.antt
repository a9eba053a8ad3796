use Rattle.std.proofs.Common.{◌≡◌, ◌++◌}
use Rattle.model_base.specs.Generator.{records_drawn}
use Rattle.run_generator.proofs.batches.add_records.Given as goal

-- the records so far and those that are left are all of them
abbrev pub invariant-loop-left : goal.invariant-loop-left
invariant-loop-left l = record {
  goes_on : l.commands ++ (records_drawn l.left l.client l.draws.state).made ≡ l.initial.commands ++ (records_drawn l.count l.client l.initial.draws.state).made;
  ends_at : (records_drawn l.left l.client l.draws.state).state ≡ (records_drawn l.count l.client l.initial.draws.state).state;
}

abbrev pub decreases-loop-left : goal.decreases-loop-left
decreases-loop-left l = l.left
