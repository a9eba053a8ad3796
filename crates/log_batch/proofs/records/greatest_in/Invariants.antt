use Rattle.std.proofs.Common.{◌≡◌, max}
use Rattle.log_batch.specs.Contents.{greatest_named}
use Rattle.log_batch.proofs.records.greatest_in.Given as goal

-- what is left can only raise it
abbrev pub invariant-loop-view : goal.invariant-loop-view
invariant-loop-view l = max l.greatest (greatest_named l.view-iterator) ≡ greatest_named l.fn.records
