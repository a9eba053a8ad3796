use Rattle.std.proofs.Common.{◌≡◌, ◌-◌, ◌^◌, ◌≤◌, IfSome}
use Rattle.log_reader.specs.Windows.{IsSound, IsOn, offset_of}
use Rattle.log_reader.specs.Steps.{HasReadPart}
use Rattle.log_reader.proofs.reader.read_record.Given as goal

-- the first fragments of the record are read, if there are any
abbrev pub invariant-loop-start : goal.invariant-loop-start
invariant-loop-start g l = record {
  sound : IsSound l.window;
  stood : IfSome (g.R.ReadAt.held l.fn.disk) (λ d. IsOn d l.fn.window → IsOn d l.window × HasReadPart l.fn.number d (offset_of l.fn.window) l.begun l.in_hand.items (offset_of l.window));
  forward : offset_of l.fn.window ≤ offset_of l.window;
  worked : g.R.ReadAt.failures l.disk ≡ g.R.ReadAt.failures l.fn.disk;
  disk : g.R.ReadAt.only_reads l.fn.disk l.disk;
}

abbrev pub decreases-loop-start : goal.decreases-loop-start
decreases-loop-start g l = 2 ^ 63 - offset_of l.window
