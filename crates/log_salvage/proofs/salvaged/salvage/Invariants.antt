use Rattle.std.proofs.Common.{◌≡◌, ◌-◌, ◌^◌, true, IfSome}
use Rattle.log_scan.specs.Scanner.{IsAt, IsGoing}
use Rattle.log_salvage.proofs.Whole.{AddsTo, source_of, written}
use Rattle.log_salvage.proofs.salvaged.salvage.Given as goal

-- the records that are kept of what is found before the scanner's place were added
abbrev pub invariant-loop-salvaged : goal.invariant-loop-salvaged
invariant-loop-salvaged g l = record {
  range : l.salvaging.range ≡ l.fn.range;
  number : l.salvaging.scanner.number ≡ l.fn.number;
  goes_on : l.salvaging.scanner.goes_on ≡ true;
  going : IsGoing l.salvaging.scanner;
  at : IfSome (g.R.ReadAt.held l.fn.disk) (λ file. IsAt file l.salvaging.scanner);
  added : IfSome (g.R.ReadAt.held l.fn.disk) (λ file. AddsTo l.fn.range (source_of l.fn.number file) l.salvaging.scanner.place (written l.fn.new_log l.fn.counts (g.K.Sink.taken l.fn.sink))
      (written l.new_log l.counts (g.K.Sink.taken l.sink)));
  worked : g.R.ReadAt.failures l.disk ≡ g.R.ReadAt.failures l.fn.disk;
  no_sink_fault : g.K.Sink.faults l.sink ≡ g.K.Sink.faults l.fn.sink;
  disk : g.R.ReadAt.only_reads l.fn.disk l.disk;
}

abbrev pub decreases-loop-salvaged : goal.decreases-loop-salvaged
decreases-loop-salvaged g l = 2 ^ 63 - l.salvaging.scanner.here
