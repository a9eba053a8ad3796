use Rattle.std.proofs.Common.{◌≡◌, ◌-◌, ◌^◌, IfSome}
use Rattle.log_scan.specs.Scanner.{IsAt, IsGoing}
use Rattle.list_log.proofs.Whole.{IsOf, WrittenTo}
use Rattle.list_log.proofs.showing.show.Given as goal

-- what was written is the first line, and the text of what is found before the listing's place
abbrev pub invariant-loop-shown : goal.invariant-loop-shown
invariant-loop-shown g l = record {
  of : IsOf l.fn.settings l.fn.number l.listing;
  going : IsGoing l.listing.scanner;
  at : IfSome (g.R.ReadAt.held l.fn.disk) (λ file. IsAt file l.listing.scanner);
  written : IfSome (g.R.ReadAt.held l.fn.disk) (λ file. WrittenTo l.fn.settings l.fn.number file l.listing (g.K.Sink.taken l.fn.sink) (g.K.Sink.taken l.sink));
  worked : g.R.ReadAt.failures l.disk ≡ g.R.ReadAt.failures l.fn.disk;
  no_sink_fault : g.K.Sink.faults l.sink ≡ g.K.Sink.faults l.fn.sink;
  disk : g.R.ReadAt.only_reads l.fn.disk l.disk;
}

abbrev pub decreases-loop-shown : goal.decreases-loop-shown
decreases-loop-shown g l = 2 ^ 63 - l.listing.scanner.here
