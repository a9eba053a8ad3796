use Rattle.std.proofs.Common.{◌≡◌, ◌-◌, ◌^◌, IfSome}
use Rattle.log_scan.specs.Scanner.{IsAt, IsGoing}
use Rattle.list_log.proofs.Counting.{CountsTo}
use Rattle.list_log.proofs.summary.count.Given as goal

-- what is found before the scanner's place is counted
abbrev pub invariant-loop-end : goal.invariant-loop-end
invariant-loop-end g l = record {
  number : l.scanner.number ≡ l.fn.number;
  goes_on : l.scanner.goes_on ≡ l.fn.settings.scan;
  going : IsGoing l.scanner;
  at : IfSome (g.R.ReadAt.held l.fn.disk) (λ file. IsAt file l.scanner);
  counted : IfSome (g.R.ReadAt.held l.fn.disk) (λ file. CountsTo l.fn.settings l.fn.number file l.fn.totals l.scanner.place l.totals);
  worked : g.R.ReadAt.failures l.disk ≡ g.R.ReadAt.failures l.fn.disk;
  disk : g.R.ReadAt.only_reads l.fn.disk l.disk;
}

abbrev pub decreases-loop-end : goal.decreases-loop-end
decreases-loop-end g l = 2 ^ 63 - l.scanner.here
