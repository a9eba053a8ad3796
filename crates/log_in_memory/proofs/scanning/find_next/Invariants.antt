use Rattle.std.proofs.Common.{◌≡◌, ◌-◌, ◌^◌}
use Rattle.log_scan.specs.Scanner.{IsAt, IsGoing}
use Rattle.log_in_memory.proofs.Finding.{Passed}
use Rattle.log_in_memory.proofs.scanning.find_next.Given as goal

-- between the place at the start and the one from which the scanner reads, no record reads
abbrev pub invariant-loop-unread : goal.invariant-loop-unread
invariant-loop-unread l = record {
  going : IsGoing l.scanner;
  number : l.scanner.number ≡ l.fn.scanner.number;
  goes_on : l.scanner.goes_on ≡ l.fn.scanner.goes_on;
  passed : IsAt l.fn.log l.fn.scanner → Passed l.fn.log l.fn.scanner l.scanner;
}

abbrev pub decreases-loop-unread : goal.decreases-loop-unread
decreases-loop-unread l = 2 ^ 63 - l.scanner.here
