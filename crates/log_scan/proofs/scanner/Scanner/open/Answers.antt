-- At the start nothing was skipped.
use Rattle.log_scan.specs.Scanning.{not_skipped}
use Rattle.log_scan.proofs.scanner.Scanner.open.Goals as goal

pub returns-clause-is_at : goal.returns-clause-is_at
returns-clause-is_at c = λ file. record { follows = c.in_ok-open.ensures.follows file; there = c.in_ok-open.ensures.start; skips = not_skipped }

pub returns-clause-going : goal.returns-clause-going
returns-clause-going c = record { going = c.in_ok-open.ensures.going }
