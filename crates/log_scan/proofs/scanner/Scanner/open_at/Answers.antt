-- At its place nothing was skipped.
use Rattle.std.proofs.Common.{◌≡◌, ◌≤◌, length}
use Rattle.log_reader.specs.Reader.{Follows}
use Rattle.log_reader.proofs.FromDisk.{if_one}
use Rattle.log_scan.specs.Scanning.{not_skipped}
use Rattle.log_scan.proofs.scanner.Scanner.open_at.Goals as goal

pub returns-clause-is_at : goal.returns-clause-is_at
returns-clause-is_at g c =
    if_one (g.R.ReadAt.held c.args.disk.now) (λ file. c.args.place ≤ length file → (c.in_ok-reader.reader.place ≡ c.args.place) × Follows file c.in_ok-reader.reader) _ c.in_ok-reader.ensures.there
    (λ file there within. let is = there within in record { follows = is.1; there = is.0; skips = not_skipped })

pub returns-clause-going : goal.returns-clause-going
returns-clause-going g c = record { going = c.in_ok-reader.ensures.going }
