use Rattle.std.proofs.Common.{◌≤◌, length, subst}
use Rattle.log_scan.specs.Scanner.{IsAt}
use Rattle.log_in_memory.proofs.scanning.Scan.open_at.Goals as goal

pub returns-in-Ok-clause-is_at : goal.returns-in-Ok-clause-is_at
returns-in-Ok-clause-is_at c = subst (λ l. c.args.place ≤ length l → IsAt l c.in-Ok.scanner) c.new-disk.ensures c.in-Ok.ensures.is_at c.requires
