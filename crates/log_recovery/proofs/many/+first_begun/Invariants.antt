use Rattle.std.proofs.Common.{length}
use Rattle.log_recovery.proofs.many.+first_begun.Given as goal

abbrev pub decreases-first_begun : goal.decreases-first_begun
decreases-first_begun g l = length l.disks.now
