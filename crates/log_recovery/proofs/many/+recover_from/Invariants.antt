use Rattle.std.proofs.Common.{length}
use Rattle.log_recovery.proofs.many.+recover_from.Given as goal

abbrev pub decreases-recover_from : goal.decreases-recover_from
decreases-recover_from g l = length l.disks.now
