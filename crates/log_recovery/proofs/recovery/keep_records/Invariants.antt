use Rattle.std.proofs.Common.{◌≡◌, ◌-◌, ◌^◌, None, IfSome}
use Rattle.log_recovery.specs.Recovering.{IsNumbered}
use Rattle.log_recovery.proofs.Telling.{SoFar}
use Rattle.log_recovery.proofs.recovery.keep_records.Given as goal

-- the records before the reader's place are kept, if those before its first place were
abbrev pub invariant-loop-start : goal.invariant-loop-start
invariant-loop-start g l = record {
  number : l.log.number ≡ l.fn.log.number;
  going : l.log.stopped ≡ None;
  so_far : IfSome (g.R.ReadAt.held l.fn.disk) (SoFar l.fn.kept l.fn.log l.kept l.log);
  numbered : IsNumbered l.fn.kept.map l.fn.kept.last → IsNumbered l.kept.map l.kept.last;
  worked : g.R.ReadAt.failures l.disk ≡ g.R.ReadAt.failures l.fn.disk;
  disk : g.R.ReadAt.only_reads l.fn.disk l.disk;
}

abbrev pub decreases-loop-start : goal.decreases-loop-start
decreases-loop-start g l = 2 ^ 63 - l.log.place
