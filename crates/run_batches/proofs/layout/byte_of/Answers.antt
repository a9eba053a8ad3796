use Rattle.std.proofs.Common.{sym, ap}
use Rattle.run_batches.specs.Layout.{byte_of}
use Rattle.run_batches.proofs.layout.byte_of.Goals as goal

pub returns-in-Log : goal.returns-in-Log
returns-in-Log c = ap byte_of (sym c.in-Log.is)

pub returns-in-NoLog : goal.returns-in-NoLog
returns-in-NoLog c = ap byte_of (sym c.in-NoLog.is)

pub returns-in-Sync : goal.returns-in-Sync
returns-in-Sync c = ap byte_of (sym c.in-Sync.is)
