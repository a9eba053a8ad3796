use Rattle.std.proofs.Common.{◌≡◌, ℕ, ◌-◌, ◌^◌, ◌<◌, List, []}
use Rattle.model_base.specs.Recovery.{Logged, AreInOrder}
use Rattle.log_recovery.specs.Updating.{updates_in}
use Rattle.log_writer.specs.ReadableLogs.{HoldInTurn}
use Rattle.log_updates.specs.Places.{IsFixed, StandsIn, IsReadTo}
use Rattle.log_updates.proofs.reading.read_on.Given as goal

-- Of the batches before the place, the records are there that are asked for, and they are all before the end of the last
-- record that was read.
abbrev pub invariant-loop-records : goal.invariant-loop-records
invariant-loop-records g l = record {
  there : l.place.log < l.fn.logs;
  small : l.place.at < 2 ^ 63;
  within : (l.reached.log < l.fn.logs) × (l.reached.at < 2 ^ 63);
  fixed : IsFixed l.fn.from → IsFixed l.reached;
  so_far : (files : List (List ℕ)) (batches before : List Logged) → g.Log.GroupLog.holds l.fn.log files → HoldInTurn l.fn.number files batches → AreInOrder 0 batches → StandsIn l.fn.number files l.fn.from before → updates_in l.fn.since l.fn.upto before ≡ []
      → IsReadTo l.fn.number files l.fn.since l.fn.upto l.place l.records.items × IsReadTo l.fn.number files l.fn.since l.fn.upto l.reached l.records.items;
  worked : g.Log.GroupLog.faults l.log ≡ g.Log.GroupLog.faults l.fn.log;
  stays : g.Log.ReadableLog.stays l.fn.log l.log;
}

abbrev pub decreases-loop-records : goal.decreases-loop-records
decreases-loop-records g l = l.fn.logs - l.place.log
