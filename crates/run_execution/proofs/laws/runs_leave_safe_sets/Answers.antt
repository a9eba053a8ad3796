use Rattle.run_execution.proofs.SafeSets.{SetLaws}
use Rattle.run_execution.proofs.SetRunEnds.{is_set_end}
use Rattle.run_execution.proofs.SetShapes.{set_further}
use Rattle.run_execution.proofs.laws.runs_leave_safe_sets.Goals as goal

pub returns : goal.returns
returns g c =
    let cut = c.one_cut_of_sets.ensures in
    let recovers = c.fronts_recover_prefixes.ensures in
    let laws : SetLaws g.D.Disk = record {
      split = c.calls_of_each_log.ensures.split;
      hold = c.contents_of_sets.ensures.hold;
      filled = c.sets_are_filled.ensures.filled;
      front = cut.front;
      at_end = cut.at_end;
      handed_in = cut.handed_in;
      unused = cut.unused;
      of_calls = cut.of_calls;
      held = c.synced_in_sets.ensures.held;
      prefix = recovers.prefix;
      certain = recovers.certain;
    } in
    record {
      ends = λ disks opened options limit script ran end has limit_is few bounded families comes told.
          is_set_end laws g.met.D.Disk.only_now disks opened options limit script has limit_is few bounded families ran comes end told;
      time = λ opened calls set wrote. set_further g.D.Disk opened calls set wrote;
    }
