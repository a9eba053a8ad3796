use Rattle.run_scripts.proofs.ScheduleReading.{more_words}
use Rattle.run_scripts.proofs.schedule.no_events.Goals as goal

pub returns-then-is_some-clause-fault : goal.returns-then-is_some-clause-fault
returns-then-is_some-clause-fault c = rw (more_words c.args.line.now _ c.split_once.result.1 (cc) c.split_once.ensures.parts) (search)
