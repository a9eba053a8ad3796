use Rattle.run_scripts.proofs.ScheduleReading.{client_alone-more}
use Rattle.run_scripts.proofs.schedule.client_alone.Goals as goal

pub returns-then-is_some : goal.returns-then-is_some
returns-then-is_some c = rw c.in_ok-rest.was (client_alone-more c.args.clients c.in_ok-rest.field-0.now _ c.split_once.result.1 (cc) c.split_once.ensures.parts)
