use Rattle.std.proofs.Common.{refl, arith}
use Rattle.run_scripts.specs.Schedules.{draft_of}
use Rattle.run_scripts.proofs.ScheduleReading.{with_event_added}
use Rattle.run_scripts.proofs.schedule.add_line.Goals as goal

pub returns-in-Some-clause-draft : goal.returns-in-Some-clause-draft
returns-in-Some-clause-draft c =
    let clients = c.args.draft.now.script.clients in
    with_event_added (draft_of c.args.draft.now) _ c.in-Some.events.items _ c.args.line.now c.add_event.result (search) (rw c.in-Some.is refl) (omega (arith, c.len.ensures, clients.ok.0)) c.add_event.ensures
