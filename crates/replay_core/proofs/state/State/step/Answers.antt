-- Each event is taken by its own method.
use Rattle.replay_core.proofs.ShowsLemmas.{takes}
use Rattle.replay_core.proofs.state.State.step.Goals as goal

pub returns-in-Link-clause-takes : goal.returns-in-Link-clause-takes
returns-in-Link-clause-takes c = takes _ _ _ _ _ c.in-Link.is c.link.ensures.steps

pub returns-in-Elect-clause-takes : goal.returns-in-Elect-clause-takes
returns-in-Elect-clause-takes c = takes _ _ _ _ _ c.in-Elect.is c.elect.ensures.steps

pub returns-in-Build-clause-takes : goal.returns-in-Build-clause-takes
returns-in-Build-clause-takes c = takes _ _ _ _ _ c.in-Build.is c.build.ensures.steps

pub returns-in-Log-clause-takes : goal.returns-in-Log-clause-takes
returns-in-Log-clause-takes c = takes _ _ _ _ _ c.in-Log.is c.log_group.ensures.steps

pub returns-in-Fault-clause-takes : goal.returns-in-Fault-clause-takes
returns-in-Fault-clause-takes c = takes _ _ _ _ _ c.in-Fault.is c.fault.ensures.steps

pub returns-in-Refuse-clause-takes : goal.returns-in-Refuse-clause-takes
returns-in-Refuse-clause-takes c = takes _ _ _ _ _ c.in-Refuse.is c.refuse.ensures.steps

pub returns-in-Boundary-clause-takes : goal.returns-in-Boundary-clause-takes
returns-in-Boundary-clause-takes c = takes _ _ _ _ _ c.in-Boundary.is c.boundary.ensures.steps

pub returns-in-Second-clause-takes : goal.returns-in-Second-clause-takes
returns-in-Second-clause-takes c = takes _ _ _ _ _ c.in-Second.is c.to_second.ensures.steps

pub returns-in-Next-clause-takes : goal.returns-in-Next-clause-takes
returns-in-Next-clause-takes c = takes _ _ _ _ _ c.in-Next.is c.next.ensures.steps

pub returns-in-Launch-clause-takes : goal.returns-in-Launch-clause-takes
returns-in-Launch-clause-takes c = takes _ _ _ _ _ c.in-Launch.is c.launch.ensures.steps

pub returns-in-Insert-clause-takes : goal.returns-in-Insert-clause-takes
returns-in-Insert-clause-takes c = takes _ _ _ _ _ c.in-Insert.is c.insert.ensures.steps

pub returns-in-Finish-clause-takes : goal.returns-in-Finish-clause-takes
returns-in-Finish-clause-takes c = takes _ _ _ _ _ c.in-Finish.is c.finish.ensures.steps

pub returns-in-Publish-clause-takes : goal.returns-in-Publish-clause-takes
returns-in-Publish-clause-takes c = takes _ _ _ _ _ c.in-Publish.is c.publish.ensures.steps

pub returns-in-Since-clause-takes : goal.returns-in-Since-clause-takes
returns-in-Since-clause-takes c = takes _ _ _ _ _ c.in-Since.is c.read_log.ensures.steps

pub returns-in-Exit-clause-takes : goal.returns-in-Exit-clause-takes
returns-in-Exit-clause-takes c = takes _ _ _ _ _ c.in-Exit.is c.exit.ensures.steps

pub returns-in-Complete-clause-takes : goal.returns-in-Complete-clause-takes
returns-in-Complete-clause-takes c = takes _ _ _ _ _ c.in-Complete.is c.complete.ensures.steps

pub returns-in-Read-clause-takes : goal.returns-in-Read-clause-takes
returns-in-Read-clause-takes c = takes _ _ _ _ _ c.in-Read.is c.read.ensures.steps

pub returns-in-Stall-clause-takes : goal.returns-in-Stall-clause-takes
returns-in-Stall-clause-takes c = takes _ _ _ _ _ c.in-Stall.is c.stall.ensures.steps

pub returns-in-Leave-clause-takes : goal.returns-in-Leave-clause-takes
returns-in-Leave-clause-takes c = takes _ _ _ _ _ c.in-Leave.is c.leave_queue.ensures.steps

pub returns-in-Unstall-clause-takes : goal.returns-in-Unstall-clause-takes
returns-in-Unstall-clause-takes c = takes _ _ _ _ _ c.in-Unstall.is c.unstall.ensures.steps
