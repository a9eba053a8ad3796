-- The run's end, and what was printed of it, give all that a run promises.
use Rattle.std.proofs.Common.{refl}
use Rattle.run_scripts.specs.Scripts.{commands_of}
use Rattle.run_execution.specs.Ends.{execution_on}
use Rattle.program_call.specs.OneLog.{log_of_run}
use Rattle.program_call.specs.Outcomes.{IsScript, observation_of}
use Rattle.program_call.proofs.Endings.{ended_so, ended_status}
use Rattle.program_call.proofs.EndsOne.{Law, one_ends}
use Rattle.program_call.proofs.Runs.{runs_script}
use Rattle.program_call.proofs.running.run_and_tell.Goals as goal

pub returns-clause-status : goal.returns-clause-status
returns-clause-status g c =
    let was = c.args.disk in
    let disk = c.execute-disk.result.0 in
    let script = commands_of c.args.script in
    let setup = c.args.setup in
    let seen = observation_of g.K.Sink (IsScript script) c.args.form (log_of_run g.D.Disk setup.options setup.start setup.mode was disk) c.args.sink.now c.tell_end.new.sink in
    let law : Law g.D.Disk setup.options setup.start setup.mode was disk script =
    λ from o legal.
    let settings = (execution_on g.D.Disk setup.options setup.start from script was disk).settings in
    let ended = g.D.Disk.faults disk in (
      λ client calls how reply no_fault to checks room free. c.commits_are_accepted.ensures.accepted settings ended script o client calls how reply legal no_fault to checks room free,
      λ client calls s reply none to free. c.updates_are_given.ensures.given settings ended script o client calls s reply legal none to free,
    ) in
    let ends = one_ends g.D.Disk setup.options setup.start setup.mode was disk script law c.execute-disk.result.1 c.execute-disk.ensures.end (λ ran. (c.execute-disk.ensures.accepted ran, c.execute-disk.ensures.families ran)) in
    rw c.end_with.ensures.status (ended_status seen script c.execute-disk.result.1 c.tell_end.result ends c.tell_end.ensures)

pub returns-clause-runs : goal.returns-clause-runs
returns-clause-runs g c =
    let was = c.args.disk in
    let disk = c.execute-disk.result.0 in
    let script = commands_of c.args.script in
    let setup = c.args.setup in
    let seen = observation_of g.K.Sink (IsScript script) c.args.form (log_of_run g.D.Disk setup.options setup.start setup.mode was disk) c.args.sink.now c.tell_end.new.sink in
    let law : Law g.D.Disk setup.options setup.start setup.mode was disk script =
    λ from o legal.
    let settings = (execution_on g.D.Disk setup.options setup.start from script was disk).settings in
    let ended = g.D.Disk.faults disk in (
      λ client calls how reply no_fault to checks room free. c.commits_are_accepted.ensures.accepted settings ended script o client calls how reply legal no_fault to checks room free,
      λ client calls s reply none to free. c.updates_are_given.ensures.given settings ended script o client calls s reply legal none to free,
    ) in
    let ends = one_ends g.D.Disk setup.options setup.start setup.mode was disk script law c.execute-disk.result.1 c.execute-disk.ensures.end (λ ran. (c.execute-disk.ensures.accepted ran, c.execute-disk.ensures.families ran)) in
    rw (c.end_with.ensures.status, c.end_with.ensures.disk) (runs_script seen _ (ended_so seen script refl c.execute-disk.result.1 c.tell_end.result ends c.tell_end.ensures))
