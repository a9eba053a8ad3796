-- The run's promises over several logs, for the script that the source has; and what is printed where no script was read.
use Rattle.std.proofs.Common.{length, refl, ap, ◌∙◌}
use Rattle.run_scripts.specs.Scripts.{commands_of}
use Rattle.base_devices.specs.Faults.{count_in_all}
use Rattle.run_execution.specs.SetEnds.{set_execution_on}
use Rattle.program_call.specs.declared.report.Form.TheVariants as form
use Rattle.program_call.specs.Outcomes.{SaysScript, observation_of}
use Rattle.program_call.specs.SeveralLogs.{logs_of_run}
use Rattle.program_call.proofs.Answering.{ran_answers, unread_answers}
use Rattle.program_call.proofs.Endings.{ended_so, ended_status}
use Rattle.program_call.proofs.EndsSeveral.{Law, no_bytes, set_ends}
use Rattle.program_call.proofs.Leaving.{all_untouched}
use Rattle.program_call.proofs.Joining.{same_length}
use Rattle.program_call.proofs.Runs.{runs_script}
use Rattle.program_call.proofs.running.run_over.Goals as goal

pub returns-in-Ok-clause-runs : goal.returns-in-Ok-clause-runs
returns-in-Ok-clause-runs g c =
    let left = g.S.Source.left c.args.source.now in
    let script = commands_of c.in-Ok.script in
    let options = c.args.setup.options in
    let limit = c.args.limit in
    let was = c.args.disks.items in
    let disks = c.execute_set-disks.result.0.items in
    let before = c.args.sink.now in
    let after = c.tell_end.new.sink in
    let given = c.tell_end.result in
    let logs = logs_of_run g.D.Disk options limit was disks in
    let seen = observation_of g.K.Sink (SaysScript left) form.Whole logs before after in
    let law : Law g.D.Disk options limit was disks script =
    λ o legal.
    let settings = (set_execution_on g.D.Disk options limit script was disks).settings in
    let ended = count_in_all g.D.Disk.faults disks in (
      λ client calls how reply no_fault to checks room free. c.commits_are_accepted.ensures.accepted settings ended script o client calls how reply legal no_fault to checks room free,
      λ client calls s reply none to free. c.updates_are_given.ensures.given settings ended script o client calls s reply legal none to free,
    ) in
    let ends = set_ends g.D.Disk options limit was disks script law c.execute_set-disks.result.1 c.execute_set-disks.ensures.end in
    rw (c.end_many.ensures.status, c.end_many.ensures.disks) (ran_answers g.S.Source g.K.Sink c.args.source.now c.read_script.new.source before after logs _ script
    (ended_status seen script c.execute_set-disks.result.1 given ends c.tell_end.ensures) c.in-Ok.ensures.script.said c.in-Ok.ensures.script.ended c.in-Ok.ensures.worked
    (runs_script seen _ (ended_so seen script c.in-Ok.ensures.script.said c.execute_set-disks.result.1 given ends c.tell_end.ensures))
    (no_bytes g.D.Disk options limit was disks))

pub returns-in-Ok-clause-number : goal.returns-in-Ok-clause-number
returns-in-Ok-clause-number g c = ap (λ v. length v.items) c.end_many.ensures.disks ∙ same_length _ _ _ c.execute_set-disks.ensures.later

-- The disk's laws hold wherever a thread may run, and so in this one.
pub returns-in-Err-clause-runs : goal.returns-in-Err-clause-runs
returns-in-Err-clause-runs g c =
    let options = c.args.setup.options in
    let limit = c.args.limit in
    let was = c.args.disks.items in
    let laws = g.met.D.Disk g.world.𝓛 g.world.𝓜 g.world.𝓡 ((λ s x. x), (λ x. x), (λ x. x), λ x. x) in
    rw c.end_many-in-Err.ensures.disks (unread_answers g.S.Source g.K.Sink c.args.source.now c.read_script.new.source c.args.sink.now c.tell_read_error.new.sink (logs_of_run g.D.Disk options limit was was) c.end_many-in-Err.result.status
    c.in-Err.why c.tell_read_error.result c.end_many-in-Err.ensures.status c.in-Err.ensures.error c.in-Err.ensures.counted c.tell_read_error.ensures refl (all_untouched g.D.Disk laws.only_now was) refl)
