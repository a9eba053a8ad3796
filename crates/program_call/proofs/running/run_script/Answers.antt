-- The run's promises, for the script that the source has; and what is printed where no script was read.
use Rattle.std.proofs.Common.{◌≡◌, ℕ, List, Option, Ok, IfSome, refl, sym, subst}
use Rattle.model_base.specs.Script.{Script, script_of, whole_grammar}
use Rattle.run_scripts.specs.Scripts.{commands_of}
use Rattle.program_call.specs.declared.report.Form.TheVariants as form
use Rattle.program_call.specs.OneLog.{log_of_run}
use Rattle.program_call.specs.Outcomes.{IsScript, SaysScript, observation_of}
use Rattle.program_call.proofs.Answering.{ran_answers, unread_answers}
use Rattle.program_call.proofs.EndsOne.{no_bytes}
use Rattle.program_call.proofs.Leaving.{untouched_alone}
use Rattle.program_call.proofs.Runs.{runs_retold}
use Rattle.program_call.proofs.running.run_script.Goals as goal

says_it : (left : Option (List ℕ)) (this s : Script) → IfSome left (λ text. script_of whole_grammar text ≡ Ok this) → IsScript this s → SaysScript left s
says_it left this s said is = subst (λ x. SaysScript left x) (sym is) said

pub returns-in-Ok : goal.returns-in-Ok
returns-in-Ok g c =
    let left = g.S.Source.left c.args.source.now in
    let script = commands_of c.in-Ok.script in
    let setup = c.args.setup in
    let was = c.args.disk in
    let disk = c.run_and_tell.result.disk in
    let before = c.args.sink.now in
    let after = c.run_and_tell.new.sink in
    let log = log_of_run g.D.Disk setup.options setup.start setup.mode was disk in
    let n = c.run_and_tell.result.status in
    let runs = runs_retold (observation_of g.K.Sink (IsScript script) form.Whole log before after) (SaysScript left) (λ s is. says_it left script s c.in-Ok.ensures.script.said is) n c.run_and_tell.ensures.runs in
    ran_answers g.S.Source g.K.Sink c.args.source.now c.read_script.new.source before after log n script c.run_and_tell.ensures.status c.in-Ok.ensures.script.said c.in-Ok.ensures.script.ended c.in-Ok.ensures.worked runs
    (no_bytes g.D.Disk setup.options setup.start setup.mode was disk)

-- The disk's laws hold wherever a thread may run, and so in this one.
pub returns-in-Err : goal.returns-in-Err
returns-in-Err g c =
    let setup = c.args.setup in
    let was = c.args.disk in
    let laws = g.met.D.Disk g.world.𝓛 g.world.𝓜 g.world.𝓡 ((λ s x. x), (λ x. x), (λ x. x), λ x. x) in
    rw c.end_with.ensures.disk (unread_answers g.S.Source g.K.Sink c.args.source.now c.read_script.new.source c.args.sink.now c.tell_read_error.new.sink (log_of_run g.D.Disk setup.options setup.start setup.mode was was) c.end_with.result.status
    c.in-Err.why c.tell_read_error.result c.end_with.ensures.status c.in-Err.ensures.error c.in-Err.ensures.counted c.tell_read_error.ensures refl (untouched_alone g.D.Disk laws.only_now setup.options setup.start setup.mode was) refl)
