use Rattle.std.proofs.Common.{◌<◌, ◌^◌, ℕ, None, max, refl, ap, ◌∙◌, subst, arith}
use Rattle.model_base.specs.declared.options.Options.{Options}
use Rattle.model_base.specs.Settings.{with_kept}
use Rattle.run_outcome.specs.Running.{batches_told}
use Rattle.run_scripts.specs.Scripts.{commands_of}
use Rattle.log_writer.specs.Words.{disk_of, fault_of}
use Rattle.log_writer.specs.Written.{Wrote}
use Rattle.run_execution.proofs.Openings.{alive_as}
use Rattle.run_execution.proofs.RunEnds.{comes_to, settings_behind}
use Rattle.run_execution.proofs.running.run_over.Goals as goal

pub run_on-ran-requires-clause-log : goal.run_on-ran-requires-clause-log
run_on-ran-requires-clause-log g c κs within =
    let opened = c.requires.opened in
    let is = opened.1 in
    alive_as c.args.setup.start is.before opened.0 c.args.opened.log is.is_opened

pub returns-clause-end : goal.returns-clause-end
returns-clause-end g c = λ disk is accepted in_range.
    let start = c.args.setup.start in
    let opened = c.args.opened in
    let options = c.args.setup.options in
    let script = commands_of c.args.script.now in
    let ran = c.run_on-ran.result in
    let kept = batches_told (g.D.Disk.told disk) is.before in
    let has = c.logs_have_batches.ensures.one start is.before disk opened.log c.max.result is.goes_on is.is_opened (omega (arith, c.max.ensures, is.last)) in
    let settings = settings_behind start disk opened options c.max.result c.max-2.result _ _ is c.max.ensures c.max-2.ensures refl in
    let comes = comes_to fault_of _ ran _ _ script script (Wrote opened.log) (Wrote opened.log) (ap (with_kept kept) settings) refl refl (c.run_on-ran.ensures kept has) in
    let families = subst (λ (n : ℕ). n < 2 ^ 32) (c.max-2.ensures ∙ ap (max options.families) is.families) c.max-2.type_inv in
    rw c.end_run.ensures.disk
    (c.runs_leave_safe_logs.ensures.ends disk opened.log options start c.args.setup.mode is.before script ran c.end_run.result.1 is.goes_on accepted in_range is.is_opened (omega (arith, c.requires.clients)) c.requires.options.1 families comes c.end_run.ensures.end)

pub returns-clause-later : goal.returns-clause-later
returns-clause-later g c =
    let opened = c.args.opened in
    let options : Options = record c.args.setup.options { last = c.max.result; families = c.max-2.result } in
    rw c.end_run.ensures.disk (c.runs_leave_safe_logs.ensures.time opened.log options opened.map (commands_of c.args.script.now) (g.D.Disk.faults (disk_of opened.log)) None c.run_on-ran.result (c.run_on-ran.ensures None tt)).1

pub returns-clause-time : goal.returns-clause-time
returns-clause-time g c =
    let opened = c.args.opened in
    let options : Options = record c.args.setup.options { last = c.max.result; families = c.max-2.result } in
    rw c.end_run.ensures.disk (c.runs_leave_safe_logs.ensures.time opened.log options opened.map (commands_of c.args.script.now) (g.D.Disk.faults (disk_of opened.log)) None c.run_on-ran.result (c.run_on-ran.ensures None tt)).0
