use Rattle.std.proofs.Common.{◌<◌, ◌≤◌, ◌^◌, None, length, ap, refl, arith}
use Rattle.model_base.specs.Map.{Pairs}
use Rattle.model_base.specs.Settings.{settings_of, with_kept}
use Rattle.run_scripts.specs.Scripts.{commands_of}
use Rattle.log_writer.specs.Sets.{WroteSet, count_in, fault_in, logs_of}
use Rattle.log_writer.specs.SetWritten.{disks_of}
use Rattle.run_outcome.specs.Running.{GoesOn}
use Rattle.run_threads.specs.Runs.{log_of}
use Rattle.run_execution.specs.SetEnds.{nothing_told}
use Rattle.run_execution.proofs.RunEnds.{comes_to}
use Rattle.run_execution.proofs.SafeSets.{zip_so}
use Rattle.run_execution.proofs.SetRunEnds.{calls_of, looked_further, opened_further, refused_set}
use Rattle.run_execution.proofs.SetShapes.{Further, all_further}
use Rattle.run_execution.proofs.running.execute_set.Goals as goal

pub run_on-ran-requires-clause-log : goal.run_on-ran-requires-clause-log
run_on-ran-requires-clause-log g c κs within = (c.in-Ok.ensures.ok).fault

pub returns-in-Ok-clause-end : goal.returns-in-Ok-clause-end
returns-in-Ok-clause-end g c =
    let set = c.in-Ok.set in
    let options = c.args.setup.options in
    let script = commands_of c.args.script.now in
    let ran = c.run_on-ran.result in
    let families : options.families < 2 ^ 32 = omega arith in
    let kept = nothing_told g.D.Disk c.args.disks.items in
    let settings = ap (λ (map : Pairs). with_kept kept (settings_of options map (length script) (count_in (logs_of set)))) c.new-map.ensures in
    let has = c.logs_have_batches.ensures.set c.args.disks.items set options.last c.in-Ok.ensures.ok in
    let comes = comes_to fault_in _ ran _ _ script script (WroteSet set) (WroteSet set) settings refl refl (c.run_on-ran.ensures kept has) in
    rw c.end_set_run.ensures.disks
    (c.runs_leave_safe_sets.ensures.ends c.args.disks.items set options c.args.limit script ran c.end_set_run.result.1 c.in-Ok.ensures.ok c.in-Ok.ensures.limit (omega (arith, c.requires.clients)) c.requires.options.1 families comes c.end_set_run.ensures.end)

pub returns-in-Ok-clause-later : goal.returns-in-Ok-clause-later
returns-in-Ok-clause-later g c =
    let set = c.in-Ok.set in
    let ran = c.run_on-ran.result in
    let made = calls_of _ _ set ran (c.run_on-ran.ensures None tt) in
    let all = all_further g.D.Disk c.args.disks.items (disks_of set) (disks_of (log_of ran)) (opened_further g.D.Disk c.args.disks.items (logs_of set) (c.in-Ok.ensures.ok).opened) (c.runs_leave_safe_sets.ensures.time set made.0 (log_of ran) made.1) in
    rw c.end_set_run.ensures.disks (zip_so (Further g.D.Disk) (λ old new. g.D.Disk.faults old ≤ g.D.Disk.faults new) (λ old new f. f.1) c.args.disks.items (disks_of (log_of ran)) all)

pub returns-in-Ok-clause-time : goal.returns-in-Ok-clause-time
returns-in-Ok-clause-time g c =
    let set = c.in-Ok.set in
    let ran = c.run_on-ran.result in
    let made = calls_of _ _ set ran (c.run_on-ran.ensures None tt) in
    let all = all_further g.D.Disk c.args.disks.items (disks_of set) (disks_of (log_of ran)) (opened_further g.D.Disk c.args.disks.items (logs_of set) (c.in-Ok.ensures.ok).opened) (c.runs_leave_safe_sets.ensures.time set made.0 (log_of ran) made.1) in
    rw c.end_set_run.ensures.disks (zip_so (Further g.D.Disk) (GoesOn g.D.Disk.moment g.D.Disk.from) (λ old new f. f.0) c.args.disks.items (disks_of (log_of ran)) all)

pub returns-in-Err-clause-end : goal.returns-in-Err-clause-end
returns-in-Err-clause-end g c =
    rw c.from.ensures (refused_set g.D.Disk (g.met.D.Disk g.world.𝓛 g.world.𝓜 g.world.𝓡 (λ s allowed. allowed, λ waits. waits, λ alone. alone, λ cuts. cuts)).only_now c.args.setup.options c.args.limit (commands_of c.args.script.now) c.args.disks.items c.in-Err.disks.items c.in-Err.why c.in-Err.ensures.err)

pub returns-in-Err-clause-later : goal.returns-in-Err-clause-later
returns-in-Err-clause-later g c =
    let all = looked_further g.D.Disk c.args.disks.items c.in-Err.disks.items (c.in-Err.ensures.err).looked_at in
    zip_so (Further g.D.Disk) (λ old new. g.D.Disk.faults old ≤ g.D.Disk.faults new) (λ old new f. f.1) c.args.disks.items c.in-Err.disks.items all

pub returns-in-Err-clause-time : goal.returns-in-Err-clause-time
returns-in-Err-clause-time g c =
    let all = looked_further g.D.Disk c.args.disks.items c.in-Err.disks.items (c.in-Err.ensures.err).looked_at in
    zip_so (Further g.D.Disk) (GoesOn g.D.Disk.moment g.D.Disk.from) (λ old new f. f.0) c.args.disks.items c.in-Err.disks.items all
