use mathlib.Core.List.{[]}
use Rattle.std.proofs.Common.{◌+◌, ◌<◌, sym, subst}
use mir.Syntax.{erased}
use denote.Exit.{yes}
use denote.Param.Send.{shr_sync, shr_slice_sync, param_send, arg_send}
use Rattle.std.proofs.Crossing.{Vec-send, Vec-sync}
use Rattle.std.proofs.alloc.Global.TheSendSync as heap
use Rattle.std.proofs.sync.Mutex.TheSendSync as mutex
use Rattle.base_devices.specs.contracts.mem_disk.MemDisk as disk_row
use Rattle.base_devices.specs.contracts.mem_disk.MemDiskDisk.TheImpl as disk_ghosts
use Rattle.base_devices.specs.contracts.stepped_clock.SteppedClock as clock_row
use Rattle.base_devices.proofs.mem_disk.MemDisk.TheSendSync as disk
use Rattle.log_writer.specs.contracts.writer.LogWriter as log_row
use Rattle.log_writer.specs.contracts.group_log.LogWriterGroupLog.TheImpl as log_ghosts
use Rattle.log_writer.proofs.writer.LogWriter.TheSendSync as log
use Rattle.base_devices.proofs.stepped_clock.SteppedClock.TheSendSync as clock
use Rattle.engine_calls.specs.contracts.gate.OpenGate as gate_row
use Rattle.engine_calls.proofs.gate.OpenGate.TheSendSync as gate
use Rattle.engine_memory.proofs.Crossing.{client_send, engine_sync}
use Rattle.tests_engine.specs.Callers.{IsCaller}
use Rattle.tests_engine.proofs.script.Step.TheSendSync as step
use Rattle.tests_engine.proofs.script.StepAnswer.TheSendSync as note
use Rattle.tests_engine.proofs.Crossing.{closure_sync}
use Rattle.tests_engine.proofs.tests.playing.play_at_once.Goals as goal

pub for_each_mut-requires-send-T : goal.for_each_mut-requires-send-T
for_each_mut-requires-send-T g c κs within = param_send 1 _ (arg_send _ yes _ (client_send (log_row.the_row disk_row.the_row disk_ghosts.ghosts) clock_row.the_row gate_row.the_row (log_ghosts.ghosts disk_row.the_row disk_ghosts.ghosts log_ghosts.no_dict) (log.the_send disk_row.the_row disk_ghosts.ghosts disk.the_send) clock.the_send))

pub for_each_mut-requires-sync-F : goal.for_each_mut-requires-sync-F
for_each_mut-requires-sync-F g c κs within =
    let path_sync = engine_sync (log_row.the_row disk_row.the_row disk_ghosts.ghosts) clock_row.the_row gate_row.the_row (log_ghosts.ghosts disk_row.the_row disk_ghosts.ghosts log_ghosts.no_dict) (log.the_send disk_row.the_row disk_ghosts.ghosts disk.the_send) clock.the_send gate.the_sync in
    record { shared = λ x b o κ. (closure_sync _ _ _ _ _ (shr_sync erased _ _ c.type_bounds.sync-R) (shr_sync erased [] _ heap.the_sync) (shr_sync erased _ _ path_sync) (shr_slice_sync erased _ _ (Vec-sync _ step.the_sync)) (shr_slice_sync erased _ _ (mutex.the_sync _ (Vec-send _ note.the_send)))).shared x b o κ }

pub for_each_mut-requires-clause-accepts : goal.for_each_mut-requires-clause-accepts
for_each_mut-requires-clause-accepts g c κs within = λ i p lt is. subst (IsCaller c.args.engine.now (i + 1)) (sym is) (c.requires.0.each i p.now lt)

pub returns : goal.returns
returns g c =
    let same = c.for_each_mut.auto.s in
    (record { each = λ i d lt. let t = c.for_each_mut.ensures i d (subst (λ n. i < n) same lt) in subst (IsCaller c.args.engine.now (i + 1)) t.1.left t.1.call }, same)
