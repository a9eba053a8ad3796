use Rattle.std.proofs.Common.{ℕ, refl, subst}
use Rattle.base_devices.specs.Faults.{Rose}
use Rattle.log_reader.specs.Opens.{IsOpenError}
use Rattle.log_reader.specs.declared.errors.OpenError.{OpenError}
use Rattle.list_call.specs.Calls.{HasCauses}
use Rattle.list_call.proofs.Recovering.{state_written}
use Rattle.list_call.proofs.Told.{if_all}
use Rattle.list_call.proofs.state.show_state.Goals as goal

pub returns-in-Err-Fault-clause-written : goal.returns-in-Err-Fault-clause-written
returns-in-Err-Fault-clause-written g c = rw c.ended.ensures (if_all (g.R.ReadAt.held c.args.file.now) _ (λ file. refl))

pub returns-in-Err-Fault-clause-causes : goal.returns-in-Err-Fault-clause-causes
returns-in-Err-Fault-clause-causes g c =
    let before = g.R.ReadAt.failures c.args.file.now in
    let now = g.R.ReadAt.failures c.number_for.new.file in
    let error = subst (λ (e : OpenError). IsOpenError before now e) c.in-Err-Fault.field-0-is c.in-Err-Fault.ensures.error in
    rw c.ended.ensures (subst (Rose before) error.1 error.0, refl)

pub returns-in-Err-NoMemory-clause-written : goal.returns-in-Err-NoMemory-clause-written
returns-in-Err-NoMemory-clause-written g c = rw c.ended-in-Err-NoMemory.ensures (if_all (g.R.ReadAt.held c.args.file.now) _ (λ file. refl))

pub returns-clause-written : goal.returns-clause-written
returns-clause-written g c =
    state_written c.args.words c.in-Ok.number (g.R.ReadAt.held c.args.file.now) (g.R.ReadAt.held c.number_for.new.file) (g.K.Sink.taken c.args.sink.now) (g.K.Sink.taken c.show_state_by.new.sink) c.show_state_by.result.status
    (g.met.R.ReadAt.reads_keep _ _ c.in-Ok.ensures.file) c.in-Ok.ensures.number c.show_state_by.ensures.written

pub returns-clause-causes : goal.returns-clause-causes
returns-clause-causes g c =
    subst (λ (n : ℕ). HasCauses n (g.R.ReadAt.failures c.show_state_by.new.file) (g.K.Sink.faults c.args.sink.now) (g.K.Sink.faults c.show_state_by.new.sink) c.show_state_by.result.status) c.in-Ok.ensures.worked c.show_state_by.ensures.causes

pub returns-clause-file : goal.returns-clause-file
returns-clause-file g c = g.met.R.ReadAt.reads_on _ _ _ c.in-Ok.ensures.file c.show_state_by.ensures.file
