use Rattle.std.proofs.Common.{IfSome, refl, subst}
use Rattle.base_devices.specs.Faults.{Rose}
use Rattle.log_recovery.specs.Modes.{TellsDamage}
use Rattle.log_recovery.specs.Recovering.{IsRecoverError}
use Rattle.log_recovery.specs.declared.recovery.RecoverError.{RecoverError}
use Rattle.list_call.proofs.Causes.{state_causes}
use Rattle.list_call.proofs.Recovering.{recovered_written, refused_written}
use Rattle.list_call.proofs.Told.{if_all}
use Rattle.list_call.proofs.state.show_state_by.Goals as goal

pub returns-in-Ok-clause-written : goal.returns-in-Ok-clause-written
returns-in-Ok-clause-written g c =
    recovered_written c.args.words c.args.number (g.R.ReadAt.held c.args.file.now) (g.K.Sink.taken c.args.sink.now) (g.K.Sink.taken c.write_state.new.sink) c.in-Ok.recovered _ _ c.write_state.result
    c.in-Ok.ensures.recovered c.in-Ok.ensures.accepted c.write_state.ensures

pub returns-in-Ok-clause-causes : goal.returns-in-Ok-clause-causes
returns-in-Ok-clause-causes g c =
    state_causes c.args.words.form c.in-Ok.recovered (g.K.Sink.taken c.args.sink.now) (g.K.Sink.taken c.write_state.new.sink) _ _ _ _ c.write_state.result c.in-Ok.ensures.worked c.write_state.ensures

pub returns-in-Err-Fault-clause-written : goal.returns-in-Err-Fault-clause-written
returns-in-Err-Fault-clause-written g c = rw c.ended.ensures (if_all (g.R.ReadAt.held c.args.file.now) _ (λ file. refl))

pub returns-in-Err-Fault-clause-causes : goal.returns-in-Err-Fault-clause-causes
returns-in-Err-Fault-clause-causes g c =
    let before = g.R.ReadAt.failures c.args.file.now in
    let now = g.R.ReadAt.failures c.recover_mode.new.disk in
    let error = subst (λ (e : RecoverError). IsRecoverError c.args.words.mode before now e) c.in-Err-Fault.field-0-is c.in-Err-Fault.ensures.error in
    rw c.ended.ensures (subst (Rose before) error.1 error.0, refl)

pub returns-in-Err-NoMemory-clause-written : goal.returns-in-Err-NoMemory-clause-written
returns-in-Err-NoMemory-clause-written g c = rw c.ended-in-Err-NoMemory.ensures (if_all (g.R.ReadAt.held c.args.file.now) _ (λ file. refl))

pub returns-in-Err-Damage-clause-written : goal.returns-in-Err-Damage-clause-written
returns-in-Err-Damage-clause-written g c =
    let told = g.R.ReadAt.held c.args.file.now in
    let damage = subst (λ (e : RecoverError). IfSome told (λ file. TellsDamage c.args.number c.args.words.mode file e)) c.in-Err-Damage.field-0-is c.in-Err-Damage.ensures.damage in
    refused_written c.args.words c.args.number told (g.K.Sink.taken c.args.sink.now) _ c.in-Err-Damage.at c.in-Err-Damage.why damage refl
