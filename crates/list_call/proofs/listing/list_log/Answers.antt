use Rattle.std.proofs.Common.{inl, ◌∙◌, Some, Err, ap, refl, sym, subst}
use Rattle.base_devices.specs.Faults.{Rose}
use Rattle.log_reader.specs.Opens.{IsOpenError}
use Rattle.log_reader.specs.declared.errors.OpenError.{OpenError}
use Rattle.list_text.specs.declared.keys.KeyError.{KeyError}
use Rattle.list_call.specs.Calls.{IsKey}
use Rattle.list_call.proofs.Causes.{list_causes}
use Rattle.list_call.proofs.Showing.{list_written}
use Rattle.list_call.proofs.Told.{if_all}
use Rattle.list_call.proofs.listing.list_log.Goals as goal

pub returns-in-Err-NotAKey-clause-written : goal.returns-in-Err-NotAKey-clause-written
returns-in-Err-NotAKey-clause-written g c =
    let wrong = subst (λ (e : KeyError). IsKey c.args.words (Err e)) c.in-Err-NotAKey.field-0-is c.in-Err-NotAKey.ensures in
    rw c.ended.ensures (if_all (g.R.ReadAt.held c.args.file.now) _ (λ file. (wrong, refl)))

pub returns-in-Err-NoMemory-clause-written : goal.returns-in-Err-NoMemory-clause-written
returns-in-Err-NoMemory-clause-written g c = rw c.ended-in-Err-NoMemory.ensures (if_all (g.R.ReadAt.held c.args.file.now) _ (λ file. inl refl))

pub returns-in-Err-Fault-clause-written : goal.returns-in-Err-Fault-clause-written
returns-in-Err-Fault-clause-written g c = rw c.ended-in-Err-Fault.ensures (if_all (g.R.ReadAt.held c.args.file.now) _ (λ file. inl refl))

pub returns-in-Err-Fault-clause-causes : goal.returns-in-Err-Fault-clause-causes
returns-in-Err-Fault-clause-causes g c =
    let before = g.R.ReadAt.failures c.args.file.now in
    let now = g.R.ReadAt.failures c.number_for.new.file in
    let error = subst (λ (e : OpenError). IsOpenError before now e) c.in-Err-Fault.field-0-is c.in-Err-Fault.ensures.error in
    rw c.ended-in-Err-Fault.ensures (subst (Rose before) error.1 error.0, refl)

pub returns-in-Err-NoMemory-number_for-clause-written : goal.returns-in-Err-NoMemory-number_for-clause-written
returns-in-Err-NoMemory-number_for-clause-written g c = rw c.ended-in-Err-NoMemory-number_for.ensures (if_all (g.R.ReadAt.held c.args.file.now) _ (λ file. inl refl))

pub returns-clause-written : goal.returns-clause-written
returns-clause-written g c =
    let keyed = c.in-Ok.ensures ∙ ap Some (sym c.slice_of.ensures) in
    list_written c.args.words c.in-Ok-number_for.number (g.R.ReadAt.held c.args.file.now) (g.R.ReadAt.held c.number_for.new.file) (g.K.Sink.taken c.args.sink.now) (g.K.Sink.taken c.show_by-shown.new.sink) c.show_by-shown.result _
    (g.met.R.ReadAt.reads_keep _ _ c.in-Ok-number_for.ensures.file) c.in-Ok-number_for.ensures.number (c.show_by-shown.ensures.written keyed) c.answer_of.ensures

pub returns-clause-causes : goal.returns-clause-causes
returns-clause-causes g c =
    list_causes (g.R.ReadAt.failures c.args.file.now) (g.R.ReadAt.failures c.number_for.new.file) _ _ _ c.show_by-shown.result _ c.in-Ok-number_for.ensures.worked c.show_by-shown.ensures.causes c.answer_of.ensures

pub returns-clause-file : goal.returns-clause-file
returns-clause-file g c = g.met.R.ReadAt.reads_on _ _ _ c.in-Ok-number_for.ensures.file c.show_by-shown.ensures.file
