use Rattle.std.proofs.Common.{List, ℕ}
use Rattle.model_base.specs.Log as log
use Rattle.log_writer.specs.Groups.{record_of_group}
use Rattle.log_writer.proofs.Putting.{puts_ok, puts_err, puts_synced}
use Rattle.log_writer.proofs.puts.put_group.Goals as goal

pub returns-in_err-end-clause-put : goal.returns-in_err-end-clause-put
returns-in_err-end-clause-put g c =
    puts_err g.D.Disk c.args.disk.now c.put_members.new.disk (log.record_text c.args.number c.args.offset (record_of_group c.args.first c.args.members.now)) _ c.args.sync c.in_err-end.field-0.0 c.from_residual.result c.from_residual.ensures.0 c.in_err-end.ensures.put

pub returns-in_err-sync_if-clause-put : goal.returns-in_err-sync_if-clause-put
returns-in_err-sync_if-clause-put g c =
    let text : List ℕ = log.record_text c.args.number c.args.offset (record_of_group c.args.first c.args.members.now) in
    puts_err g.D.Disk c.args.disk.now c.sync_if.new.disk text c.args.sync c.args.sync c.in_err-sync_if.field-0.0 c.from_residual-in_err-sync_if.result c.from_residual-in_err-sync_if.ensures.0
    (puts_synced g.D.Disk c.args.disk.now c.put_members.new.disk c.sync_if.new.disk text c.args.sync c.in_ok-end.end _ (g.met.D.Disk.is_disk c.args.disk.now) c.in_ok-end.ensures.put c.in_err-sync_if.ensures)

pub returns-clause-put : goal.returns-clause-put
returns-clause-put g c =
    let text : List ℕ = log.record_text c.args.number c.args.offset (record_of_group c.args.first c.args.members.now) in
    puts_ok g.D.Disk c.args.disk.now c.sync_if.new.disk text c.args.sync c.in_ok-sync_if.field-0 c.in_ok-end.end
    (puts_synced g.D.Disk c.args.disk.now c.put_members.new.disk c.sync_if.new.disk text c.args.sync c.in_ok-end.end _ (g.met.D.Disk.is_disk c.args.disk.now) c.in_ok-end.ensures.put c.in_ok-sync_if.ensures)
