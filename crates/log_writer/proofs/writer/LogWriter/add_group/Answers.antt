use Rattle.std.proofs.Common.{[], ◌∷◌, length}
use Rattle.model_base.specs.Log.{record_text}
use Rattle.log_writer.specs.Groups.{record_of_group}
use Rattle.log_writer.proofs.Keeping.{crash_keeps, leaves_safe, leaves_same, durable, len_more}
use Rattle.log_writer.proofs.writer.LogWriter.add_group.Goals as goal

pub returns-in-Some-clause-crash : goal.returns-in-Some-clause-crash
returns-in-Some-clause-crash g c =
    let a = c.args.self.now.disk in
    crash_keeps g.D.Disk.moment g.D.Disk.from g.D.Disk.since (g.D.Disk.told a) a a (record_of_group c.args.first c.args.members.now ∷ [])
    (leaves_same g.D.Disk a (g.met.D.Disk.only_now a))

pub invariant_of-self-clause-told_len : goal.invariant_of-self-clause-told_len
invariant_of-self-clause-told_len g c = λ none.
    let a = c.args.self.now.disk in
    len_more (g.D.Disk.told a) (g.D.Disk.told c.put_group.new.disk) c.args.self.now.len c.in-Ok.end (record_text c.args.self.now.number c.args.self.now.len (record_of_group c.args.first c.args.members.now)) c.args.sync
    (c.args.self.now.told_len none) c.in-Ok.ensures.put.are_put c.in-Ok.ensures.end

pub returns-in-Ok-clause-crash : goal.returns-in-Ok-clause-crash
returns-in-Ok-clause-crash g c =
    let a = c.args.self.now.disk in
    crash_keeps g.D.Disk.moment g.D.Disk.from g.D.Disk.since (g.D.Disk.told a) a c.put_group.new.disk (record_of_group c.args.first c.args.members.now ∷ [])
    (leaves_safe g.D.Disk.moment g.D.Disk.from g.D.Disk.since (g.D.Disk.told a) (length (record_text c.args.self.now.number c.args.self.now.len (record_of_group c.args.first c.args.members.now))) a c.put_group.new.disk c.put_group.ensures.put.crash)

pub returns-in-Ok-clause-durable : goal.returns-in-Ok-clause-durable
returns-in-Ok-clause-durable g c = λ asked.
    let a = c.args.self.now.disk in
    durable (g.D.Disk.told a) (g.D.Disk.told c.put_group.new.disk) c.args.self.now.number c.args.self.now.len (record_of_group c.args.first c.args.members.now) c.args.sync (g.met.D.Disk.is_disk a) asked
    (c.args.self.now.told_len c.in_default.is) c.in-Ok.ensures.put.are_put

pub returns-in-Err-clause-crash : goal.returns-in-Err-clause-crash
returns-in-Err-clause-crash g c =
    let a = c.args.self.now.disk in
    crash_keeps g.D.Disk.moment g.D.Disk.from g.D.Disk.since (g.D.Disk.told a) a c.put_group.new.disk (record_of_group c.args.first c.args.members.now ∷ [])
    (leaves_safe g.D.Disk.moment g.D.Disk.from g.D.Disk.since (g.D.Disk.told a) (length (record_text c.args.self.now.number c.args.self.now.len (record_of_group c.args.first c.args.members.now))) a c.put_group.new.disk c.put_group.ensures.put.crash)
