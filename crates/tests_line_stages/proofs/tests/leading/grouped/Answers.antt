use Rattle.std.proofs.Common.{◌≡◌, ◌≤◌, sym, ap, subst}
use Rattle.line_writers.specs.Seats.{bound_of, clients_of, answers_told, told_in_first, HasGroup}
use Rattle.tests_line_stages.specs.Clients.{asked}
use Rattle.tests_line_stages.proofs.tests.leading.grouped.Goals as goal

pub returns-clause-group : goal.returns-clause-group
returns-clause-group c =
    let o = c.requires.leads.1 in let f = c.group.ensures.group in let t = f.1 o.0 o.1 o.2 in
    let mine : answers_told c.group.new.writer ≡ answers_told c.args.writer.now = ap told_in_first t.2.0.1 in
    let has = subst (λ m. HasGroup (asked c.args.list.now) (clients_of c.args.list.now) (bound_of c.args.list.now) o.0 t.0 t.1 o.1 m c.group.new.writer) (sym mine) t.2 in
    let ready = c.requires.ready in let room = c.group.ensures.room in
    (f.0, (bound_of c.args.list.now, o.0, t.0, t.1, o.1, has, t.3), c.group.ensures.few, subst (λ n. clients_of c.args.list.now ≤ n) (sym room.1) ready.0.2, ready.1, room.0)
