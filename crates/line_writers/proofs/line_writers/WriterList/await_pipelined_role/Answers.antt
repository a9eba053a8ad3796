use Rattle.std.proofs.Common.{◌≡◌, true, ◌⊎◌, sym, subst}
use Rattle.line_writers.specs.declared.writer.Writer.{Writer}
use Rattle.line_writers.specs.Seats.{about_of, clients_of, law_of, piped_of, answers_told, Belongs, IsIn}
use Rattle.line_writers.specs.Second.{HasSentGroup}
use Rattle.line_writers.proofs.line_writers.WriterList.await_pipelined_role.Goals as goal

pub poll_pipelined_role-requires : goal.poll_pipelined_role-requires
poll_pipelined_role-requires g c =
    subst (λ (w : Writer g.row.Request.Denot g.row.Reply.Denot g.row.Log.Denot g.row.Right.Denot). Belongs c.args.self.now w × (((q : g.row.Request.Denot) × IsIn (law_of g.Reply.GivesRun.run_of g.Log.LogOfGroups c.args.self.now) q (answers_told w) w) ⊎ ((piped_of c.args.self.now ≡ true) × HasSentGroup (g.Log.LogOfGroups.serves (about_of c.args.self.now)) (clients_of c.args.self.now) w)))
    (sym c.loop.invariant.2) c.requires
