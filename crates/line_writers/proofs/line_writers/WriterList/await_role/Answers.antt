use Rattle.std.proofs.Common.{ℕ, ◌<◌, ◌≤◌, inl, sym, ◌∙◌, subst}
use Rattle.line_rule.specs.Rule.{logs_from}
use Rattle.line_writers.specs.declared.writer.Role.TheVariants.{LogLeader}
use Rattle.line_writers.specs.Roles.{IsLinked, Becomes, HasReply}
use Rattle.line_writers.specs.Seats.{answers_told}
use Rattle.line_writers.proofs.line_writers.WriterList.await_role.Goals as goal

pub returns-in-Leads-clause-role : goal.returns-in-Leads-clause-role
returns-in-Leads-clause-role g c =
    let key = c.args.self.now.table.shared.key in let law = logs_from (g.Log.LogOfGroups.stands key.about) (g.Log.LogOfGroups.kept key.about) g.Log.LogOfGroups.number_of g.Reply.GivesRun.run_of key.log in
    let w = c.args.writer.now in let f = c.claim.ensures in let b = c.requires.0 in (
      (f.seat.0 ∙ b.0, subst (λ (j : ℕ). 0 < j) (sym f.seat.1) b.1, subst (λ (j : ℕ). j ≤ c.args.self.now.clients) (sym f.seat.1) b.2),
      λ q link. subst (λ (j : ℕ). Becomes law (g.Log.LogOfGroups.kept key.about) (g.Log.LogOfGroups.drops key.about) j q (answers_told w) (LogLeader c.claim.result) c.claim.new.writer.seat.me) (sym f.seat.1)
          (f.leads q (answers_told w) (subst (λ task. IsLinked law w.client task q (answers_told w) w.seat.me) c.in-Leads.is link)),
    )

pub returns-in-Helps-clause-role : goal.returns-in-Helps-clause-role
returns-in-Helps-clause-role g c =
    let key = c.args.self.now.table.shared.key in let law = logs_from (g.Log.LogOfGroups.stands key.about) (g.Log.LogOfGroups.kept key.about) g.Log.LogOfGroups.number_of g.Reply.GivesRun.run_of key.log in
    let w = c.args.writer.now in let f = c.await_reply.ensures in let b = c.requires.0 in (
      (f.seat.0 ∙ b.0, subst (λ (j : ℕ). 0 < j) (sym f.seat.1) b.1, subst (λ (j : ℕ). j ≤ c.args.self.now.clients) (sym f.seat.1) b.2),
      λ q link. let h = subst (λ task. IsLinked law w.client task q (answers_told w) w.seat.me) c.in-Helps.is link in
          inl (subst (λ (j : ℕ). HasReply (g.Log.LogOfGroups.kept key.about) j q (answers_told w) c.await_reply.result c.await_reply.new.writer.seat.me) (sym f.seat.1) (f.reply q (answers_told w) h.0 h.1)),
    )
