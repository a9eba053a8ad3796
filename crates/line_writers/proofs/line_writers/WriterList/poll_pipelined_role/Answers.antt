use Rattle.std.proofs.Common.{◌≡◌, ⊎_elim, ℕ, ◌+◌, [], ◌∷◌, Option, IfSome, sym, ap, ◌∙◌, subst}
use Rattle.line_rule.specs.declared.view.LineStage.TheVariants.{Settling}
use Rattle.line_rule.specs.declared.view.Back.TheVariants.{Serving}
use Rattle.line_rule.specs.Plays.{AtWith}
use Rattle.line_rule.specs.declared.content.LineSlot.TheVariants.{Empty}
use Rattle.line_rule.specs.Rule.{logs_from}
use Rattle.line_writers.specs.declared.second.PipelinedRole.TheVariants.{LogLeader}
use Rattle.line_writers.specs.Roles.{IsLinked, Turns}
use Rattle.line_writers.specs.Seats.{answers_told}
use Rattle.line_writers.specs.Second.{Sent, Served, squad}
use Rattle.line_writers.proofs.line_writers.WriterList.poll_pipelined_role.Goals as goal

pub claim-requires-clause-elected : goal.claim-requires-clause-elected
claim-requires-clause-elected g c =
    let key = c.args.self.now.table.shared.key in let law = logs_from (g.Log.LogOfGroups.stands key.about) (g.Log.LogOfGroups.kept key.about) g.Log.LogOfGroups.number_of g.Reply.GivesRun.run_of key.log in
    let w = c.args.writer.now in ⊎_elim
    (λ a. (a.0, answers_told w, subst (λ task. IsLinked law w.client task a.0 (answers_told w) w.seat.me) c.in-Leads.is a.1))
    (λ b. absurd (subst (λ task. Sent (g.Log.LogOfGroups.serves key.about) c.args.self.now.clients w.client task b.1.0 b.1.3 (squad b.1.0 b.1.1 b.1.2) w.seat.me) c.in-Leads.is b.1.4))
    c.requires.1

pub poll_right-requires-clause-queued : goal.poll_right-requires-clause-queued
poll_right-requires-clause-queued g c =
    let key = c.args.self.now.table.shared.key in let law = logs_from (g.Log.LogOfGroups.stands key.about) (g.Log.LogOfGroups.kept key.about) g.Log.LogOfGroups.number_of g.Reply.GivesRun.run_of key.log in
    let w = c.args.writer.now in ⊎_elim
    (λ a. absurd (subst (λ task. IsLinked law w.client task a.0 (answers_told w) w.seat.me) c.in-Queues.is a.1))
    (λ b. let s = subst (λ task. Sent (g.Log.LogOfGroups.serves key.about) c.args.self.now.clients w.client task b.1.0 b.1.3 (squad b.1.0 b.1.1 b.1.2) w.seat.me) c.in-Queues.is b.1.4 in (b.1.0, b.1.3, squad b.1.0 b.1.1 b.1.2, s.0))
    c.requires.1

pub returns-in-Leads-clause-role : goal.returns-in-Leads-clause-role
returns-in-Leads-clause-role g c q link =
    let key = c.args.self.now.table.shared.key in let law = logs_from (g.Log.LogOfGroups.stands key.about) (g.Log.LogOfGroups.kept key.about) g.Log.LogOfGroups.number_of g.Reply.GivesRun.run_of key.log in
    let w = c.args.writer.now in let f = c.claim.ensures in
    subst (λ (j : ℕ). Turns law (g.Log.LogOfGroups.kept key.about) (g.Log.LogOfGroups.drops key.about) j c.claim.new.writer.task q (answers_told w) (LogLeader c.claim.result) c.claim.new.writer.seat.me) (sym f.seat.1)
    (f.leads q (answers_told w) (subst (λ task. IsLinked law w.client task q (answers_told w) w.seat.me) c.in-Leads.is link))

pub returns-in-Some-poll_right-clause-right : goal.returns-in-Some-poll_right-clause-right
returns-in-Some-poll_right-clause-right g c d from to mine sent =
    let key = c.args.self.now.table.shared.key in let n : ℕ = c.args.self.now.clients in let w = c.args.writer.now in let f = c.poll_right.ensures in let m = c.poll_right.new.writer.seat.me in
    let s = subst (λ task. Sent (g.Log.LogOfGroups.serves key.about) n w.client task d mine (squad d from to) w.seat.me) c.in-Queues.is sent in
    let r = subst (λ (x : Option g.row.Right.Denot). IfSome x (λ right. AtWith w.client (Settling d) mine (Serving (squad d from to) []) m × (m.1 ≡ (n + 1, Empty) ∷ w.seat.me.1) × g.Log.LogOfGroups.serves key.about right from)) c.in-Some-poll_right.is (f.right d mine (squad d from to) s.0) in
    (r.2, subst (λ (j : ℕ). Served n j d mine (squad d from to) m) (sym f.seat.1) (r.0, r.1 ∙ ap (λ l. (n + 1, Empty) ∷ l) s.1))
