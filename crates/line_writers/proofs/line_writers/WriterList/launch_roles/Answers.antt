use Rattle.std.proofs.Common.{ℕ, ◌<◌, ◌≤◌, [], ◌∷◌, sym, ap, ◌∙◌, subst}
use Rattle.line_rule.specs.declared.view.LineStage.TheVariants.{Settling}
use Rattle.line_rule.specs.declared.view.Back.TheVariants.{Serving}
use Rattle.line_rule.specs.Plays.{debt}
use Rattle.line_rule.specs.Rule.{hold_at}
use Rattle.line_writers.specs.Second.{Served, squad}
use Rattle.line_writers.proofs.Sends.{member_at}
use Rattle.line_writers.proofs.line_writers.WriterList.launch_roles.Goals as goal

pub make_parallel-requires-clause-seat : goal.make_parallel-requires-clause-seat
make_parallel-requires-clause-seat g c =
    let o = c.requires.leads.1 in let m = member_at c.args.self.now.clients c.args.members.now o.0.rest c.loop-i.i _ o.5 c.loop-i-test.true in
    (c.loop-i.invariant.table ∙ c.requires.leads.0.0, m.5, m.6)

pub make_parallel-requires-clause-member : goal.make_parallel-requires-clause-member
make_parallel-requires-clause-member g c =
    let o = c.requires.leads.1 in let v = c.loop-i.invariant in let m = member_at c.args.self.now.clients c.args.members.now o.0.rest c.loop-i.i _ o.5 c.loop-i-test.true in
    let back = Serving (squad o.0 o.1 o.2) [] in
    (m.0, m.2, m.1, o.0.own, o.0.reply, o.3, squad o.0 o.1 o.2, [], ap (λ (x : _ × _). x.0) v.me ∙ o.4.0 ∙ (λ i. hold_at (sym v.client i) (Settling (debt (m.3 i) o.0.own o.0.reply)) o.3 back ∷ []), m.4)

pub returns-clause-client : goal.returns-clause-client
returns-clause-client g c =
    let v = c.loop-i.invariant in let b = c.requires.leads.0 in
    (v.client, (v.table ∙ b.0, subst (λ (j : ℕ). 0 < j) (sym v.client) b.1, subst (λ (j : ℕ). j ≤ c.args.self.now.clients) (sym v.client) b.2))

pub returns-clause-leads : goal.returns-clause-leads
returns-clause-leads g c d from to mine has =
    let v = c.loop-i.invariant in let n : ℕ = c.args.self.now.clients in let k : ℕ = c.args.writer.now.client in
    subst (λ (j : ℕ). Served n j d mine (squad d from to) c.loop-i.writer.seat.me) (sym v.client) (subst (λ m. Served n k d mine (squad d from to) m) (sym v.me) has)
