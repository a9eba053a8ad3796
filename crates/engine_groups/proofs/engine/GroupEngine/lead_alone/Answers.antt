use Rattle.std.proofs.Common.{[], ◌∷◌, ◌++◌, sym, ◌∙◌, subst}
use Rattle.table_rule.specs.Histories.{Begins, last_of}
use Rattle.engine_parts.specs.declared.requests.Answer.{Answer}
use Rattle.engine_parts.specs.Logs.{faults_of}
use Rattle.engine_parts.specs.ReadAnswers.{HasReadTo}
use Rattle.engine_groups.specs.Clients.{opened_log, told_of}
use Rattle.engine_groups.proofs.Leads.{fresh_same}
use Rattle.engine_groups.proofs.engine.GroupEngine.lead_alone.Goals as goal

pub leave-requires-clause-leaves : goal.leave-requires-clause-leaves
leave-requires-clause-leaves g c =
    let v = c.args.client.now in let G = c.read_alone-leadership.ensures.leaves in
    (v.number, v.start, told_of v, G.0, G.1, G.3, G.4)

pub leave-requires-clause-parts : goal.leave-requires-clause-parts
leave-requires-clause-parts g c = c.read_alone-leadership.ensures.parts

pub returns-clause-answered : goal.returns-clause-answered
returns-clause-answered g c own seen chosen =
    let e = c.args.self.now in let v = c.args.client.now in let A = c.read_alone-leadership in let G = A.ensures.leaves in let L = c.leave in
    let account = g.Versions.Table.account in let was = A.ensures.same in let same = L.ensures.same in
    let fresh = fresh_same v.writer.client v.writer.client G.0 own G.1 seen (told_of v) (told_of v) (sym G.2.0 ∙ chosen.0) in
    let H = L.ensures.answered v.number v.start (told_of v) G.0 G.1 G.3 in
    let reply = L.ensures.reply v.number v.start (told_of v) G.0 G.1 G.3 in
    let read = subst (λ (p : Answer). HasReadTo (faults_of (opened_log e)) (last_of v.start (account A.new.client.seat).seen) p.read) (sym reply) G.5 in
    record {
      told_now = H.told_now ∙ (λ i. told_of v ++ ((fresh i).asked, L.result) ∷ []);
      number = same.0 ∙ was.0;
      start_same = same.1 ∙ was.1;
      table_same = same.4 ∙ was.3;
      read = subst (λ s. HasReadTo (faults_of (opened_log e)) (last_of v.start (account s).seen) L.result.read) (sym same.2) read;
    }

pub returns-clause-seen : goal.returns-clause-seen
returns-clause-seen g c =
    let v = c.args.client.now in let A = c.read_alone-leadership in let same = c.leave.ensures.same in let account = g.Versions.Table.account in
    (subst (λ s. Begins (account v.seat).seen (account s).seen) (sym same.2) A.ensures.seen, same.3 ∙ A.ensures.same.2)
