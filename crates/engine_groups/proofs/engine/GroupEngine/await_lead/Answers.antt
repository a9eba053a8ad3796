use Rattle.std.proofs.Common.{ℕ, sym, ap, ◌∙◌}
use Rattle.line_rule.specs.Chain.{of}
use Rattle.line_writers.specs.Seats.{answers_told}
use Rattle.engine_groups.specs.Law.{dropped_in, kept_in, law_in}
use Rattle.engine_groups.proofs.Leads.{as_leader}
use Rattle.engine_groups.proofs.engine.GroupEngine.await_lead.Goals as goal

pub returns-clause-leads : goal.returns-clause-leads
returns-clause-leads g c =
    let list = c.args.self.now.list in let w0 = c.args.writer.now in let A = c.await_own_role in let w = A.new.writer in (
      A.ensures.role.0,
      (λ q was.
          let B = as_leader (law_in g.Versions.Table list) (kept_in list) (dropped_in list) w.client q (answers_told w0) A.result c.in-LogLeader.leadership w.seat.me c.in-LogLeader.is (A.ensures.role.1 q was) in
          (B.0, B.1, B.3, B.2, ap (λ (k : ℕ). of k B.1) (sym A.ensures.client) ∙ B.5, B.4)),
    )
