use Rattle.std.proofs.Common.{◌≡◌, [], ◌∷◌, ◌++◌, sym, ap, ◌∙◌, inl, inr, ⊎_elim, append_assoc, append-nil}
use Rattle.table_rule.specs.Histories.{Begins}
use Rattle.engine_memtable.proofs.working.work.Goals as goal

pub returns-clause-works : goal.returns-clause-works
returns-clause-works g c =
    let t = c.take-part.ensures.taken in let u = t.launched in
    let i = c.insert.ensures.stored u t.steps.stage_is in let f = c.finish.ensures.finished u i.stage_is in
    let before = (g.Versions.Table.account c.args.seat.now).seen in let after = (g.Versions.Table.account c.finish.new.seat).seen in
    let same : (g.Versions.Table.account c.insert.new.seat).seen ≡ before = i.seen ∙ t.steps.seen in
    let was = t.own_part.seen_before in
    record {
      launched = u;
      versions = g.Versions.Table.versions c.take-part.result;
      own_part = t.own_part;
      awaited = t.awaited;
      number = f.number ∙ (i.number ∙ t.steps.number);
      idle = f.idle;
      same = f.same ∙ (i.launched ∙ t.steps.launched);
      seen = ⊎_elim (λ e. inl (e ∙ same)) (λ x. inr (x.0, x.1)) f.seen;
      goes_on = ⊎_elim {C = Begins before after} (λ e. ([], e ∙ (same ∙ sym (append-nil before))))
          (λ x. (was.0 ++ u.group ∷ [], x.0 ∙ (ap (λ l. l ++ u.group ∷ []) was.1 ∙ append_assoc before was.0 (u.group ∷ [])))) f.seen;
    }
