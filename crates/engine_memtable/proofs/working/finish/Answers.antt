use Rattle.std.proofs.Common.{List, ◌∙◌, subst, inl, inr}
use Rattle.table_rule.specs.Histories.{Begins}
use Rattle.engine_memtable.proofs.working.finish.Goals as goal

pub returns-in-Last-clause-finished : goal.returns-in-Last-clause-finished
returns-in-Last-clause-finished g c u is =
    let f = (c.in-Last.ensures.counted u is).steps in let p = c.publish.ensures.published u f.stage_is in
    record {
      number = p.number ∙ f.number;
      idle = p.stage_is;
      same = p.launched_is ∙ f.launched;
      seen = inr (p.seen_is, p.is_history, subst (λ (s : List _). Begins s u.before) f.seen p.seen_before);
    }

pub publish-requires-clause-last_one : goal.publish-requires-clause-last_one
publish-requires-clause-last_one g c = let u = c.requires.stored in (u.0, (c.in-Last.ensures.counted u.0 u.1).steps.stage_is)

pub returns-in-Others-clause-finished : goal.returns-in-Others-clause-finished
returns-in-Others-clause-finished g c u is =
    let f = (c.in-Others.ensures.counted u is).steps in record { number = f.number; idle = f.stage_is; same = f.launched; seen = inl f.seen }
