use Rattle.std.proofs.Common.{◌≤◌, ℕ, refl, ◌∙◌, subst}
use Rattle.table_rule.proofs.Histories.{begins_same, begins_trans}
use Rattle.table_steps.specs.Accounts.{account}
use Rattle.table_steps.proofs.seat.TableSeat.await_seen.Goals as goal

pub loop-init : goal.loop-init
loop-init g c = record {
  next = tt;
  finite = tt;
  ours = c.requires;
  number = refl;
  stage = refl;
  launched = refl;
  seen = begins_same (account c.args.self.now).seen;
}

pub loop-preserved : goal.loop-preserved
loop-preserved g c =
    let v = c.loop.invariant in let learns = c.last-found.ensures.seen in
    record {
      next = tt;
      finite = tt;
      ours = c.last-found.ensures.ours;
      number = learns.number ∙ v.number;
      stage = learns.stage ∙ v.stage;
      launched = learns.launched ∙ v.launched;
      seen = begins_trans (account c.args.self.now).seen (account c.loop.self).seen (account c.last-found.new.self).seen v.seen learns.seen;
    }

pub returns-then-at_least-found-clause-seen : goal.returns-then-at_least-found-clause-seen
returns-then-at_least-found-clause-seen g c =
    let v = c.loop.invariant in let learns = c.last-found.ensures.seen in
    record {
      number = learns.number ∙ v.number;
      stage = learns.stage ∙ v.stage;
      launched = learns.launched ∙ v.launched;
      seen = begins_trans (account c.args.self.now).seen (account c.loop.self).seen (account c.last-found.new.self).seen v.seen learns.seen;
      is_history = learns.is_history;
    }

pub returns-then-at_least-found-clause-reached : goal.returns-then-at_least-found-clause-reached
returns-then-at_least-found-clause-reached g c = subst (λ (n : ℕ). c.args.at_least ≤ n) c.last-found.ensures.value c.if-at_least-found.true
