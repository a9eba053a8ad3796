use Rattle.std.proofs.Common.{List, refl, sym, subst}
use Rattle.model_base.specs.Batch.{Record}
use Rattle.model_base.specs.Calls as calls
use Rattle.model_accounts.specs.ClientRuns.{Goes}
use Rattle.run_threads.specs.Answers.{records_in}
use Rattle.run_threads.proofs.Hands.{none_pending}
use Rattle.run_threads.proofs.adding.clear.Goals as goal

pub returns-in-Pending-clause-goes : goal.returns-in-Pending-clause-goes
returns-in-Pending-clause-goes c = λ settings a own. record {
  reply = calls.quiet;
  shows = refl;
  goes = rw c.clear.ensures (c.commits_are_steps.ensures.cleared settings a (records_in c.args.batches.now.current) own);
}

-- no batch is in the making
pub returns-in_default : goal.returns-in_default
returns-in_default c =
    let before = records_in c.args.batches.now.current in
    let none = none_pending c.args.batches.now.current c.in_default.not-Pending in
    record {
      goes = λ settings a own. record {
        reply = calls.quiet;
        shows = refl;
        goes = subst (λ (after : List Record). Goes settings a before calls.clear calls.quiet a after) (sym none) (c.commits_are_steps.ensures.cleared settings a before own);
      };
      none = none;
      kept = refl;
    }
