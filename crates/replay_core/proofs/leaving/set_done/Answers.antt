use Rattle.std.proofs.Common.{arith}
use Rattle.replay_core.proofs.LeavingLemmas.{done_set}
use Rattle.replay_core.proofs.leaving.set_done.Goals as goal

pub returns-in_default-clause-set : goal.returns-in_default-clause-set
returns-in_default-clause-set c = λ some few. absurd (omega (arith, c.in_default.ensures))

pub returns-then-place-len-clause-set : goal.returns-then-place-len-clause-set
returns-then-place-len-clause-set c = λ some few k.
    done_set c.args.done.now.items c.in-Some.place c.args.client k c.args.writer (omega arith) (omega (arith, c.in-Some.ensures))

pub returns-else-place-len-clause-set : goal.returns-else-place-len-clause-set
returns-else-place-len-clause-set c = λ some few k. absurd (omega (arith, c.in-Some.ensures))
