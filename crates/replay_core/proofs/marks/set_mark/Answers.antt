use Rattle.std.proofs.Common.{arith}
use Rattle.replay_core.proofs.MarkLemmas.{mark_set}
use Rattle.replay_core.proofs.marks.set_mark.Goals as goal

pub returns-in_default-clause-set : goal.returns-in_default-clause-set
returns-in_default-clause-set c = λ some few. absurd (omega (arith, c.in_default.ensures))

pub returns-then-place-len-clause-set : goal.returns-then-place-len-clause-set
returns-then-place-len-clause-set c = λ some few k.
    mark_set c.args.marks.now.items c.in-Some.place c.args.client k c.args.mark (omega arith) (omega (arith, c.in-Some.ensures))

pub returns-else-place-len-clause-set : goal.returns-else-place-len-clause-set
returns-else-place-len-clause-set c = λ some few k. absurd (omega (arith, c.in-Some.ensures))
