use Rattle.std.proofs.Common.{arith, refl}
use Rattle.replay_core.proofs.OrdinalLemmas.{counts_one, counts_other}
use Rattle.replay_core.proofs.ordinals.count_one.Goals as goal

pub returns-in_default : goal.returns-in_default
returns-in_default c = λ front few are.
    counts_other c.args.counts.now front c.args.entry.now (λ k lt same. absurd (omega (arith, c.in_default.ensures, same))) are

pub returns-then-place-counts : goal.returns-then-place-counts
returns-then-place-counts c = λ front few are.
    counts_one c.args.counts.now c.in-Some.place c.args.entry.now.client _ front c.args.entry.now refl (omega (arith, c.in-Some.ensures)) (omega arith) few (λ lt. omega (arith, lt)) are

pub returns-else-place-counts : goal.returns-else-place-counts
returns-else-place-counts c = λ front few are.
    counts_other c.args.counts.now front c.args.entry.now (λ k lt same. absurd (omega (arith, c.in-Some.ensures, lt, same))) are
