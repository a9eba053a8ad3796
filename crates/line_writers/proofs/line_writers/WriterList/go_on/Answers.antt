use Rattle.std.proofs.Common.{arith}
use Rattle.line_writers.proofs.line_writers.WriterList.go_on.Goals as goal

pub free_on-requires-clause-ready : goal.free_on-requires-clause-ready
free_on-requires-clause-ready g c = let o = c.requires.ready in (o.0, o.1, o.2, o.3, o.4, o.5, o.6, o.7.0 c.if-next-eq0.true, o.8, o.9, o.10, o.11, o.12)

pub returns-then-next-eq0-clause-settling : goal.returns-then-next-eq0-clause-settling
returns-then-next-eq0-clause-settling g c lead mine b gs p l t at heads_are slot = c.free_on.ensures.settling lead mine b gs p l t (at.0 c.if-next-eq0.true) heads_are slot

pub wake_on-requires-clause-seat : goal.wake_on-requires-clause-seat
wake_on-requires-clause-seat g c = let q = c.requires.seat in let ne = c.if-next-eq0.false in (q.0, omega arith, q.4)

pub wake_on-requires-clause-ready : goal.wake_on-requires-clause-ready
wake_on-requires-clause-ready g c = let o = c.requires.ready in let s = o.7.1 c.if-next-eq0.false in (s.0, s.1, (o.0, o.1, o.2, o.3, o.4, o.5, o.6, s.2, o.8, o.9, o.10, o.11, o.12))

pub returns-clause-settling : goal.returns-clause-settling
returns-clause-settling g c lead mine b gs p l t at heads_are slot = let s = at.1 c.if-next-eq0.false in c.wake_on.ensures.woken s.0 lead mine b gs p l t s.2 heads_are slot
