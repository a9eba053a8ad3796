-- A record that is skipped is one more that is read.
use Rattle.std.proofs.Common.{sym, ◌∙◌}
use Rattle.log_in_memory.specs.Readings.{here}
use Rattle.log_in_memory.proofs.Skipping.{read_one, goes_forward}
use Rattle.log_in_memory.proofs.reading.Reading.next_since.Goals as goal

pub loop-answer-init : goal.loop-answer-init
loop-answer-init c = λ new answer reads. reads

pub loop-answer-preserved : goal.loop-answer-preserved
loop-answer-preserved c =
    let skipped = c.skips.ensures.yes c.if-not-skips.false in
    λ new answer reads. c.loop-answer.invariant new answer
    (read_one c.args.log.now c.args.since c.loop-answer.self.reader c.next-answer.new.self.reader new c.next-answer.result answer c.next-answer.ensures.reads (sym c.next-answer.ensures.in_hand ∙ skipped.0) skipped.1 reads)

pub loop-answer-smaller : goal.loop-answer-smaller
loop-answer-smaller c =
    let skipped = c.skips.ensures.yes c.if-not-skips.false in
    goes_forward c.args.log.now c.loop-answer.self.reader c.next-answer.new.self.reader c.next-answer.result c.next-answer.ensures.reads (sym c.next-answer.ensures.in_hand ∙ skipped.0) c.loop-answer.self.going_on

pub returns-then-not-skips-clause-reads : goal.returns-then-not-skips-clause-reads
returns-then-not-skips-clause-reads c =
    c.loop-answer.invariant c.next-answer.new.self.reader c.next-answer.result
    (here c.next-answer.ensures.reads (λ is. c.skips.ensures.no c.if-not-skips.true (c.next-answer.ensures.in_hand ∙ is)))
