use Rattle.std.proofs.Common.{◌-◌, ◌^◌}
use Rattle.log_reader.specs.declared.reader.Next.{Next}
use Rattle.log_reader.specs.Reader.{Reader}
use Rattle.log_in_memory.specs.Readings.{ReadsSince}
use Rattle.log_in_memory.proofs.reading.Reading.next_since.Given as goal

-- what is read from here on is what is read from the start on
abbrev pub invariant-loop-answer : goal.invariant-loop-answer
invariant-loop-answer l = (new : Reader) (answer : Next) → ReadsSince l.fn.log l.fn.since l.self.reader new answer → ReadsSince l.fn.log l.fn.since l.fn.self.reader new answer

abbrev pub decreases-loop-answer : goal.decreases-loop-answer
decreases-loop-answer l = 2 ^ 63 - l.self.reader.place
