use Rattle.std.proofs.Common.{◌≡◌}
use Rattle.line_writers.specs.Seats.{Belongs, IsEntering, answers_told}
use Rattle.line_writers.proofs.line_writers.WriterList.try_link.Given as goal

abbrev pub invariant-loop : goal.invariant-loop
invariant-loop g l =
    (goal.iterator-loop g).can_next l.iterator' × (goal.iterator-loop g).is_finite l.iterator' × (l.writer.client ≡ l.fn.writer.client) × Belongs l.fn.self l.writer
    × IsEntering l.fn.request (answers_told l.writer) l.writer × (answers_told l.writer ≡ answers_told l.fn.writer)
