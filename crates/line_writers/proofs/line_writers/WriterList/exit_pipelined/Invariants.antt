use Rattle.std.proofs.Common.{Some}
use Rattle.line_rule.specs.Laws.{given_runs}
use Rattle.line_writers.proofs.Views.{seen_in_first, handled_in_first}
use Rattle.line_writers.proofs.line_writers.WriterList.exit_pipelined.Given as goal

abbrev pub ghosts-exit_from-Given-PickedGiven : goal.ghosts-exit_from-Given-PickedGiven
ghosts-exit_from-Given-PickedGiven g a = record { given = given_runs g.Reply.GivesRun.run_of (seen_in_first a.writer.now.seat.me.0) }

abbrev pub ghosts-exit_from-ForRight-PickedRight : goal.ghosts-exit_from-ForRight-PickedRight
ghosts-exit_from-ForRight-PickedRight g a = record { about = Some a.self.now.table.shared.key.about; given = given_runs g.Reply.GivesRun.run_of (handled_in_first a.writer.now.seat.me.0 a.replies.now.items) }
