use Rattle.std.proofs.Common.{Some}
use Rattle.line_writers.proofs.line_writers.WriterList.next_queued.Given as goal

abbrev pub ghosts-hold : goal.ghosts-hold
ghosts-hold g a = record { number = 0; about = Some a.self.now.table.shared.key.about }
