use Rattle.std.proofs.Common.{Some}
use Rattle.line_writers.proofs.line_writers.WriterList.poll_link.Given as goal

abbrev pub ghosts-poll_link_from : goal.ghosts-poll_link_from
ghosts-poll_link_from g a = record { number = a.self.now.table.shared.key.log; about = Some a.self.now.table.shared.key.about }
