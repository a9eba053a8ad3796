use Rattle.std.proofs.Common.{Some}
use Rattle.line_writers.proofs.line_writers.WriterList.group.Given as goal

abbrev pub ghosts-group_from : goal.ghosts-group_from
ghosts-group_from g a = record { number = a.self.now.group_bytes; about = Some a.self.now.table.shared.key.about }
