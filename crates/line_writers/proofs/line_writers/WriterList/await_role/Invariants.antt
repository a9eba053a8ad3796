use Rattle.std.proofs.Common.{Some}
use Rattle.line_writers.proofs.line_writers.WriterList.await_role.Given as goal

abbrev pub ghosts-await_alone : goal.ghosts-await_alone
ghosts-await_alone g a = record { number = a.self.now.table.shared.key.log; about = Some a.self.now.table.shared.key.about }

abbrev pub ghosts-claim : goal.ghosts-claim
ghosts-claim g a = record { number = a.self.now.table.shared.key.log; about = Some a.self.now.table.shared.key.about }

abbrev pub ghosts-await_reply : goal.ghosts-await_reply
ghosts-await_reply g a = record { number = a.self.now.table.shared.key.log; about = Some a.self.now.table.shared.key.about }
