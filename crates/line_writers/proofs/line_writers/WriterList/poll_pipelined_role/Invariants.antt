use Rattle.std.proofs.Common.{Some}
use Rattle.line_writers.proofs.line_writers.WriterList.poll_pipelined_role.Given as goal

abbrev pub ghosts-poll_from : goal.ghosts-poll_from
ghosts-poll_from g a = record { number = a.self.now.table.shared.key.log; about = Some a.self.now.table.shared.key.about }

abbrev pub ghosts-claim : goal.ghosts-claim
ghosts-claim g a = record { number = a.self.now.table.shared.key.log; about = Some a.self.now.table.shared.key.about }

abbrev pub ghosts-poll_right : goal.ghosts-poll_right
ghosts-poll_right g a = record { number = a.self.now.table.shared.key.log; about = Some a.self.now.table.shared.key.about }

abbrev pub ghosts-poll_reply : goal.ghosts-poll_reply
ghosts-poll_reply g a = record { number = a.self.now.table.shared.key.log; about = Some a.self.now.table.shared.key.about }
