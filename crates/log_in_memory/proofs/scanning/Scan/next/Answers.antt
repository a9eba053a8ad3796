-- Once it has ended the answer comes again.
use Rattle.std.proofs.Common.{sym}
use Rattle.log_in_memory.proofs.Finding.{answers_again}
use Rattle.log_in_memory.proofs.scanning.Scan.next.Goals as goal

pub returns-in-Some : goal.returns-in-Some
returns-in-Some c = answers_again c.args.log.now c.args.self.now c.in-Some.answer (sym c.in-Some.ensures)

pub find-requires : goal.find-requires
find-requires c = sym c.in-None.ensures
