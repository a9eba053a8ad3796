-- The law, by its premises.
use Rattle.crash_laws.proofs.Answered.{knew_by_then}
use Rattle.crash_laws.proofs.FoundAgain.{found_again}
use Rattle.crash_laws.proofs.answered_batches_are_acknowledged.Goals as goal

pub returns : goal.returns
returns g c = record {
  each = λ settings trace fault client commands calls attempts first last records legal was.
      knew_by_then settings trace fault client commands calls attempts first last records legal was;
  found = λ call i calls first last records at was. found_again call i calls first last records at was;
}
