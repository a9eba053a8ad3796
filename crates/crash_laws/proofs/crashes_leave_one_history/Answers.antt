-- The laws, by their premises.
use Rattle.crash_laws.proofs.Turns.{one_history, all_stays}
use Rattle.crash_laws.proofs.crashes_leave_one_history.Goals as goal

pub returns : goal.returns
returns g c = record {
  one = λ last earlier next turn to. one_history earlier last next turn to;
  all_stays = λ last earlier next turn safe to. all_stays earlier last next turn safe to;
}
