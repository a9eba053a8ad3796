-- The examples, by their premises.
use Rattle.crash_laws.proofs.Wrong.{not_all_lost, no_gap, not_twice, no_hole}
use Rattle.crash_laws.proofs.Killed.{not_lost, not_one_of_two}
use Rattle.crash_laws.proofs.wrong_next_calls.Goals as goal

pub returns : goal.returns
returns g c = record {
  all_lost = λ call image group groups are has left to. not_all_lost call image group groups are has left to;
  gap = λ call image next first second groups kept are differ none to found. no_gap call image next none to kept first second groups are differ found;
  twice = λ call image next group kept are fault none to found. not_twice call image next none to kept group are fault found;
  hole = λ last earlier a b c kept differ one. no_hole last earlier a b c kept differ one;
  answered_lost = λ call i calls first knew records file next there known killed to same.
      not_lost g.met.D.Disk.is_disk call i calls first knew records file next known killed to same;
  unsynced_lost = λ call n file next first second groups are some killed to same.
      not_one_of_two g.met.D.Disk.is_disk call n file next first second groups are some killed to same;
}
