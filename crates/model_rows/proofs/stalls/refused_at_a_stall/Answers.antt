use Rattle.model_rows.proofs.AtStalls.{by_the_leader, by_itself, behind_a_wait, not_by_another, not_other_numbers, not_known_before, not_plain}
use Rattle.model_rows.proofs.stalls.refused_at_a_stall.Goals as goal

pub returns : goal.returns
returns c = record {
  by_the_leader = by_the_leader;
  by_itself = by_itself;
  slowed = behind_a_wait;
  not_by_another = not_by_another;
  not_other_numbers = not_other_numbers;
  not_known_before = not_known_before;
  not_plain = not_plain;
}
