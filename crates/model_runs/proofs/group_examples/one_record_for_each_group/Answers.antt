use Rattle.model_runs.proofs.PairOfCommits as calls
use Rattle.model_runs.proofs.group_examples.one_record_for_each_group.Goals as goal

pub returns : goal.returns
returns c = record {
  one_group = calls.one_group;
  each_alone = calls.each_alone;
  synced_unasked = calls.synced_unasked;
  asked_by_another = calls.asked_by_another;
  two_groups_in_one_record = calls.two_groups_in_one_record;
  out_of_order = calls.out_of_order;
  member_of_another_group = calls.member_of_another_group;
  out_of_turn = calls.out_of_turn;
}
