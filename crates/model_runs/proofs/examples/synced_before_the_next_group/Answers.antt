use Rattle.model_runs.proofs.TwoGroups as images
use Rattle.model_runs.proofs.examples.synced_before_the_next_group.Goals as goal

pub returns : goal.returns
returns c = record {
  torn_before = images.torn_before;
  torn_after = images.torn_after;
  nothing_before = images.nothing_before;
  reached_before = images.reached_before;
  synced_at_the_end = images.synced_at_the_end;
  synced_late_over_old_bytes = images.synced_late_over_old_bytes;
}
