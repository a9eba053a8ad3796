use Rattle.model_runs.proofs.SyncedGroups as groups
use Rattle.model_runs.proofs.laws.synced_groups_are_recovered.Goals as goal

pub returns : goal.returns
returns c = record {
  recovered = λ b kept all image k group spells there begins batches are. groups.recovered b kept all image k group spells there begins batches are.0 are.1 are.2;
  long = groups.long;
}
