use Rattle.engine_stage_laws.proofs.Parts.{parts_members, parts_versions}
use Rattle.engine_stage_laws.proofs.served.parts_of_a_group.Goals as goal

pub returns : goal.returns
returns c = record {
  versions = parts_versions;
  members = parts_members;
}
