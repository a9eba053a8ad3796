use Rattle.model_rows.proofs.OneFamily.{all_after, found_default, within_default}
use Rattle.model_rows.proofs.one_family.maps_without_families.Goals as goal

pub returns : goal.returns
returns c = record { after = all_after; found = found_default; between = within_default }
