use Rattle.log_salvage_laws.proofs.OneList.{one_list}
use Rattle.log_salvage_laws.proofs.what_is_kept_is_one_list.Goals as goal

pub returns : goal.returns
returns c = one_list
