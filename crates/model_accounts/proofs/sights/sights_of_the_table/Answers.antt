use Rattle.model_accounts.proofs.Seeing.{saw_published, seen_of_all}
use Rattle.model_accounts.proofs.sights.sights_of_the_table.Goals as goal

pub returns : goal.returns
returns c = record { saw = saw_published; map = seen_of_all }
