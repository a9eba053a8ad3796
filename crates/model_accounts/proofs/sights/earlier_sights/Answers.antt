use Rattle.model_accounts.proofs.sights.earlier_sights.Goals as goal
use Rattle.model_accounts.proofs.Seeing.{sees_self, sees_on, last_rises, saw_earlier}

pub returns : goal.returns
returns c = record { same = sees_self; on = sees_on; rises = last_rises; saw = saw_earlier }
