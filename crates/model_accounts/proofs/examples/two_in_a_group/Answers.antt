use Rattle.model_accounts.proofs.Pair as pair
use Rattle.model_accounts.proofs.examples.two_in_a_group.Goals as goal

pub returns : goal.returns
returns c = record { closing = pair.closing; own_end = pair.own_end }
