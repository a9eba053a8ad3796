use Rattle.list_call.proofs.PlainState.{plain_state}
use Rattle.list_call.proofs.laws.plain_state_is_recovered_text.Goals as goal

pub returns : goal.returns
returns c = λ r. plain_state r
