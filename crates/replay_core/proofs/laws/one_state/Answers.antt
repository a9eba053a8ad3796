use Rattle.replay_core.proofs.ShowsLemmas.{alike}
use Rattle.replay_core.proofs.laws.one_state.Goals as goal

pub returns : goal.returns
returns c = λ r o p s t first second. alike r o p s t first second
