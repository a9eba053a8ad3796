use Rattle.std.proofs.Common.{sym, ◌∙◌}
use Rattle.replay_core.proofs.ShowsLemmas.{mirrors}
use Rattle.replay_core.proofs.state.State.logged.Goals as goal

pub returns : goal.returns
returns c = λ o s shown. c.deref.ensures.value ∙ sym (mirrors c.args.self.now o s shown).groups
