use Rattle.line_rule.proofs.Holding.{shown}
use Rattle.line_rule.proofs.law.between_steps.Goals as goal

pub returns : goal.returns
returns g c k s r = shown _ k.clients s r
