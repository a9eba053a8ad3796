use Rattle.std.proofs.Common.{not, ap, ◌∙◌}
use Rattle.model_base.specs.Calls.{many}
use Rattle.model_base.specs.Script.{command}
use Rattle.run_scripts.proofs.Families.{default_said}
use Rattle.run_scripts.proofs.lines.read_many.Goals as goal

pub returns-clause-line : goal.returns-clause-line
returns-clause-line c = default_said (λ keys. command (many keys)) c.args.rest c.in_ok-keys.keys (c.is_none.ensures ∙ ap not c.if-is_none.false) c.in_ok-keys.ensures.keys
