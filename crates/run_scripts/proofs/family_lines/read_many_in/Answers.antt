use Rattle.std.proofs.Common.{not, ap, ◌∙◌}
use Rattle.model_base.specs.Calls.{many}
use Rattle.model_base.specs.Script.{command}
use Rattle.run_scripts.proofs.Families.{family_said}
use Rattle.run_scripts.proofs.family_lines.read_many_in.Goals as goal

pub returns-clause-line : goal.returns-clause-line
returns-clause-line c = family_said (λ keys. command (many keys)) c.args.rest c.in_ok-keys.keys (c.is_none.ensures ∙ ap not c.if-is_none.false) c.in_ok-keys.ensures.keys
