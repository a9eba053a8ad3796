use Rattle.std.proofs.Common.{ℕ, List, option_copied, sym, subst, rules}
use Rattle.model_base.specs.Map.{key_at}
use Rattle.model_base.specs.Calls as calls
use Rattle.model_base.specs.Script as model
use Rattle.run_scripts.specs.ScriptWords.{parts_of}
use Rattle.run_scripts.specs.ScriptLines.{line_said, Reads}
use Rattle.run_scripts.proofs.Families.{read_in, not_in}
use Rattle.run_scripts.proofs.family_lines.read_get_in.Goals as goal

abbrev read : ℕ → List (List ℕ) → model.Read model.Line
read f = model.one_word (λ k. model.command (calls.get (key_at f k)))

pub returns-in_err-family-clause-line : goal.returns-in_err-family-clause-line
returns-in_err-family-clause-line c =
    subst (λ r. Reads line_said r c.from_residual.result) (sym (not_in read (parts_of 32 (option_copied c.args.rest)) (search rules))) (search rules)

pub returns-clause-line : goal.returns-clause-line
returns-clause-line c =
    let is = read_in read (parts_of 32 (option_copied c.args.rest)) (parts_of 32 (option_copied c.in_ok-family.rest)) c.in_ok-family.family (search rules) in
    subst (λ r. Reads line_said r c.read_get.result) (sym is) c.read_get.ensures.line
