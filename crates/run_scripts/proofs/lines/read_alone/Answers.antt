use Rattle.run_scripts.proofs.ScriptParts.{behind_word-no_word}
use Rattle.run_scripts.proofs.lines.read_alone.Goals as goal

pub returns-then-is_some-clause-line : goal.returns-then-is_some-clause-line
returns-then-is_some-clause-line c = behind_word-no_word _ c.args.rest (cc)
