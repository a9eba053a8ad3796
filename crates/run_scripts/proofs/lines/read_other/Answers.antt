use Rattle.run_scripts.proofs.lines.read_other.Goals as goal

pub returns-then-eq-clause-command : goal.returns-then-eq-clause-command
returns-then-eq-clause-command c = c.read_many.ensures.command c.args.language
