use Rattle.run_scripts.proofs.family_lines.read_from_family.Goals as goal

pub returns-then-eq-2-clause-command : goal.returns-then-eq-2-clause-command
returns-then-eq-2-clause-command c = c.read_many_in.ensures.command c.args.language
