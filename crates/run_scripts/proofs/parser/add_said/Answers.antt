use Rattle.run_scripts.proofs.parser.add_said.Goals as goal

pub returns-in-Command-clause-commands : goal.returns-in-Command-clause-commands
returns-in-Command-clause-commands c =
    λ has. c.add_command.ensures.commands c.args.language has (rw c.in-Command.is at c.in_ok-number.ensures.command)

pub returns-in-Many-clause-commands : goal.returns-in-Many-clause-commands
returns-in-Many-clause-commands c =
    λ has. c.add_command-in-Many.ensures.commands c.args.language has (rw (c.in-Many.is, ← c.keys-keys.ensures) at c.in_ok-number.ensures.command)
