use Rattle.tests_clients.proofs.no_memory.script.Goals as goal

pub returns-clause-fits : goal.returns-clause-fits
returns-clause-fits c = rw c.in_ok-both.ensures.items (c.in_ok-first_commands.ensures, (c.in_ok-second_commands.ensures, tt))
