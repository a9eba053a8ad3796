-- The law, by its premises.
use Rattle.run_laws.proofs.Given as law
use Rattle.run_laws.proofs.updates.updates_are_given.Goals as goal

pub returns : goal.returns
returns c = record { given = law.given_or_no_memory }
