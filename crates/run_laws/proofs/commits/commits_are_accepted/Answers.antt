-- The law, by its premises.
use Rattle.run_laws.proofs.Accepted as law
use Rattle.run_laws.proofs.commits.commits_are_accepted.Goals as goal

pub returns : goal.returns
returns c = record { accepted = law.accepted_or_no_memory }
