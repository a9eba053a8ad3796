use Rattle.std.proofs.Common.{refl}
use Rattle.std.specs.Fmt.{digits}
use Rattle.model_rows.proofs.scripts.whole_scripts.Goals as goal

pub returns-clause-reads : goal.returns-clause-reads
unfolding digits
returns-clause-reads c = refl

pub returns-clause-tokens : goal.returns-clause-tokens
unfolding digits
returns-clause-tokens c = refl

pub returns-clause-flags : goal.returns-clause-flags
unfolding digits
returns-clause-flags c = refl

pub returns-clause-two_clients : goal.returns-clause-two_clients
unfolding digits
returns-clause-two_clients c = refl

pub returns-clause-no_key : goal.returns-clause-no_key
unfolding digits
returns-clause-no_key c = refl

pub returns-clause-flags_turned : goal.returns-clause-flags_turned
unfolding digits
returns-clause-flags_turned c = refl

pub returns-clause-no_rate : goal.returns-clause-no_rate
unfolding digits
returns-clause-no_rate c = refl

pub returns-clause-too_many_clients : goal.returns-clause-too_many_clients
unfolding digits
returns-clause-too_many_clients c = refl

pub returns-clause-most_clients : goal.returns-clause-most_clients
unfolding digits
returns-clause-most_clients c = refl
