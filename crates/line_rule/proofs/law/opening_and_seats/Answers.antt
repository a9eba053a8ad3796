use Rattle.std.proofs.Common.{refl}
use Rattle.line_rule.proofs.Opens.{opens_is, splits_first_is, joins_is}
use Rattle.line_rule.specs.Before.{slots_at_opening}
use Rattle.line_rule.proofs.law.opening_and_seats.Goals as goal

pub returns-clause-open : goal.returns-clause-open
returns-clause-open g a z words l right few (wide, first, second) stood serves = opens_is _ z.clients words (slots_at_opening z.clients l right) l right few wide (first, second) refl stood serves (λ _. refl)

pub returns-clause-split : goal.returns-clause-split
returns-clause-split g a z now id k v lo is = splits_first_is _ z.clients now id k v lo is

pub returns-clause-join : goal.returns-clause-join
returns-clause-join g a z now id other v w = joins_is _ z.clients now id other v w
