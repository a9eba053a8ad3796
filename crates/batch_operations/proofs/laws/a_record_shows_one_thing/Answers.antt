use Rattle.batch_operations.proofs.OneShown.{one_shown}
use Rattle.batch_operations.proofs.SomeShown.{some_shown}
use Rattle.batch_operations.proofs.laws.a_record_shows_one_thing.Goals as goal

pub returns : goal.returns
returns c = record { some = some_shown; at_most_one = one_shown }
