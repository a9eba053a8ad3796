use Rattle.std.proofs.Common.{length, ap, arith}
use Rattle.std.proofs.lemmas.List.{length-map}
use Rattle.run_threads.specs.Answers.{accepted_in}
use Rattle.run_threads.proofs.run.history_and_map.Goals as goal

pub history_of-requires : goal.history_of-requires
history_of-requires c = omega (arith, ap length c.in_ok-lists.ensures, length-map c.args.batches.items accepted_in)

pub returns-clause-history : goal.returns-clause-history
returns-clause-history c start entries make = c.in_ok-history.ensures start entries (rw c.in_ok-lists.ensures make)

pub returns-clause-state : goal.returns-clause-state
returns-clause-state c start entries make = c.in_ok-state.ensures entries (c.in_ok-history.ensures start entries (rw c.in_ok-lists.ensures make))
