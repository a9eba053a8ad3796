use Rattle.std.proofs.Common.{◌≡◌, length}
use Rattle.std.specs.List.{AllByRecursion}
use Rattle.run_threads.specs.Jobs.{AreNone}
use Rattle.run_threads.proofs.clients.batches_for.Given as goal

abbrev pub invariant-loop-commands : goal.invariant-loop-commands
invariant-loop-commands l = record {
  count : length l.all.items ≡ l.commands-index;
  none : AllByRecursion AreNone l.all.items;
}
