use Rattle.std.proofs.Common.{take}
use Rattle.run_threads.specs.Jobs.{IsRoom}
use Rattle.run_threads.proofs.clients.room_for.Given as goal

abbrev pub invariant-loop-commands : goal.invariant-loop-commands
invariant-loop-commands l = IsRoom (take l.commands-index l.script) l.all.items
