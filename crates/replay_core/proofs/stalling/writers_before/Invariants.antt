use Rattle.std.proofs.Common.{◌≡◌, ◌+◌, drop}
use Rattle.replay_core.specs.Leads.{writers_before}
use Rattle.replay_core.proofs.stalling.writers_before.Given as goal

abbrev pub invariant-loop-writer : goal.invariant-loop-writer
invariant-loop-writer l = (l.before ≡ l.writer-index) × (writers_before l.client l.writers ≡ l.writer-index + writers_before l.client (drop l.writer-index l.writers))
