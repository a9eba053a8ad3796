use Rattle.std.proofs.Common.{◌≡◌, ◌≤◌, vec_len, vec_capacity}
use Rattle.engine_parts.proofs.envelope.Envelope.for_all.Given as goal

abbrev pub invariant-loop-made : goal.invariant-loop-made
invariant-loop-made l = (vec_len l.all ≡ l.made) × (l.clients ≤ vec_capacity l.all)
