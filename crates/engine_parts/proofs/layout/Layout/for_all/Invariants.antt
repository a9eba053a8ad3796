use Rattle.std.proofs.Common.{◌≡◌, ◌≤◌, vec_len, vec_capacity}
use Rattle.engine_parts.specs.Layout.{AreRoomy}
use Rattle.engine_parts.proofs.layout.Layout.for_all.Given as goal

abbrev pub invariant-loop-made : goal.invariant-loop-made
invariant-loop-made l = (vec_len l.all ≡ l.made) × (l.clients ≤ vec_capacity l.all) × AreRoomy l.clients l.all.items
