use Rattle.std.proofs.Common.{◌≡◌, length}
use Rattle.engine_parts.proofs.layout.Layout.drop_parts.Given as goal

abbrev pub invariant-loop-part : goal.invariant-loop-part
invariant-loop-part l = (l.self.parts.clients ≡ l.initial.self.parts.clients) × (l.self.numberings ≡ l.initial.self.numberings) × (l.self.batches ≡ l.initial.self.batches) × (l.self.members ≡ l.initial.self.members)

abbrev pub decreases-loop-part : goal.decreases-loop-part
decreases-loop-part l = length l.self.parts.parts
