use Rattle.std.proofs.Common.{◌≡◌, ◌-◌, ◌∷◌, replicate}
use Rattle.line_rule.specs.declared.content.LineSlot.TheVariants.{Empty, TheLog}
use Rattle.line_writers.proofs.Contents.{at_start}
use Rattle.line_writers.proofs.line_writers.WriterList.unmade.Given as goal

abbrev pub invariant-loop-done : goal.invariant-loop-done
invariant-loop-done g l = (x : g.row.Log.Denot) × (y : g.row.Right.Denot) × (l.fn.slots.items ≡ at_start l.clients x y) × (l.slots.items ≡ TheLog x ∷ replicate (l.clients - l.done) Empty)
