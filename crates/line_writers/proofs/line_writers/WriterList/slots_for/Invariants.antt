use Rattle.std.proofs.Common.{◌≡◌, ◌+◌, ◌<◌, ◌∷◌, replicate, vec_capacity, vec_len}
use Rattle.line_rule.specs.declared.content.LineSlot.TheVariants.{Empty, TheLog}
use Rattle.line_writers.proofs.line_writers.WriterList.slots_for.Given as goal

abbrev pub invariant-loop-made : goal.invariant-loop-made
invariant-loop-made g l = (l.slots.items ≡ TheLog l.fn.log ∷ replicate l.made Empty) × (vec_len l.slots ≡ l.made + 1) × (l.clients + 1 < vec_capacity l.slots)
