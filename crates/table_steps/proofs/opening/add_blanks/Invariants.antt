use Rattle.std.proofs.Common.{◌≡◌, ◌++◌, replicate}
use Rattle.table_rule.specs.declared.content.Content.TheVariants.{Blank}
use Rattle.table_steps.proofs.opening.add_blanks.Given as goal

abbrev pub invariant-loop-added : goal.invariant-loop-added
invariant-loop-added g l = l.slots.items ≡ l.fn.slots.items ++ replicate l.added Blank
