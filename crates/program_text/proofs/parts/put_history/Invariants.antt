use Rattle.std.proofs.Common.{take, flat_map}
use Rattle.program_printing.specs.Printing.{Puts}
use Rattle.program_text.specs.ShownText.{entry_line}
use Rattle.program_text.proofs.parts.put_history.Given as goal

-- the lines of the batches so far are put
abbrev pub invariant-loop-at : goal.invariant-loop-at
invariant-loop-at g l = Puts g.K.Sink l.initial.printer l.initial.sink l.printer l.sink (flat_map entry_line (take l.at l.history))
