use Rattle.std.proofs.Common.{◌∷◌, take, flat_map, decimal}
use Rattle.program_printing.specs.Printing.{Puts}
use Rattle.program_text.proofs.lines.put_numbers.Given as goal

-- the numbers so far are put
abbrev pub invariant-loop-number : goal.invariant-loop-number
invariant-loop-number g l = Puts g.K.Sink l.initial.printer l.initial.sink l.printer l.sink (flat_map (λ n. 32 ∷ decimal n) (take l.number-index l.numbers))
