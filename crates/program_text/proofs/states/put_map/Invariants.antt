use Rattle.std.proofs.Common.{◌≡◌, ℕ, List, ◌++◌, flat_map}
use Rattle.program_printing.specs.Printing.{Puts}
use Rattle.program_text.specs.ShownText.{plain, pair_line}
use Rattle.program_text.proofs.states.put_map.Given as goal

-- with the lines of the pairs that are left those of all pairs would be put
abbrev pub invariant-loop-family : goal.invariant-loop-family
invariant-loop-family g l = (done : List ℕ) × (done ++ flat_map (pair_line plain) l.family-iterator ≡ flat_map (pair_line plain) l.map)
    × Puts g.K.Sink l.initial.printer l.initial.sink l.printer l.sink done
