use Rattle.std.proofs.Common.{◌≡◌, ℕ, List, ◌++◌, length}
use Rattle.model_base.specs.Text.{hex}
use Rattle.program_printing.specs.Printing.{Puts}
use Rattle.program_text.proofs.lines.put_hex.Given as goal

-- with the digits of the bytes that are left those of all bytes would be put
abbrev pub invariant-loop-rest : goal.invariant-loop-rest
invariant-loop-rest g l = (done : List ℕ) × (done ++ hex l.rest ≡ hex l.bytes) × Puts g.K.Sink l.initial.printer l.initial.sink l.printer l.sink done

abbrev pub decreases-loop-rest : goal.decreases-loop-rest
decreases-loop-rest g l = length l.rest
