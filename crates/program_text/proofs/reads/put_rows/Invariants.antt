use Rattle.std.proofs.Common.{◌∷◌, take, flat_map}
use Rattle.program_text.specs.ShownText.{pair_words}
use Rattle.program_printing.specs.Printing.{Puts}
use Rattle.program_text.proofs.reads.put_rows.Given as goal

-- the words so far are put
abbrev pub invariant-loop-key : goal.invariant-loop-key
invariant-loop-key g l = Puts g.K.Sink l.initial.printer l.initial.sink l.printer l.sink (flat_map (λ p. flat_map (λ w. 32 ∷ w) (pair_words p)) (take l.key-index l.key-items))
