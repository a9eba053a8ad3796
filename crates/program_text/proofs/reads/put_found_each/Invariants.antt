use Rattle.std.proofs.Common.{◌∷◌, take, flat_map}
use Rattle.model_base.specs.Text.{found_word}
use Rattle.base_bytes.specs.Answers.{found_value}
use Rattle.program_printing.specs.Printing.{Puts}
use Rattle.program_text.proofs.reads.put_found_each.Given as goal

-- the words so far are put
abbrev pub invariant-loop-found : goal.invariant-loop-found
invariant-loop-found g l = Puts g.K.Sink l.initial.printer l.initial.sink l.printer l.sink (flat_map (λ v. 32 ∷ found_word (found_value v)) (take l.found-index l.found-items))
