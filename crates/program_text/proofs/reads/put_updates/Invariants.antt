use Rattle.std.proofs.Common.{◌∷◌, take, flat_map}
use Rattle.model_base.specs.Text.{hex}
use Rattle.program_printing.specs.Printing.{Puts}
use Rattle.program_text.proofs.reads.put_updates.Given as goal

-- the words so far are put
abbrev pub invariant-loop-record : goal.invariant-loop-record
invariant-loop-record g l = Puts g.K.Sink l.initial.printer l.initial.sink l.printer l.sink (flat_map (λ r. 32 ∷ hex r) (take l.record-index l.record-items))
