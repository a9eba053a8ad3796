use Rattle.std.proofs.Common.{take, flat_map}
use Rattle.std.specs.List.{enumerate_from}
use Rattle.program_printing.specs.Printing.{Puts}
use Rattle.program_text.specs.ShownText.{client_lines}
use Rattle.program_text.proofs.parts.put_clients.Given as goal

-- the sections of the clients so far are put
abbrev pub invariant-loop-before : goal.invariant-loop-before
invariant-loop-before g l = Puts g.K.Sink l.initial.printer l.initial.sink l.printer l.sink (flat_map client_lines (take l.before (enumerate_from 1 l.transcripts)))
