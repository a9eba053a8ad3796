use Rattle.std.proofs.Common.{take, flat_map}
use Rattle.program_printing.specs.Printing.{Puts}
use Rattle.program_text.specs.ShownText.{group_line}
use Rattle.program_text.proofs.recovered.put_groups.Given as goal

-- the lines of the groups so far are put
abbrev pub invariant-loop-group : goal.invariant-loop-group
invariant-loop-group g l = Puts g.K.Sink l.initial.printer l.initial.sink l.printer l.sink (flat_map group_line (take l.group-index l.groups))
