-- The right that a leader of the second list was given.
use Rattle.std.specs.Prelude.{Option, None}
use Rattle.line_writers.specs.declared.second.PipelinedRole.{PipelinedRole}
use Rattle.line_writers.specs.declared.second.PipelinedRole.TheVariants.{LogLeader, MemLeader, Parallel, Done}
use Rattle.engine_groups.specs.declared.leader.Right.{Right}

abbrev pub turn_of : {Versions Seat Turn Part L R : Type 0} → PipelinedRole L (Right Versions Seat Turn Part) R
    → Option Turn
turn_of (LogLeader l) = None
turn_of (MemLeader right) = right.turn
turn_of Parallel = None
turn_of (Done p) = None
