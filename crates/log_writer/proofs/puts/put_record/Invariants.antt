use Rattle.log_writer.proofs.Pieces.{IsSoFar}
use Rattle.log_writer.proofs.puts.put_record.Given as goal

abbrev pub invariant-loop-piece : goal.invariant-loop-piece
invariant-loop-piece g l = record {
  so_far : IsSoFar g.D.Disk l.number l.fn.rest l.fn.offset l.fn.disk l.disk l.rest l.piece-iterator l.end;
}
