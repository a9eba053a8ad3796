use Rattle.log_text.proofs.Laid.{IsSoFar}
use Rattle.log_text.proofs.laying.lay_record.Given as goal

abbrev pub invariant-loop-piece : goal.invariant-loop-piece
invariant-loop-piece l = record {
  so_far : IsSoFar l.number l.bytes l.fn.offset l.fn.buffer l.buffer l.piece-iterator l.end;
}
