use Rattle.std.proofs.Common.{ℕ, refl, sym, arith}
use Rattle.line_rule.specs.Rule.{kept_picked}
use Rattle.line_rule.proofs.Looks.{looks_beside_as}
use Rattle.line_writers.proofs.Same.{same_seat, same_writer}
use Rattle.line_writers.proofs.line_writers.WriterList.poll_reply.Goals as goal

pub load-state-requires : goal.load-state-requires
load-state-requires g c =
    let w = c.state_word.ensures in let r = c.requires.helps in let k : ℕ = c.args.writer.now.client in let z = c.args.self.now.sized in let q = c.requires.seat in (
      c.requires.seat.0,
      omega arith,
      looks_beside_as _ _ _ (λ i. kept_picked g.Log.LogOfGroups.kept (sym c.requires.about i)) _ _ c.args.writer.now.seat.me k c.state_word.result r.0 r.1 c.state_word.ensures r.2 r.3,
    )

pub returns-clause-none : goal.returns-clause-none
returns-clause-none g c is =
    let r = c.requires.helps in let e = c.load-state.ensures in
    same_writer _ c.args.writer.now refl refl
    (same_seat c.load-state.new.seat c.args.writer.now.seat e.0 e.1 ((e.2 c.args.writer.now.client r.0 r.1 r.2).1 c.if-state-eq-STATE_DONE.false))
