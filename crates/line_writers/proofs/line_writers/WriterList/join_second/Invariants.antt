use Rattle.std.proofs.Common.{◌≡◌, ℕ, List}
use Rattle.line_rule.specs.declared.view.LineStage.{LineStage}
use Rattle.line_rule.specs.declared.view.Squad.{Squad}
use Rattle.line_rule.specs.declared.view.Back.TheVariants.{Parting}
use Rattle.line_rule.specs.Plays.{AtWith}
use Rattle.line_writers.proofs.line_writers.WriterList.join_second.Given as goal

abbrev pub invariant-loop : goal.invariant-loop
invariant-loop g l =
    (goal.iterator-loop g).can_next l.iterator' × (goal.iterator-loop g).is_finite l.iterator' × (l.writer.client ≡ l.fn.writer.client) × (l.writer.seat.table_id ≡ l.fn.writer.seat.table_id)
    × ((st : LineStage g.row.Request.Denot g.row.Reply.Denot) (mine : List (g.row.Request.Denot × g.row.Reply.Denot)) (s : Squad g.row.Request.Denot g.row.Reply.Denot) (b : ℕ) → AtWith l.fn.writer.client st mine (Parting s b) l.fn.writer.seat.me → (d : ℕ) × AtWith l.fn.writer.client st mine (Parting s d) l.writer.seat.me)
    × (l.writer.seat.me.1 ≡ l.fn.writer.seat.me.1)
