use Rattle.std.proofs.Common.{ℕ, ◌∷◌, sym, ap, ◌∙◌, subst, arith}
use Rattle.atomic_table.specs.Table.{rest}
use Rattle.line_rule.specs.declared.content.LineSlot.TheVariants.{Empty, Asked}
use Rattle.line_rule.specs.declared.view.LineStage.TheVariants.{Idle}
use Rattle.line_rule.specs.Plays.{At}
use Rattle.line_rule.proofs.Chains.{fronted}
use Rattle.line_rule.proofs.Stalls.{withdraws}
use Rattle.line_writers.specs.Seats.{told_in_first, answers_told}
use Rattle.line_writers.proofs.Tops.{asked_in, asked_at}
use Rattle.line_writers.proofs.line_writers.WriterList.withdraw.Goals as goal

pub exchange-requires : goal.exchange-requires
exchange-requires g c = let b = c.requires.entering.0 in let e = c.requires.entering.1 in (b.0, (Asked e.0, fronted c.args.writer.now.seat.me.1 c.args.writer.now.client (Asked e.0) _ e.1.2))

pub load-requires : goal.load-requires
load-requires g c =
    let w = c.state_word.ensures in let b = c.requires.entering.0 in let low = b.2 in let e = c.requires.entering.1 in let k : ℕ = c.args.writer.now.client in let x = c.exchange.ensures.3 in let z = c.args.self.now.sized in (
      c.exchange.ensures.0 ∙ b.0,
      omega arith,
      withdraws _ _ _ _ c.exchange.new.seat.me k c.state_word.result e.1.0 (answers_told c.args.writer.now) (ap (λ m. m.0) x ∙ e.1.1) (ap (λ m. m.1) x ∙ ap (λ l. (k, Empty) ∷ rest l) e.1.2),
    )

pub returns-clause-out : goal.returns-clause-out
returns-clause-out g c =
    let e = c.requires.entering.1 in let k : ℕ = c.args.writer.now.client in let x = c.exchange.ensures.3 in
    let i = c.load.ensures.2 k e.1.0 (answers_told c.args.writer.now) (ap (λ m. m.0) x ∙ e.1.1) in
    let told = ap told_in_first i.0 in
    ((subst (λ mine. At k Idle mine c.load.new.seat.me) (sym told) i.0, i.1), told)

pub returns-clause-request : goal.returns-clause-request
returns-clause-request g c q e =
    sym (ap (asked_at {Reply = g.row.Reply.Denot} {Log = g.row.Log.Denot} {Right = g.row.Right.Denot} q) (sym e.2 ∙ c.exchange.ensures.2) ∙ ap (asked_in {Reply = g.row.Reply.Denot} {Log = g.row.Log.Denot} {Right = g.row.Right.Denot} q) c.in-Asked.is)
