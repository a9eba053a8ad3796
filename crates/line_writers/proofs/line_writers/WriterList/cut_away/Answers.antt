use Rattle.line_rule.specs.Chain.{older_at}
use Rattle.std.proofs.Common.{◌≡◌, ℕ, sym, ap, arith, ◌∙◌}
use mathlib.Core.Option.{some}
use Rattle.line_writers.proofs.Ways.{cuts_as}
use Rattle.line_writers.proofs.line_writers.WriterList.cut_away.Goals as goal

pub store-requires : goal.store-requires
store-requires g c =
    let w = c.older_word.ensures in let p = c.pack.ensures in let z = c.args.self.now.sized in let q = c.requires.seat in let key : c.args.self.now.table.shared.key.clients ≡ c.args.self.now.clients = z.2 in let o = c.requires.next in let k : ℕ = c.args.next in let by : o.3.by ≡ k = o.5 in let code : o.3.code ≡ c.args.code = o.6 in (q.0, omega arith, cuts_as _ _ (some g.Given.PickedGiven.given) _ _ c.args.writer.now.seat.me c.args.writer.now.client c.older_word.result c.pack.result o.0 o.1 o.2 o.3 o.4.0 o.4.1 (c.older_word.ensures ∙ ap older_at (sym by)) (omega arith) o.7)

pub returns-clause-cut : goal.returns-clause-cut
returns-clause-cut g c lead mine pre x is by =
    c.store.ensures.2 c.args.writer.now.client lead mine pre x is.0 is.1 (c.older_word.ensures ∙ ap older_at (sym by))
