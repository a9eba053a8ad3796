use Rattle.std.proofs.Common.{◌≡◌, arith}
use mathlib.Core.Option.{none}
use Rattle.line_rule.proofs.Marks.{marks}
use Rattle.line_writers.proofs.line_writers.WriterList.mark.Goals as goal

pub compare_exchange-requires : goal.compare_exchange-requires
compare_exchange-requires g c =
    let z = c.args.self.now.sized in let q = c.requires.seat in let key : c.args.self.now.table.shared.key.clients ≡ c.args.self.now.clients = z.2 in let o = c.requires.leads in (q, omega arith, marks _ _ g.Given.PickedGiven.given _ _ c.args.writer.now.seat.me c.args.writer.now.client c.args.newest_member o.0 o.1 none o.2 o.3 o.4)

pub returns-clause-marked : goal.returns-clause-marked
returns-clause-marked g c lead mine at =
    c.compare_exchange.ensures.2 c.args.writer.now.client lead mine at
