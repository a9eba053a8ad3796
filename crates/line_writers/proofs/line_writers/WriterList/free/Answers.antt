use Rattle.std.proofs.Common.{◌≡◌, arith}
use mathlib.Core.Option.{none}
use Rattle.line_rule.proofs.Marks.{frees}
use Rattle.line_writers.proofs.line_writers.WriterList.free.Goals as goal

pub compare_exchange-requires : goal.compare_exchange-requires
compare_exchange-requires g c =
    let z = c.args.self.now.sized in let q = c.requires.seat in let key : c.args.self.now.table.shared.key.clients ≡ c.args.self.now.clients = z.2 in let o = c.requires.ready in (q, omega arith, frees _ _ _ _ c.args.writer.now.seat.me c.args.writer.now.client o.0 o.1 o.2 o.3 o.4 o.5 o.6 none o.7 o.8 o.9 o.10 o.11 o.12)

pub returns-clause-freed : goal.returns-clause-freed
returns-clause-freed g c lead mine b gs p l t at group slot =
    c.compare_exchange.ensures.2 c.args.writer.now.client lead mine b gs p l t at group slot
