use Rattle.std.proofs.Common.{arith}
use mathlib.Core.Option.{none}
use Rattle.line_rule.proofs.Leaves.{leaves}
use Rattle.line_writers.proofs.line_writers.WriterList.leave.Goals as goal

pub compare_exchange-requires : goal.compare_exchange-requires
compare_exchange-requires g c =
    let o = c.requires.ready in let z = c.args.self.now.sized in (
      c.requires.seat,
      omega arith,
      leaves _ _ _ _ c.args.writer.now.seat.me c.args.writer.now.client c.args.newest_member o.0 o.1 o.2 o.3 o.4 none o.5 o.8.0 o.9 o.6 o.7 o.8.2 o.8.3,
    )

pub returns-clause-left : goal.returns-clause-left
returns-clause-left g c lead mine gs p l at group slot = c.compare_exchange.ensures.2 c.args.writer.now.client lead mine gs p l at group slot
