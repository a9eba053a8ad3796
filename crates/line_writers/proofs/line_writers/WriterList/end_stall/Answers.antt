use Rattle.std.proofs.Common.{◌++◌, refl, arith}
use mathlib.Core.Option.{none}
use Rattle.line_rule.proofs.Stalls.{ends_stall}
use Rattle.line_writers.specs.Roles.{lead_with_group}
use Rattle.line_writers.specs.Seats.{answers_told}
use Rattle.line_writers.proofs.line_writers.WriterList.end_stall.Goals as goal

pub compare_exchange-requires : goal.compare_exchange-requires
compare_exchange-requires g c =
    let z = c.args.self.now.sized in let o = c.requires.stalled.1 in let s = o.5.2 in (
      c.requires.stalled.0.0,
      omega arith,
      ends_stall _ _ _ _ c.args.writer.now.seat.me c.args.writer.now.client _ (lead_with_group o.0 o.4 s.past (o.5.0 ++ o.3) o.1) (answers_told c.args.writer.now) none s.at refl,
    )
