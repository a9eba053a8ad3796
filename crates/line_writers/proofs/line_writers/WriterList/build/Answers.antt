use Rattle.std.proofs.Common.{sym, arith}
use Rattle.line_rule.proofs.Leads.{reads_as}
use Rattle.line_rule.specs.Rule.{asks_picked}
use Rattle.line_writers.proofs.line_writers.WriterList.build.Goals as goal

pub load-requires : goal.load-requires
load-requires g c = let o = c.requires.leads in let z = c.args.self.now.sized in (c.requires.seat, omega arith, reads_as _ _ _ (λ i. asks_picked g.Request.HasGroupingItem.item_of g.Log.LogOfGroups.lawful (sym c.requires.about i)) _ c.requires.bound _ _ c.args.writer.now.seat.me c.args.writer.now.client o.0 o.1 o.2 o.3)
