use Rattle.std.proofs.Common.{◌≡◌, ◌+◌, ap, ◌∙◌, arith}
use mathlib.Core.Option.{none}
use Rattle.atomic_table.specs.Table.{rest}
use Rattle.line_rule.proofs.Serves.{leaves_second}
use Rattle.line_writers.proofs.line_writers.WriterList.leave_second.Goals as goal

pub compare_exchange-requires : goal.compare_exchange-requires
compare_exchange-requires g c =
    let z = c.args.self.now.sized in let q = c.requires.seat in let key : c.args.self.now.table.shared.key.clients ≡ c.args.self.now.clients = z.2 in let o = c.requires.serves in (q, omega arith, leaves_second _ _ _ _ c.args.writer.now.seat.me c.args.writer.now.client c.args.newest_member (c.args.self.now.clients + 1) o.0 o.1 o.2 o.3 o.4 o.5 none c.requires.piped o.6 o.7 (omega arith) o.8.0 o.8.1)

pub returns-clause-left : goal.returns-clause-left
returns-clause-left g c d mine g0 walk y t at slot =
    let u = c.compare_exchange.ensures.2 c.args.writer.now.client d mine g0 walk at in ((λ hit. ((u.0 hit).0, (u.0 hit).1 ∙ ap (λ l. rest l) slot)), u.1)
