use Rattle.std.proofs.Common.{◌≡◌, arith}
use Rattle.line_rule.proofs.Passes.{aims_second}
use Rattle.line_writers.proofs.line_writers.WriterList.aim_second.Goals as goal

pub store-requires : goal.store-requires
store-requires g c =
    let w = c.older_word.ensures in let p = c.pack.ensures in let z = c.args.self.now.sized in let q = c.requires.seat in let key : c.args.self.now.table.shared.key.clients ≡ c.args.self.now.clients = z.2 in let o = c.requires.parted in let code : o.2.own.code ≡ c.args.code = o.5 in (q.0, omega arith, aims_second _ _ _ _ c.args.writer.now.seat.me c.args.writer.now.client c.older_word.result c.args.older c.pack.result o.0 o.1 o.2 o.3 o.4 c.older_word.ensures (omega arith))

pub returns-clause-aimed : goal.returns-clause-aimed
returns-clause-aimed g c st mine g0 b at code =
    c.store.ensures.2 c.args.writer.now.client st mine g0 b c.args.older at (let e : g0.own.code ≡ c.args.code = code in omega arith)
