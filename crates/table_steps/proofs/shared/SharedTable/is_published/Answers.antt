use Rattle.std.proofs.Common.{◌≡◌, sym, ap, ◌∙◌, arith}
use Rattle.std.proofs.lemmas.Bool.{eqb-false}
use Rattle.table_steps.specs.declared.sizes.Sizes.{Sizes}
use Rattle.table_rule.specs.declared.view.Opening.{Opening}
use Rattle.table_steps.proofs.Keyed.{same_seat, shards_of}
use Rattle.table_rule.proofs.Launching.{awaits}
use Rattle.table_steps.proofs.shared.SharedTable.is_published.Goals as goal

pub load-found-requires : goal.load-found-requires
load-found-requires g c = let q = c.args.self.now.sized in let z : Opening = c.args.self.now.table.shared.key in let e = shards_of z c.args.self.now.sizes q.2 in let cl : z.clients ≡ c.args.self.now.sizes.clients = ap (λ (s : Sizes). s.clients) q.2 in let o = c.requires.launched in
    (c.requires.seat, omega arith, awaits g.ShardTree.Versioned.versions g.NodeList.Versioned.versions z _ _ c.args.turn.now.seat.me _ o.0 o.1 e o.2)

pub returns-clause-not_yet : goal.returns-clause-not_yet
returns-clause-not_yet g c is_false =
    let o = c.requires.launched in let z : Opening = c.args.self.now.table.shared.key in let e = c.load-found.ensures in
    ap (λ s. record c.args.turn.now { seat = s }) (same_seat c.load-found.new.seat c.args.turn.now.seat e.0 e.1 ((e.2 z o.0 o.1 o.2).1 (λ is. eqb-false _ _ is_false (is ∙ sym o.3))))
