use Rattle.std.proofs.Common.{refl, ap, ◌∙◌, arith}
use Rattle.atomic_table.specs.Table.{rest}
use Rattle.table_rule.specs.declared.view.Opening.{Opening}
use Rattle.table_steps.proofs.Keyed.{shards_of}
use Rattle.table_rule.proofs.Locks.{adds}
use Rattle.table_steps.proofs.shared.SharedTable.give_back.Goals as goal

pub store-requires : goal.store-requires
store-requires g c =
    let q = c.args.self.now.sized in let o = c.requires.held in let z : Opening = c.args.self.now.table.shared.key in let e = shards_of z c.args.self.now.sizes q.2 in let x = c.exchange.ensures.3 in let lt = c.requires.seat.1 in (
      c.exchange.ensures.0 ∙ c.requires.seat.0,
      omega arith,
      adds g.ShardTree.Versioned.versions g.NodeList.Versioned.versions z _ _ c.exchange.new.seat.me c.args.who.now.number c.args.shard o.0 o.1 o.2 g.Plan.VersionPlan.versions o.3 o.4 c.args.tree (rest c.args.who.now.seat.me.1) (ap (λ m. m.0) x ∙ o.6) (ap (λ m. m.1) x) o.8 c.requires.shard,
    )

pub returns-clause-seat : goal.returns-clause-seat
returns-clause-seat g c =
    let o = c.requires.held in let x = c.exchange.ensures.3 in
    let t = c.store.ensures.2 c.args.who.now.number c.args.self.now.table.shared.key o.0 o.1 o.2 o.3 o.4 (ap (λ m. m.0) x ∙ o.6) in
    (c.store.ensures.0 ∙ c.exchange.ensures.0, refl, t.1 ∙ ap (λ m. rest m.1) x)
