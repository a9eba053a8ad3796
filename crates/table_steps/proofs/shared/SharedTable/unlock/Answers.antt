use Rattle.std.proofs.Common.{refl, ap, ◌∙◌, arith}
use Rattle.atomic_table.specs.Table.{rest}
use Rattle.table_rule.specs.declared.view.Opening.{Opening}
use Rattle.table_steps.proofs.Keyed.{shards_of}
use Rattle.table_rule.proofs.Locks.{unlocks}
use Rattle.table_steps.proofs.shared.SharedTable.unlock.Goals as goal

pub store-requires : goal.store-requires
store-requires g c =
    let q = c.args.self.now.sized in let o = c.requires.held in let z : Opening = c.args.self.now.table.shared.key in let e = shards_of z c.args.self.now.sizes q.2 in let x = c.exchange.ensures.3 in let lt = c.requires.seat.1 in (
      c.exchange.ensures.0 ∙ c.requires.seat.0,
      omega arith,
      unlocks g.ShardTree.Versioned.versions g.NodeList.Versioned.versions z _ _ c.exchange.new.seat.me c.args.who.now.number c.args.shard o.0 o.1 (g.ShardTree.Versioned.versions c.args.tree) c.args.tree (rest c.args.who.now.seat.me.1) (ap (λ m. m.0) x ∙ o.3) (ap (λ m. m.1) x) refl,
    )
