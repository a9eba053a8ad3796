use Rattle.std.proofs.Common.{◌≡◌, ℕ, ◌∷◌, ap, ◌∙◌, subst, arith}
use Rattle.atomic_table.specs.Table.{rest}
use Rattle.table_rule.specs.declared.view.Opening.{Opening}
use Rattle.table_rule.specs.declared.content.Content.TheVariants.{Blank, Tree}
use Rattle.table_steps.specs.Seen.{Locked}
use Rattle.table_steps.proofs.Keyed.{fronted, same_seat, same_slot, same_tree, shards_of}
use Rattle.table_rule.proofs.Locks.{locks}
use Rattle.table_steps.proofs.shared.SharedTable.try_lock.Goals as goal

pub compare_exchange-found-requires : goal.compare_exchange-found-requires
compare_exchange-found-requires g c =
    let q = c.args.self.now.sized in let o = c.requires.free in let z : Opening = c.args.self.now.table.shared.key in let e = shards_of z c.args.self.now.sizes q.2 in let lt = c.requires.seat.1 in (
      c.requires.seat.0,
      omega arith,
      locks g.ShardTree.Versioned.versions g.NodeList.Versioned.versions z _ _ c.args.who.now.seat.me c.args.who.now.number c.args.shard o.0 o.1 lt o.2,
    )

pub exchange-requires : goal.exchange-requires
exchange-requires g c =
    let o = c.requires.free in let z : Opening = c.args.self.now.table.shared.key in
    let t = (c.compare_exchange-found.ensures.2 c.args.who.now.number z o.0 o.1 o.2).0 c.if-found-ne0.false in
    (c.compare_exchange-found.ensures.0 ∙ c.requires.seat.0, (Tree t.0, fronted c.compare_exchange-found.new.seat.me.1 c.args.shard (Tree t.0) _ t.2))

pub unreachable-requires : goal.unreachable-requires
unreachable-requires g c =
    let o = c.requires.free in let z : Opening = c.args.self.now.table.shared.key in let j : ℕ = c.args.shard in
    let t = (c.compare_exchange-found.ensures.2 c.args.who.now.number z o.0 o.1 o.2).0 c.if-found-ne0.false in
    c.in_default.not-Tree t.0 (same_slot c.exchange.result (Tree t.0) j j c.compare_exchange-found.new.seat.me.1 _ _ c.exchange.ensures.2 t.2)

pub returns-clause-locked : goal.returns-clause-locked
returns-clause-locked g c seen stage at =
    let z : Opening = c.args.self.now.table.shared.key in let k : ℕ = c.args.who.now.number in let j : ℕ = c.args.shard in
    let t = (c.compare_exchange-found.ensures.2 k z seen stage at).0 c.if-found-ne0.false in
    let x = c.exchange.ensures.3 in
    let same : t.0 ≡ c.in-Tree.tree = same_tree t.0 c.in-Tree.tree j j c.compare_exchange-found.new.seat.me.1 _ _ t.2 (c.exchange.ensures.2 ∙ ap (λ y. (j, y) ∷ rest c.compare_exchange-found.new.seat.me.1) c.in-Tree.is) in
    subst (λ (y : g.row.ShardTree.Denot). Locked k z j seen stage (g.ShardTree.Versioned.versions y) c.args.who.now.seat.me c.exchange.new.seat.me) same
    (ap (λ m. m.0) x ∙ t.1, ap (λ m. m.1) x ∙ ap (λ l. (j, Blank) ∷ rest l) t.2, t.3, t.4)

pub returns-then-found-ne0-clause-none : goal.returns-then-found-ne0-clause-none
returns-then-found-ne0-clause-none g c _ =
    let o = c.requires.free in let z : Opening = c.args.self.now.table.shared.key in let e = c.compare_exchange-found.ensures in let now = c.compare_exchange-found.new.seat in
    ap (λ s. record c.args.who.now { seat = s }) (same_seat now c.args.who.now.seat e.0 e.1 ((e.2 c.args.who.now.number z o.0 o.1 o.2).1 c.if-found-ne0.true))
