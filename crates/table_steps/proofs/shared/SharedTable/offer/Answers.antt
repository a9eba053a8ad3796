use Rattle.std.proofs.Common.{◌≡◌, ◌+◌, ◌∷◌, sym, ap, ◌∙◌, arith}
use Rattle.atomic_table.specs.Table.{rest}
use Rattle.table_steps.specs.declared.sizes.Sizes.{Sizes}
use Rattle.table_rule.specs.declared.view.Opening.{Opening}
use Rattle.table_rule.specs.declared.content.Content.TheVariants.{Blank, Nodes}
use Rattle.table_steps.proofs.Keyed.{fronted, shards_of}
use Rattle.table_rule.proofs.Handing.{empties, gives_nodes}
use Rattle.table_steps.proofs.shared.SharedTable.offer.Goals as goal

pub overflow_add-word : goal.overflow_add-word
overflow_add-word g c = let q = c.args.self.now.sized in let z : Opening = c.args.self.now.table.shared.key in let e = shards_of z c.args.self.now.sizes q.2 in let cl : z.clients ≡ c.args.self.now.sizes.clients = ap (λ (s : Sizes). s.clients) q.2 in omega arith

pub overflow_add-word-2 : goal.overflow_add-word-2
overflow_add-word-2 g c = let q = c.args.self.now.sized in let z : Opening = c.args.self.now.table.shared.key in let e = shards_of z c.args.self.now.sizes q.2 in let cl : z.clients ≡ c.args.self.now.sizes.clients = ap (λ (s : Sizes). s.clients) q.2 in let s = c.requires.seat in omega arith

pub overflow_add-slot : goal.overflow_add-slot
overflow_add-slot g c = let q = c.args.self.now.sized in let z : Opening = c.args.self.now.table.shared.key in let e = shards_of z c.args.self.now.sizes q.2 in let cl : z.clients ≡ c.args.self.now.sizes.clients = ap (λ (s : Sizes). s.clients) q.2 in let s = c.requires.seat in omega arith

pub load-requires : goal.load-requires
load-requires g c = let q = c.args.self.now.sized in let z : Opening = c.args.self.now.table.shared.key in let e = shards_of z c.args.self.now.sizes q.2 in let cl : z.clients ≡ c.args.self.now.sizes.clients = ap (λ (s : Sizes). s.clients) q.2 in let o = c.requires.next in let s = c.requires.seat in
    let m : o.2.member ≡ c.args.member = o.5 in
    (s.0, omega arith, empties g.ShardTree.Versioned.versions g.NodeList.Versioned.versions z _ _ c.args.turn.now.seat.me _ o.0 o.1 o.2 o.3 (λ i. e i + 1 + sym m i) (omega arith) (omega arith) o.4)

pub exchange-requires : goal.exchange-requires
exchange-requires g c = let q = c.args.self.now.sized in let z : Opening = c.args.self.now.table.shared.key in let e = shards_of z c.args.self.now.sizes q.2 in let cl : z.clients ≡ c.args.self.now.sizes.clients = ap (λ (s : Sizes). s.clients) q.2 in let o = c.requires.next in
    let m : o.2.member ≡ c.args.member = o.5 in
    let t = c.load.ensures.2 z o.0 o.1 o.2 o.3 o.4 (λ i. e i + 1 + sym m i) in
    (c.load.ensures.0 ∙ c.requires.seat.0, (Blank, fronted c.load.new.seat.me.1 _ Blank _ (t.2 ∙ (λ i. (sym e i + m i, Blank) ∷ c.args.turn.now.seat.me.1))))

pub store-requires : goal.store-requires
store-requires g c = let q = c.args.self.now.sized in let z : Opening = c.args.self.now.table.shared.key in let e = shards_of z c.args.self.now.sizes q.2 in let cl : z.clients ≡ c.args.self.now.sizes.clients = ap (λ (s : Sizes). s.clients) q.2 in let o = c.requires.next in let s = c.requires.seat in
    let m : o.2.member ≡ c.args.member = o.5 in
    let t = c.load.ensures.2 z o.0 o.1 o.2 o.3 o.4 (λ i. e i + 1 + sym m i) in let x = c.exchange.ensures.3 in (
      c.exchange.ensures.0 ∙ c.load.ensures.0 ∙ s.0,
      omega arith,
      gives_nodes g.ShardTree.Versioned.versions g.NodeList.Versioned.versions z _ _ c.exchange.new.seat.me _ o.0 o.1 o.2 o.3 c.args.nodes c.args.last (rest c.load.new.seat.me.1) (λ i. e i + 1 + sym m i) (omega arith) (omega arith) (ap (λ m. m.0) x ∙ t.0) (ap (λ m. m.1) x ∙ (λ i. (e i + sym m i, Nodes c.args.nodes c.args.last) ∷ rest c.load.new.seat.me.1)) o.6 o.7,
    )
