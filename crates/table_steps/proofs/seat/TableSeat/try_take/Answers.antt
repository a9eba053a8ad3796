use Rattle.std.proofs.Common.{◌≡◌, ℕ, ◌+◌, [], ◌∷◌, refl, sym, ap, ◌∙◌, subst, arith}
use Rattle.atomic_table.specs.Table.{rest}
use Rattle.atomic_table.specs.Seated.{TableId}
use Rattle.table_rule.specs.declared.content.Content.TheVariants.{Blank, Nodes}
use Rattle.table_steps.specs.declared.sizes.Sizes.{Sizes}
use Rattle.table_rule.specs.declared.view.Opening.{Opening}
use Rattle.table_rule.specs.declared.view.Lock.TheVariants.{Free}
use Rattle.table_rule.specs.declared.view.Stage.TheVariants.{Holding}
use Rattle.table_rule.specs.Rule.{seat_state}
use Rattle.table_rule.specs.Steps.{IsPartOf, MayTake, work}
use Rattle.table_rule.proofs.Handing.{takes_nodes}
use Rattle.table_steps.specs.Accounts.{first_state, IsOurs}
use Rattle.table_steps.proofs.Keyed.{fronted, same_nodes, same_seat, shards_of}
use Rattle.table_steps.proofs.Accounts.{stands, takes_to, empty}
use Rattle.table_steps.proofs.seat.TableSeat.try_take.Goals as goal

pub overflow_add-word : goal.overflow_add-word
overflow_add-word g c =
    let z : Opening = c.args.table.now.table.shared.key in let id : TableId = c.args.table.now.table.shared.table_id in let k : ℕ = c.args.self.now.client.number in let o = c.requires.ours.0 in let m = c.args.self.now.client.seat.me in
    let q = c.args.table.now.sized in let e = shards_of z c.args.table.now.sizes q.2 in let cl : z.clients ≡ c.args.table.now.sizes.clients = ap (λ (s : Sizes). s.clients) q.2 in
    let high = o.2 in omega (arith, high)

pub overflow_add-slot : goal.overflow_add-slot
overflow_add-slot g c =
    let z : Opening = c.args.table.now.table.shared.key in let id : TableId = c.args.table.now.table.shared.table_id in let k : ℕ = c.args.self.now.client.number in let o = c.requires.ours.0 in let m = c.args.self.now.client.seat.me in
    let q = c.args.table.now.sized in let e = shards_of z c.args.table.now.sizes q.2 in let cl : z.clients ≡ c.args.table.now.sizes.clients = ap (λ (s : Sizes). s.clients) q.2 in
    let high = o.2 in omega (arith, high)

pub load-found-requires : goal.load-found-requires
load-found-requires g c =
    let z : Opening = c.args.table.now.table.shared.key in let id : TableId = c.args.table.now.table.shared.table_id in let k : ℕ = c.args.self.now.client.number in let o = c.requires.ours.0 in let m = c.args.self.now.client.seat.me in
    let q = c.args.table.now.sized in let e = shards_of z c.args.table.now.sizes q.2 in let cl : z.clients ≡ c.args.table.now.sizes.clients = ap (λ (s : Sizes). s.clients) q.2 in
    let may = subst MayTake (ap (λ l. (first_state l).stage) o.3.2) c.requires.free in let high = o.2 in
    (o.0, omega (arith, high), takes_nodes g.ShardTree.Versioned.versions g.NodeList.Versioned.versions z _ _ c.args.self.now.client.seat.me k _ o.3.0 o.3.1 (λ i. e i + 1 + k) o.1 may o.3.2)

pub exchange-requires : goal.exchange-requires
exchange-requires g c =
    let z : Opening = c.args.table.now.table.shared.key in let id : TableId = c.args.table.now.table.shared.table_id in let k : ℕ = c.args.self.now.client.number in let o = c.requires.ours.0 in let m = c.args.self.now.client.seat.me in
    let q = c.args.table.now.sized in let e = shards_of z c.args.table.now.sizes q.2 in
    let may = subst MayTake (ap (λ l. (first_state l).stage) o.3.2) c.requires.free in
    let t = (c.load-found.ensures.2 k z o.3.0 o.3.1 o.3.2 may).0 c.if-found-ne1.false in
    (c.load-found.ensures.0 ∙ o.0, (Nodes t.0 t.1.last, fronted c.load-found.new.seat.me.1 _ (Nodes t.0 t.1.last) _ (t.3 ∙ (λ i. (sym e i + k, Nodes t.0 t.1.last) ∷ c.args.self.now.client.seat.me.1))))

pub returns-clause-ours : goal.returns-clause-ours
returns-clause-ours g c =
    let z : Opening = c.args.table.now.table.shared.key in let id : TableId = c.args.table.now.table.shared.table_id in let k : ℕ = c.args.self.now.client.number in let o = c.requires.ours.0 in let m = c.args.self.now.client.seat.me in
    let q = c.args.table.now.sized in let e = shards_of z c.args.table.now.sizes q.2 in
    let may = subst MayTake (ap (λ l. (first_state l).stage) o.3.2) c.requires.free in
    let t = (c.load-found.ensures.2 k z o.3.0 o.3.1 o.3.2 may).0 c.if-found-ne1.false in
    let slot : ℕ = c.args.table.now.sizes.shards + k in let held = c.load-found.new.seat.me.1 in
    let same = same_nodes t.0 c.in-Nodes.nodes t.1.last c.in-Nodes.last (z.shards + k) slot held _ _ t.3 (c.exchange.ensures.2 ∙ ap (λ y. (slot, y) ∷ rest held) c.in-Nodes.is) in
    let at = ap (λ m. m.0) c.exchange.ensures.3 ∙ t.2 ∙ ap (λ (y : g.row.NodeList.Denot). seat_state k z o.3.0 Free (Holding (work t.1 [] (g.NodeList.Versioned.versions y))) ∷ []) same.0 in
    let nil : m.1 ≡ [] = empty (z.shards + k) c.args.self.now.last m.1 o.3.1 may o.3.3 in
    let slots = ap (λ m. m.1) c.exchange.ensures.3 ∙ ap (λ l. (slot, Blank) ∷ rest l) t.3 ∙ (λ i. (e i + k, Blank) ∷ m.1) ∙ ap (λ l. (z.shards + k, Blank) ∷ l) nil in
    (stands id z k k c.exchange.new.seat.table_id c.in-Nodes.last c.exchange.new.seat.me (c.exchange.ensures.0 ∙ c.load-found.ensures.0 ∙ o.0) refl o.1 o.2 o.3.0 (Holding (work t.1 [] (g.NodeList.Versioned.versions c.in-Nodes.nodes))) at (slots, sym same.1), c.requires.ours.1)

pub returns-clause-taken : goal.returns-clause-taken
returns-clause-taken g c =
    let z : Opening = c.args.table.now.table.shared.key in let id : TableId = c.args.table.now.table.shared.table_id in let k : ℕ = c.args.self.now.client.number in let o = c.requires.ours.0 in let m = c.args.self.now.client.seat.me in
    let q = c.args.table.now.sized in let e = shards_of z c.args.table.now.sizes q.2 in
    let may = subst MayTake (ap (λ l. (first_state l).stage) o.3.2) c.requires.free in
    let t = (c.load-found.ensures.2 k z o.3.0 o.3.1 o.3.2 may).0 c.if-found-ne1.false in
    let slot : ℕ = c.args.table.now.sizes.shards + k in let held = c.load-found.new.seat.me.1 in
    let same = same_nodes t.0 c.in-Nodes.nodes t.1.last c.in-Nodes.last (z.shards + k) slot held _ _ t.3 (c.exchange.ensures.2 ∙ ap (λ y. (slot, y) ∷ rest held) c.in-Nodes.is) in
    let at = ap (λ m. m.0) c.exchange.ensures.3 ∙ t.2 ∙ ap (λ (y : g.row.NodeList.Denot). seat_state k z o.3.0 Free (Holding (work t.1 [] (g.NodeList.Versioned.versions y))) ∷ []) same.0 in
    let part = subst (λ (y : g.row.NodeList.Denot). IsPartOf z k o.3.0 t.1 (g.NodeList.Versioned.versions y)) same.0 t.4 in
    takes_to k k z o.3.0 o.3.1 t.1 (g.NodeList.Versioned.versions c.in-Nodes.nodes) m c.exchange.new.seat.me c.args.self.now.turn refl o.3.2 at part t.5

pub returns-then-found-ne1-clause-ours : goal.returns-then-found-ne1-clause-ours
returns-then-found-ne1-clause-ours g c =
    let z : Opening = c.args.table.now.table.shared.key in let k : ℕ = c.args.self.now.client.number in let o = c.requires.ours.0 in
    let may = subst MayTake (ap (λ l. (first_state l).stage) o.3.2) c.requires.free in let e = c.load-found.ensures in
    let same = same_seat c.load-found.new.seat c.args.self.now.client.seat e.0 e.1 ((e.2 k z o.3.0 o.3.1 o.3.2 may).1 c.if-found-ne1.true) in
    subst (λ s. IsOurs c.args.table.now (record c.args.self.now { client = record c.args.self.now.client { seat = s } })) (sym same) c.requires.ours

pub returns-then-found-ne1-clause-none : goal.returns-then-found-ne1-clause-none
returns-then-found-ne1-clause-none g c _ =
    let z : Opening = c.args.table.now.table.shared.key in let k : ℕ = c.args.self.now.client.number in let o = c.requires.ours.0 in
    let may = subst MayTake (ap (λ l. (first_state l).stage) o.3.2) c.requires.free in let e = c.load-found.ensures in
    let same = same_seat c.load-found.new.seat c.args.self.now.client.seat e.0 e.1 ((e.2 k z o.3.0 o.3.1 o.3.2 may).1 c.if-found-ne1.true) in
    ap (λ s. record c.args.self.now { client = record c.args.self.now.client { seat = s } }) same
