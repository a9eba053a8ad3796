use Rattle.std.proofs.Common.{◌≡◌, ℕ, ◌+◌, [], refl, ap, ◌∙◌, arith}
use Rattle.atomic_table.specs.Table.{rest}
use Rattle.atomic_table.specs.Seated.{TableId}
use Rattle.table_steps.specs.declared.sizes.Sizes.{Sizes}
use Rattle.table_rule.specs.declared.view.Opening.{Opening}
use Rattle.table_rule.specs.declared.view.Stage.TheVariants.{Holding, Stored}
use Rattle.table_rule.specs.Steps.{work}
use Rattle.table_rule.proofs.Handing.{settles}
use Rattle.table_steps.proofs.Keyed.{shards_of}
use Rattle.table_steps.proofs.Accounts.{stands, staged, stage_of, carried, steps_to}
use Rattle.table_steps.proofs.seat.TableSeat.settle.Goals as goal

pub overflow_add-word : goal.overflow_add-word
overflow_add-word g c =
    let z : Opening = c.args.table.now.table.shared.key in let id : TableId = c.args.table.now.table.shared.table_id in let k : ℕ = c.args.self.now.client.number in let o = c.requires.ours.0 in let m = c.args.self.now.client.seat.me in
    let q = c.args.table.now.sized in let e = shards_of z c.args.table.now.sizes q.2 in let cl : z.clients ≡ c.args.table.now.sizes.clients = ap (λ (s : Sizes). s.clients) q.2 in
    let high = o.2 in omega (arith, high)

pub store-requires : goal.store-requires
store-requires g c =
    let z : Opening = c.args.table.now.table.shared.key in let id : TableId = c.args.table.now.table.shared.table_id in let k : ℕ = c.args.self.now.client.number in let o = c.requires.ours.0 in let m = c.args.self.now.client.seat.me in
    let q = c.args.table.now.sized in let e = shards_of z c.args.table.now.sizes q.2 in let cl : z.clients ≡ c.args.table.now.sizes.clients = ap (λ (s : Sizes). s.clients) q.2 in
    let n = c.requires.added in
    let at = staged k z o.3.0 o.3.1 (Holding (work n.0 n.1 [])) m o.3.2 n.2 in
    let held = carried (z.shards + k) c.args.self.now.last m.1 o.3.1 (Holding (work n.0 n.1 [])) (stage_of k z o.3.0 o.3.1 _ m o.3.2 n.2) o.3.3 in
    let high = o.2 in
    (o.0, omega (arith, high), settles g.ShardTree.Versioned.versions g.NodeList.Versioned.versions z _ _ m k _ o.3.0 n.0 n.1 [] (λ i. e i + 1 + k) o.1 at held.0)

pub returns-clause-ours : goal.returns-clause-ours
returns-clause-ours g c =
    let z : Opening = c.args.table.now.table.shared.key in let id : TableId = c.args.table.now.table.shared.table_id in let k : ℕ = c.args.self.now.client.number in let o = c.requires.ours.0 in let m = c.args.self.now.client.seat.me in
    let n = c.requires.added in
    let at = staged k z o.3.0 o.3.1 (Holding (work n.0 n.1 [])) m o.3.2 n.2 in
    let held = carried (z.shards + k) c.args.self.now.last m.1 o.3.1 (Holding (work n.0 n.1 [])) (stage_of k z o.3.0 o.3.1 _ m o.3.2 n.2) o.3.3 in
    let r = c.store.ensures.2 k z o.3.0 n.0 n.1 at in
    (stands id z k k c.store.new.seat.table_id c.args.self.now.last c.store.new.seat.me (c.store.ensures.0 ∙ o.0) refl o.1 o.2 o.3.0 (Stored n.0) r.0 (r.1 ∙ ap rest held.0, held.1), c.requires.ours.1)

pub returns-clause-stored : goal.returns-clause-stored
returns-clause-stored g c u done is =
    let z : Opening = c.args.table.now.table.shared.key in let id : TableId = c.args.table.now.table.shared.table_id in let k : ℕ = c.args.self.now.client.number in let o = c.requires.ours.0 in let m = c.args.self.now.client.seat.me in
    let at = staged k z o.3.0 o.3.1 (Holding (work u done [])) m o.3.2 is in
    steps_to k z o.3.0 (Holding (work u done [])) (Stored u) m c.store.new.seat.me c.args.self.now.turn at (c.store.ensures.2 k z o.3.0 u done at).0
