use Rattle.std.proofs.Common.{ℕ, ◌+◌, [], ◌∷◌, ◌++◌, refl, ◌∙◌, arith}
use Rattle.atomic_table.specs.Seated.{TableId}
use Rattle.table_rule.specs.declared.view.Opening.{Opening}
use Rattle.table_rule.specs.declared.view.Stage.TheVariants.{Idle, Publishing}
use Rattle.table_rule.proofs.Finishing.{publishes_all}
use Rattle.table_steps.proofs.Keyed.{shards_of}
use Rattle.table_steps.proofs.Accounts.{stands, staged, stage_of, carried, publishes_to}
use Rattle.table_steps.proofs.seat.TableSeat.publish.Goals as goal

pub store-requires : goal.store-requires
store-requires g c =
    let z : Opening = c.args.table.now.table.shared.key in let id : TableId = c.args.table.now.table.shared.table_id in let k : ℕ = c.args.self.now.client.number in let o = c.requires.ours.0 in let m = c.args.self.now.client.seat.me in
    let q = c.args.table.now.sized in let e = shards_of z c.args.table.now.sizes q.2 in
    let n = c.requires.last_one in
    let at = staged k z o.3.0 o.3.1 (Publishing n.0) m o.3.2 n.1 in
    let held = carried (z.shards + k) c.args.self.now.last m.1 o.3.1 (Publishing n.0) (stage_of k z o.3.0 o.3.1 _ m o.3.2 n.1) o.3.3 in
    (o.0, omega arith, publishes_all g.ShardTree.Versioned.versions g.NodeList.Versioned.versions z _ _ m k _ o.3.0 n.0 c.args.self.now.last held.1 e at)

pub returns-clause-ours : goal.returns-clause-ours
returns-clause-ours g c =
    let z : Opening = c.args.table.now.table.shared.key in let id : TableId = c.args.table.now.table.shared.table_id in let k : ℕ = c.args.self.now.client.number in let o = c.requires.ours.0 in let m = c.args.self.now.client.seat.me in
    let n = c.requires.last_one in
    let at = staged k z o.3.0 o.3.1 (Publishing n.0) m o.3.2 n.1 in
    let held = carried (z.shards + k) c.args.self.now.last m.1 o.3.1 (Publishing n.0) (stage_of k z o.3.0 o.3.1 _ m o.3.2 n.1) o.3.3 in
    let p = c.store.ensures.2 k z o.3.0 n.0 at in
    (stands id z k k c.store.new.seat.table_id c.args.self.now.last c.store.new.seat.me (c.store.ensures.0 ∙ o.0) refl o.1 o.2 (n.0.before ++ n.0.group ∷ []) Idle p.0 (p.3 ∙ held.0), c.requires.ours.1)

pub returns-clause-published : goal.returns-clause-published
returns-clause-published g c u is =
    let z : Opening = c.args.table.now.table.shared.key in let id : TableId = c.args.table.now.table.shared.table_id in let k : ℕ = c.args.self.now.client.number in let o = c.requires.ours.0 in let m = c.args.self.now.client.seat.me in
    let at = staged k z o.3.0 o.3.1 (Publishing u) m o.3.2 is in
    let p = c.store.ensures.2 k z o.3.0 u at in
    publishes_to k z o.3.0 u m c.store.new.seat.me c.args.self.now.turn at p.0 p.1 p.2
