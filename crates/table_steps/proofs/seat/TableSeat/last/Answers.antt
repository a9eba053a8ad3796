use Rattle.std.proofs.Common.{ℕ, ◌+◌, refl, sym, ap, ◌∙◌, subst, arith}
use Rattle.atomic_table.specs.Seated.{TableId}
use Rattle.table_rule.specs.declared.view.Opening.{Opening}
use Rattle.table_rule.specs.Histories.{last_of}
use Rattle.table_rule.proofs.Locks.{learns}
use Rattle.table_steps.specs.Accounts.{first_state, Carries}
use Rattle.table_steps.proofs.Keyed.{shards_of}
use Rattle.table_steps.proofs.Accounts.{stands, client_stage, learns_to}
use Rattle.table_steps.proofs.seat.TableSeat.last.Goals as goal

pub load-requires : goal.load-requires
load-requires g c =
    let z : Opening = c.args.table.now.table.shared.key in let id : TableId = c.args.table.now.table.shared.table_id in let k : ℕ = c.args.self.now.client.number in let o = c.requires.0 in let m = c.args.self.now.client.seat.me in
    let q = c.args.table.now.sized in let e = shards_of z c.args.table.now.sizes q.2 in
    let client = client_stage (z.shards + k) c.args.self.now.last m.1 o.3.1 o.3.3 in
    (o.0, omega arith, learns g.ShardTree.Versioned.versions g.NodeList.Versioned.versions z _ _ m k _ o.3.0 o.3.1 e client o.3.2)

pub returns-clause-ours : goal.returns-clause-ours
returns-clause-ours g c =
    let z : Opening = c.args.table.now.table.shared.key in let id : TableId = c.args.table.now.table.shared.table_id in let k : ℕ = c.args.self.now.client.number in let o = c.requires.0 in let m = c.args.self.now.client.seat.me in
    let last : ℕ = c.args.self.now.last in
    let r = c.load.ensures.2 k z o.3.0 o.3.1 o.3.2 in
    (stands id z k k c.load.new.seat.table_id last c.load.new.seat.me (c.load.ensures.0 ∙ o.0) refl o.1 o.2 r.0 o.3.1 r.1 (subst (λ l. Carries (z.shards + k) last o.3.1 l) (sym r.5) o.3.3), c.requires.1)

pub returns-clause-seen : goal.returns-clause-seen
returns-clause-seen g c =
    let z : Opening = c.args.table.now.table.shared.key in let id : TableId = c.args.table.now.table.shared.table_id in let k : ℕ = c.args.self.now.client.number in let o = c.requires.0 in let m = c.args.self.now.client.seat.me in
    let r = c.load.ensures.2 k z o.3.0 o.3.1 o.3.2 in
    learns_to k z o.3.0 o.3.1 m c.load.new.seat.me c.args.self.now.turn o.3.2 r.0 r.1 r.2 r.3

pub returns-clause-value : goal.returns-clause-value
returns-clause-value g c =
    let z : Opening = c.args.table.now.table.shared.key in let id : TableId = c.args.table.now.table.shared.table_id in let k : ℕ = c.args.self.now.client.number in let o = c.requires.0 in let m = c.args.self.now.client.seat.me in
    let r = c.load.ensures.2 k z o.3.0 o.3.1 o.3.2 in
    r.4 ∙ ap (last_of z.start) (sym (ap (λ l. (first_state l).seen) r.1))
