use Rattle.std.proofs.Common.{◌≡◌, ℕ, ◌+◌, [], ◌∷◌, refl, ap, ◌∙◌, arith}
use Rattle.atomic_table.specs.Seated.{TableId}
use Rattle.table_steps.specs.declared.sizes.Sizes.{Sizes}
use Rattle.table_rule.specs.declared.view.Opening.{Opening}
use Rattle.table_rule.specs.declared.view.Stage.{Stage}
use Rattle.table_rule.specs.declared.view.Stage.TheVariants.{Idle, Stored, Publishing}
use Rattle.table_rule.specs.declared.view.Lock.TheVariants.{Free}
use Rattle.table_rule.specs.Rule.{seat_state}
use Rattle.table_rule.specs.Steps.{stage_after_finish}
use Rattle.table_rule.proofs.Finishing.{counts, others_end}
use Rattle.table_steps.proofs.Keyed.{shards_of}
use Rattle.table_steps.proofs.Accounts.{stands, staged, stage_of, carried, steps_to}
use Rattle.table_steps.proofs.seat.TableSeat.finish.Goals as goal

pub overflow_add-running : goal.overflow_add-running
overflow_add-running g c =
    let z : Opening = c.args.table.now.table.shared.key in let id : TableId = c.args.table.now.table.shared.table_id in let k : ℕ = c.args.self.now.client.number in let o = c.requires.ours.0 in let m = c.args.self.now.client.seat.me in
    let q = c.args.table.now.sized in let e = shards_of z c.args.table.now.sizes q.2 in let cl : z.clients ≡ c.args.table.now.sizes.clients = ap (λ (s : Sizes). s.clients) q.2 in
    omega arith

pub fetch_sub-unfinished-requires : goal.fetch_sub-unfinished-requires
fetch_sub-unfinished-requires g c =
    let z : Opening = c.args.table.now.table.shared.key in let id : TableId = c.args.table.now.table.shared.table_id in let k : ℕ = c.args.self.now.client.number in let o = c.requires.ours.0 in let m = c.args.self.now.client.seat.me in
    let q = c.args.table.now.sized in let e = shards_of z c.args.table.now.sizes q.2 in let cl : z.clients ≡ c.args.table.now.sizes.clients = ap (λ (s : Sizes). s.clients) q.2 in
    let n = c.requires.stored in
    (o.0, omega arith, counts g.ShardTree.Versioned.versions g.NodeList.Versioned.versions z _ _ m k _ o.3.0 n.0 (ap (λ (s : ℕ). s + 1) e) (staged k z o.3.0 o.3.1 (Stored n.0) m o.3.2 n.1))

pub returns-then-unfinished-eq1-clause-ours : goal.returns-then-unfinished-eq1-clause-ours
returns-then-unfinished-eq1-clause-ours g c =
    let z : Opening = c.args.table.now.table.shared.key in let id : TableId = c.args.table.now.table.shared.table_id in let k : ℕ = c.args.self.now.client.number in let o = c.requires.ours.0 in let m = c.args.self.now.client.seat.me in
    let n = c.requires.stored in
    let at = staged k z o.3.0 o.3.1 (Stored n.0) m o.3.2 n.1 in
    let held = carried (z.shards + k) c.args.self.now.last m.1 o.3.1 (Stored n.0) (stage_of k z o.3.0 o.3.1 _ m o.3.2 n.1) o.3.3 in
    let now = c.fetch_sub-unfinished.ensures.2 k z o.3.0 n.0 at in
    let last_one = now.0 ∙ ap (λ (r : ℕ). seat_state k z o.3.0 Free (stage_after_finish n.0 r) ∷ []) c.if-unfinished-eq1.true in
    (stands id z k k c.fetch_sub-unfinished.new.seat.table_id c.args.self.now.last c.fetch_sub-unfinished.new.seat.me (c.fetch_sub-unfinished.ensures.0 ∙ o.0) refl o.1 o.2 o.3.0 (Publishing n.0) last_one (now.1 ∙ held.0, held.1), c.requires.ours.1)

pub returns-then-unfinished-eq1-clause-counted : goal.returns-then-unfinished-eq1-clause-counted
returns-then-unfinished-eq1-clause-counted g c u is =
    let z : Opening = c.args.table.now.table.shared.key in let id : TableId = c.args.table.now.table.shared.table_id in let k : ℕ = c.args.self.now.client.number in let o = c.requires.ours.0 in let m = c.args.self.now.client.seat.me in
    let at = staged k z o.3.0 o.3.1 (Stored u) m o.3.2 is in
    let now = c.fetch_sub-unfinished.ensures.2 k z o.3.0 u at in
    let last_one = now.0 ∙ ap (λ (r : ℕ). seat_state k z o.3.0 Free (stage_after_finish u r) ∷ []) c.if-unfinished-eq1.true in
    record { found = c.fetch_sub-unfinished.result; within = now.3; told = c.if-unfinished-eq1.true; steps = steps_to k z o.3.0 (Stored u) (Publishing u) m c.fetch_sub-unfinished.new.seat.me c.args.self.now.turn at last_one }

pub returns-else-unfinished-eq1-clause-ours : goal.returns-else-unfinished-eq1-clause-ours
returns-else-unfinished-eq1-clause-ours g c =
    let z : Opening = c.args.table.now.table.shared.key in let id : TableId = c.args.table.now.table.shared.table_id in let k : ℕ = c.args.self.now.client.number in let o = c.requires.ours.0 in let m = c.args.self.now.client.seat.me in
    let n = c.requires.stored in
    let at = staged k z o.3.0 o.3.1 (Stored n.0) m o.3.2 n.1 in
    let held = carried (z.shards + k) c.args.self.now.last m.1 o.3.1 (Stored n.0) (stage_of k z o.3.0 o.3.1 _ m o.3.2 n.1) o.3.3 in
    let now = c.fetch_sub-unfinished.ensures.2 k z o.3.0 n.0 at in
    let others = now.0 ∙ ap (λ (st : Stage). seat_state k z o.3.0 Free st ∷ []) (others_end g.ShardTree.Versioned.versions g.NodeList.Versioned.versions z n.0 c.fetch_sub-unfinished.result c.if-unfinished-eq1.false) in
    (stands id z k k c.fetch_sub-unfinished.new.seat.table_id c.args.self.now.last c.fetch_sub-unfinished.new.seat.me (c.fetch_sub-unfinished.ensures.0 ∙ o.0) refl o.1 o.2 o.3.0 Idle others (now.1 ∙ held.0), c.requires.ours.1)

pub returns-else-unfinished-eq1-clause-counted : goal.returns-else-unfinished-eq1-clause-counted
returns-else-unfinished-eq1-clause-counted g c u is =
    let z : Opening = c.args.table.now.table.shared.key in let id : TableId = c.args.table.now.table.shared.table_id in let k : ℕ = c.args.self.now.client.number in let o = c.requires.ours.0 in let m = c.args.self.now.client.seat.me in
    let at = staged k z o.3.0 o.3.1 (Stored u) m o.3.2 is in
    let now = c.fetch_sub-unfinished.ensures.2 k z o.3.0 u at in let some = now.2 in let other = c.if-unfinished-eq1.false in
    let others = now.0 ∙ ap (λ (st : Stage). seat_state k z o.3.0 Free st ∷ []) (others_end g.ShardTree.Versioned.versions g.NodeList.Versioned.versions z u c.fetch_sub-unfinished.result other) in
    record { found = c.fetch_sub-unfinished.result; within = now.3; told = omega (arith, some, other); steps = steps_to k z o.3.0 (Stored u) Idle m c.fetch_sub-unfinished.new.seat.me c.args.self.now.turn at others }
