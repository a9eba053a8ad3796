use Rattle.std.proofs.Common.{ℕ, ◌+◌, List, ◌++◌, ◌∙◌}
use Rattle.atomic_table.specs.Seated.{TableId}
use Rattle.table_rule.specs.declared.content.Version.{Version}
use Rattle.table_rule.specs.declared.view.Opening.{Opening}
use Rattle.table_rule.specs.declared.view.Stage.TheVariants.{Holding}
use Rattle.table_rule.specs.Steps.{work}
use Rattle.table_steps.proofs.Accounts.{stands, staged, stage_of, carried, steps_on}
use Rattle.table_steps.proofs.seat.TableSeat.add.Goals as goal

pub add-requires-clause-next : goal.add-requires-clause-next
add-requires-clause-next g c =
    let z : Opening = c.args.table.now.table.shared.key in let id : TableId = c.args.table.now.table.shared.table_id in let k : ℕ = c.args.self.now.client.number in let o = c.requires.ours.0 in let m = c.args.self.now.client.seat.me in
    let n = c.requires.next in
    (o.3.0, n.0, n.1, n.2, staged k z o.3.0 o.3.1 _ m o.3.2 n.3)

pub returns-clause-ours : goal.returns-clause-ours
returns-clause-ours g c =
    let z : Opening = c.args.table.now.table.shared.key in let id : TableId = c.args.table.now.table.shared.table_id in let k : ℕ = c.args.self.now.client.number in let o = c.requires.ours.0 in let m = c.args.self.now.client.seat.me in
    let n = c.requires.next in
    let vs : List Version = g.NodeList.Versioned.versions c.args.nodes in
    let at = staged k z o.3.0 o.3.1 (Holding (work n.0 n.1 (vs ++ n.2))) m o.3.2 n.3 in
    let held = carried (z.shards + k) c.args.self.now.last m.1 o.3.1 (Holding (work n.0 n.1 (vs ++ n.2))) (stage_of k z o.3.0 o.3.1 _ m o.3.2 n.3) o.3.3 in
    let s = c.add.ensures.seat in
    (stands id z k c.add.new.who.number c.add.new.who.seat.table_id c.args.self.now.last c.add.new.who.seat.me (s.0 ∙ o.0) s.1 o.1 o.2 o.3.0 (Holding (work n.0 (n.1 ++ vs) n.2)) (c.add.ensures.added o.3.0 n.0 n.1 n.2 at) (s.2 ∙ held.0, held.1), c.requires.ours.1)

pub returns-clause-added : goal.returns-clause-added
returns-clause-added g c u done more is =
    let z : Opening = c.args.table.now.table.shared.key in let id : TableId = c.args.table.now.table.shared.table_id in let k : ℕ = c.args.self.now.client.number in let o = c.requires.ours.0 in let m = c.args.self.now.client.seat.me in
    let vs : List Version = g.NodeList.Versioned.versions c.args.nodes in
    let at = staged k z o.3.0 o.3.1 (Holding (work u done (vs ++ more))) m o.3.2 is in
    steps_on k c.add.new.who.number z o.3.0 (Holding (work u done (vs ++ more))) (Holding (work u (done ++ vs) more)) m c.add.new.who.seat.me c.args.self.now.turn c.add.ensures.seat.1 at (c.add.ensures.added o.3.0 u done more at)
