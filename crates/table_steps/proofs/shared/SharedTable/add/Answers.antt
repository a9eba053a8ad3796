use Rattle.std.proofs.Common.{◌≡◌, ℕ, List, [], ◌∷◌, ◌++◌, inl, refl, sym, ap, ◌∙◌, subst, append_assoc, append-nil}
use Rattle.atomic_table.specs.Table.{rest}
use Rattle.table_rule.specs.declared.content.Version.{Version}
use Rattle.table_rule.specs.declared.view.Opening.{Opening}
use Rattle.table_rule.specs.declared.view.Lock.TheVariants.{Free}
use Rattle.table_rule.specs.declared.view.Stage.TheVariants.{Holding}
use Rattle.table_rule.specs.Histories.{In, Runs}
use Rattle.table_rule.specs.Steps.{AddsAll, work}
use Rattle.table_rule.proofs.Histories.{in_left, in_right}
use Rattle.table_rule.proofs.Additions.{adds_none, adds_more, stays_fresh}
use Rattle.table_steps.proofs.Keyed.{renamed}
use Rattle.table_steps.proofs.shared.SharedTable.add.Goals as goal

pub loop-node-init : goal.loop-node-init
loop-node-init g c = ([], sym c.requires.nodes, adds_none (g.ShardTree.Versioned.versions c.lock-tree.result))

pub insert-requires : goal.insert-requires
insert-requires g c x has same =
    let o = c.requires.next in let v : Version = g.NodeList.Node.VersionNode.version c.in-Some.node in let left : List Version = g.NodeList.Versioned.versions c.pop.new.self in
    let fresh = (c.lock-tree.ensures.locked o.0 (Holding (work o.1 o.2 (g.Plan.VersionPlan.versions ++ o.3))) o.4).3 in
    let i = c.loop-node.invariant in
    let is : g.Plan.VersionPlan.versions ≡ i.0 ++ v ∷ left = i.1 ∙ ap (λ (l : List Version). i.0 ++ l) c.in-Some.ensures in
    let there : In v (g.Plan.VersionPlan.versions ++ o.3) = subst (λ (l : List Version). In v (l ++ o.3)) (sym is) (in_left v (i.0 ++ v ∷ left) o.3 (in_right v i.0 (v ∷ left) (inl refl))) in
    stays_fresh (g.ShardTree.Versioned.versions c.lock-tree.result) i.0 v left o.3 (g.ShardTree.Versioned.versions c.loop-node.tree) fresh.1.0 i.2 (subst (λ (l : List Version). Runs fresh.1.0 (l ++ o.3)) is fresh.1.1) (λ y. fresh.0 v y there) x has

pub loop-node-preserved : goal.loop-node-preserved
loop-node-preserved g c =
    let v : Version = g.NodeList.Node.VersionNode.version c.in-Some.node in let left : List Version = g.NodeList.Versioned.versions c.pop.new.self in let i = c.loop-node.invariant in (
      i.0 ++ v ∷ [],
      i.1 ∙ (ap (λ (l : List Version). i.0 ++ l) c.in-Some.ensures ∙ sym (append_assoc i.0 (v ∷ []) left)),
      adds_more (g.ShardTree.Versioned.versions c.lock-tree.result) i.0 v (g.ShardTree.Versioned.versions c.loop-node.tree) (g.ShardTree.Versioned.versions c.insert.new.self) i.2 c.insert.ensures,
    )

pub give_back-requires-clause-held : goal.give_back-requires-clause-held
give_back-requires-clause-held g c =
    let o = c.requires.next in let z : Opening = c.args.self.now.table.shared.key in let vs : List Version = g.ShardTree.Versioned.versions c.lock-tree.result in
    let l = c.lock-tree.ensures.locked o.0 (Holding (work o.1 o.2 (g.Plan.VersionPlan.versions ++ o.3))) o.4 in
    let i = c.loop-node.invariant in
    let all : i.0 ≡ g.Plan.VersionPlan.versions = sym (i.1 ∙ (ap (λ (l : List Version). i.0 ++ l) c.in_default.ensures.0 ∙ append-nil i.0)) in
    (o.0, o.1, o.2, o.3, vs, c.args.who.now.seat.me.1, renamed c.args.who.now.number c.lock-tree.new.who.number z o.0 _ _ c.lock-tree.new.who.seat.me c.lock-tree.ensures.seat.1 l.0, l.1, subst (λ (put : List Version). AddsAll vs put (g.ShardTree.Versioned.versions c.loop-node.tree)) all i.2)

pub returns-clause-seat : goal.returns-clause-seat
returns-clause-seat g c =
    let o = c.requires.next in
    let l = c.lock-tree.ensures.locked o.0 (Holding (work o.1 o.2 (g.Plan.VersionPlan.versions ++ o.3))) o.4 in
    let s = c.give_back.ensures.seat in
    (s.0 ∙ c.lock-tree.ensures.seat.0, s.1 ∙ c.lock-tree.ensures.seat.1, s.2 ∙ ap rest l.1)

pub returns-clause-added : goal.returns-clause-added
returns-clause-added g c seen u done more at =
    let z : Opening = c.args.self.now.table.shared.key in let k : ℕ = c.args.who.now.number in let n : c.lock-tree.new.who.number ≡ k = c.lock-tree.ensures.seat.1 in
    let l = c.lock-tree.ensures.locked seen (Holding (work u done (g.Plan.VersionPlan.versions ++ more))) at in
    renamed c.lock-tree.new.who.number k z seen Free _ c.give_back.new.who.seat.me (sym n)
    (c.give_back.ensures.added seen u done more (g.ShardTree.Versioned.versions c.lock-tree.result) (renamed k c.lock-tree.new.who.number z seen _ _ c.lock-tree.new.who.seat.me n l.0))
