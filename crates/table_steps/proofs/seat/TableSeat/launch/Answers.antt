use Rattle.std.proofs.Common.{◌≡◌, ℕ, ◌+◌, List, [], Some, sym, ap, ◌∙◌, subst}
use Rattle.atomic_table.specs.Seated.{TableId}
use Rattle.table_rule.specs.declared.content.MemberVersions.{MemberVersions}
use Rattle.table_rule.specs.declared.view.Opening.{Opening}
use Rattle.table_rule.specs.declared.view.Stage.TheVariants.{Idle, Waiting}
use Rattle.table_rule.specs.Steps.{stage_after_launch, launched_behind, IsNext}
use Rattle.table_steps.specs.Accounts.{first_state}
use Rattle.table_steps.proofs.Accounts.{stands, staged, stage_of, carried, launched_is, launched_sits}
use Rattle.table_rule.specs.declared.view.Launched.{Launched}
use Rattle.table_rule.proofs.Launching.{launched_own, launched_other}
use Rattle.table_steps.proofs.seat.TableSeat.launch.Goals as goal

pub launch-turn-requires-clause-next : goal.launch-turn-requires-clause-next
launch-turn-requires-clause-next g c =
    let z : Opening = c.args.table.now.table.shared.key in let id : TableId = c.args.table.now.table.shared.table_id in let k : ℕ = c.args.self.now.client.number in let o = c.requires.ours.0.0 in let m = c.args.self.now.client.seat.me in
    let t = c.requires.ours.1 in
    let same : (first_state c.args.turn.seat.me.0).seen ≡ t.0 = ap (λ l. (first_state l).seen) t.1.2 in
    (o.3.0, t.0, staged k z o.3.0 o.3.1 Idle m o.3.2 c.requires.ready.idle, t.1.2, subst (λ (b : List (List MemberVersions)). IsNext z b (g.GroupList.GroupParts.parts c.args.parts.now)) same c.requires.next, (λ i. t.1.3 i + c.version_count.ensures i))

pub returns-clause-ours : goal.returns-clause-ours
returns-clause-ours g c =
    let z : Opening = c.args.table.now.table.shared.key in let id : TableId = c.args.table.now.table.shared.table_id in let k : ℕ = c.args.self.now.client.number in let o = c.requires.ours.0.0 in let m = c.args.self.now.client.seat.me in
    let t = c.requires.ours.1 in
    let at = staged k z o.3.0 o.3.1 Idle m o.3.2 c.requires.ready.idle in
    let nil : m.1 ≡ [] = carried (z.shards + k) c.args.self.now.last m.1 o.3.1 Idle (stage_of k z o.3.0 o.3.1 Idle m o.3.2 c.requires.ready.idle) o.3.3 in
    let s = c.launch-turn.ensures.client in
    let w = c.launch-turn.ensures.turn in
    let parts : List MemberVersions = g.GroupList.GroupParts.parts c.args.parts.now in
    let u : Launched = launched_behind z.start t.0 parts in (
      stands id z k c.launch-turn.new.who.number c.launch-turn.new.who.seat.table_id c.args.self.now.last c.launch-turn.new.who.seat.me (s.0 ∙ o.0) s.1 o.1 o.2 o.3.0 (stage_after_launch k u) (c.launch-turn.ensures.launched o.3.0 t.0 at t.1.2) (launched_sits k (z.shards + k) c.args.self.now.last u c.launch-turn.new.who.seat.me.1 (s.2 ∙ nil)),
      (w.0 ∙ t.1.0, w.1, (t.0, parts, c.launch-turn.ensures.handed o.3.0 t.0 at t.1.2)),
    )

pub returns-clause-launched : goal.returns-clause-launched
returns-clause-launched g c =
    let z : Opening = c.args.table.now.table.shared.key in let id : TableId = c.args.table.now.table.shared.table_id in let k : ℕ = c.args.self.now.client.number in let o = c.requires.ours.0.0 in let m = c.args.self.now.client.seat.me in
    let t = c.requires.ours.1 in
    let at = staged k z o.3.0 o.3.1 Idle m o.3.2 c.requires.ready.idle in
    let parts : List MemberVersions = g.GroupList.GroupParts.parts c.args.parts.now in
    let now = c.launch-turn.ensures.launched o.3.0 t.0 at t.1.2 in
    let behind = ap (λ (b : List (List MemberVersions)). launched_behind z.start b parts) (sym (ap (λ l. (first_state l).seen) t.1.2)) in
    record {
      number = c.launch-turn.ensures.client.1;
      seen = ap (λ l. (first_state l).seen) now ∙ sym (ap (λ l. (first_state l).seen) o.3.2);
      own_part = λ own. ap (λ l. (first_state l).stage) now ∙ (launched_own k (launched_behind z.start t.0 parts) own ∙ ap Waiting behind);
      no_part = λ none. ap (λ l. (first_state l).stage) now ∙ launched_other k (launched_behind z.start t.0 parts) none;
      launched_is = launched_is z c.launch-turn.result t.0 parts (c.launch-turn.ensures.handed o.3.0 t.0 at t.1.2) ∙ ap Some behind;
    }
