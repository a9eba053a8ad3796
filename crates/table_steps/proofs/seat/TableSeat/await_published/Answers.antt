use Rattle.std.proofs.Common.{◌≡◌, ℕ, [], ◌∷◌, ◌++◌, Option, Some, sym, ap, ◌∙◌, subst}
use Rattle.atomic_table.specs.Seated.{TableId}
use Rattle.table_rule.specs.declared.view.Opening.{Opening}
use Rattle.table_rule.proofs.Histories.{last_snoc}
use Rattle.table_calls.specs.Account.{Learns}
use Rattle.table_steps.specs.declared.launching.Turn.{Turn}
use Rattle.table_steps.specs.Accounts.{first_state, account, account_of, Keeps}
use Rattle.table_steps.proofs.Accounts.{launched_end}
use Rattle.table_steps.proofs.seat.TableSeat.await_published.Goals as goal

pub await_published-requires-clause-launched : goal.await_published-requires-clause-launched
await_published-requires-clause-launched g c =
    let z : Opening = c.args.table.now.table.shared.key in let id : TableId = c.args.table.now.table.shared.table_id in let k : ℕ = c.args.self.now.client.number in let o = c.requires.ours.0 in let m = c.args.self.now.client.seat.me in
    let is : c.args.self.now.turn ≡ Some c.in-Some.turn = sym c.take.ensures.value ∙ c.in-Some.is in
    let kept : Keeps id z (Some c.in-Some.turn) = subst (Keeps id z) is c.requires.ours.1 in
    let w = c.requires.launched in
    let e = launched_end z c.args.self.now.turn c.in-Some.turn kept.2.0 kept.2.1 w.0 kept.2.2 is w.1 in
    (kept.2.0, kept.2.1, kept.2.2, w.2 ∙ e.0 ∙ last_snoc z.start kept.2.0 kept.2.1)

pub await_seen-requires : goal.await_seen-requires
await_seen-requires g c =
    let id : TableId = c.args.table.now.table.shared.table_id in let z : Opening = c.args.table.now.table.shared.key in
    (c.requires.ours.0, subst (Keeps id z) (sym c.take.ensures.after) tt)

pub returns-clause-ours : goal.returns-clause-ours
returns-clause-ours g c =
    let z : Opening = c.args.table.now.table.shared.key in let id : TableId = c.args.table.now.table.shared.table_id in
    let is : c.args.self.now.turn ≡ Some c.in-Some.turn = sym c.take.ensures.value ∙ c.in-Some.is in
    let kept : Keeps id z (Some c.in-Some.turn) = subst (Keeps id z) is c.requires.ours.1 in
    let p = c.await_published.ensures.published kept.2.0 kept.2.1 kept.2.2 in
    let w = c.requires.launched in
    let e = launched_end z c.args.self.now.turn c.in-Some.turn kept.2.0 kept.2.1 w.0 kept.2.2 is w.1 in
    (c.await_seen.ensures.ours, (kept.2.0 ++ kept.2.1 ∷ [], (c.await_published.ensures.seat.0 ∙ kept.0, c.await_published.ensures.seat.1 ∙ kept.1, p, w.2 ∙ e.0)))

pub returns-clause-seen : goal.returns-clause-seen
returns-clause-seen g c =
    let z : Opening = c.args.table.now.table.shared.key in let k : ℕ = c.args.self.now.client.number in let m = c.args.self.now.client.seat.me in
    subst (λ (t : Option (Turn g.row.ShardTree.Denot g.row.NodeList.Denot)). Learns z.start (account_of k m t) (account c.await_seen.new.self)) c.take.ensures.after c.await_seen.ensures.seen

pub returns-clause-published : goal.returns-clause-published
returns-clause-published g c u launch =
    let z : Opening = c.args.table.now.table.shared.key in let id : TableId = c.args.table.now.table.shared.table_id in let k : ℕ = c.args.self.now.client.number in let o = c.requires.ours.0 in let m = c.args.self.now.client.seat.me in
    let is : c.args.self.now.turn ≡ Some c.in-Some.turn = sym c.take.ensures.value ∙ c.in-Some.is in
    let kept : Keeps id z (Some c.in-Some.turn) = subst (Keeps id z) is c.requires.ours.1 in
    let p = c.await_published.ensures.published kept.2.0 kept.2.1 kept.2.2 in
    let e = launched_end z c.args.self.now.turn c.in-Some.turn kept.2.0 kept.2.1 u kept.2.2 is launch in
    ap (λ l. (first_state l).seen) p ∙ e.1
