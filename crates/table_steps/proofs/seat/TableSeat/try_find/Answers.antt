use Rattle.std.proofs.Common.{◌≡◌, ℕ, ◌+◌, List, [], ◌∷◌, sym, ap, ◌∙◌, subst}
use Rattle.std.proofs.lemmas.Result.{IfOk-weaker}
use Rattle.atomic_table.specs.Table.{rest}
use Rattle.atomic_table.specs.Seated.{TableId}
use Rattle.table_rule.specs.declared.content.MemberVersions.{MemberVersions}
use Rattle.table_rule.specs.declared.content.Version.{Version}
use Rattle.table_rule.specs.declared.view.Opening.{Opening}
use Rattle.table_rule.specs.declared.view.Lock.TheVariants.{Free}
use Rattle.table_rule.specs.Histories.{IsOrderUpTo, standing, of_shard}
use Rattle.table_rule.specs.Rule.{seat_state}
use Rattle.table_rule.proofs.Answers.{seen_order}
use Rattle.table_steps.specs.Accounts.{first_state, Carries}
use Rattle.table_steps.proofs.Keyed.{renamed}
use Rattle.table_steps.proofs.Accounts.{stands, same_account}
use Rattle.table_steps.proofs.seat.TableSeat.try_find.Goals as goal

pub unlock-requires-clause-held : goal.unlock-requires-clause-held
unlock-requires-clause-held g c =
    let z : Opening = c.args.table.now.table.shared.key in let id : TableId = c.args.table.now.table.shared.table_id in let k : ℕ = c.args.self.now.client.number in let o = c.requires.ours.0 in let m = c.args.self.now.client.seat.me in
    let l = c.in_ok-tree.ensures.locked o.3.0 o.3.1 o.3.2 in
    (o.3.0, o.3.1, m.1, renamed k c.try_lock.new.who.number z o.3.0 _ o.3.1 c.try_lock.new.who.seat.me c.try_lock.ensures.seat.1 l.0, l.1)

pub returns-clause-ours : goal.returns-clause-ours
returns-clause-ours g c =
    let z : Opening = c.args.table.now.table.shared.key in let id : TableId = c.args.table.now.table.shared.table_id in let k : ℕ = c.args.self.now.client.number in let o = c.requires.ours.0 in let m = c.args.self.now.client.seat.me in
    let l = c.in_ok-tree.ensures.locked o.3.0 o.3.1 o.3.2 in
    let n : c.try_lock.new.who.number ≡ k = c.try_lock.ensures.seat.1 in
    let free = c.unlock.ensures.free o.3.0 o.3.1 (renamed k c.try_lock.new.who.number z o.3.0 _ o.3.1 c.try_lock.new.who.seat.me n l.0) in
    let at = renamed c.try_lock.new.who.number k z o.3.0 Free o.3.1 c.unlock.new.who.seat.me (sym n) free in
    let s = c.unlock.ensures.seat in
    (stands id z k c.unlock.new.who.number c.unlock.new.who.seat.table_id c.args.self.now.last c.unlock.new.who.seat.me (s.0 ∙ c.try_lock.ensures.seat.0 ∙ o.0) (s.1 ∙ n) o.1 o.2 o.3.0 o.3.1 at (subst (λ l. Carries (z.shards + k) c.args.self.now.last o.3.1 l) (sym (s.2 ∙ ap rest l.1)) o.3.3), c.requires.ours.1)

pub returns-clause-same : goal.returns-clause-same
returns-clause-same g c =
    let z : Opening = c.args.table.now.table.shared.key in let id : TableId = c.args.table.now.table.shared.table_id in let k : ℕ = c.args.self.now.client.number in let o = c.requires.ours.0 in let m = c.args.self.now.client.seat.me in
    let l = c.in_ok-tree.ensures.locked o.3.0 o.3.1 o.3.2 in
    let n : c.try_lock.new.who.number ≡ k = c.try_lock.ensures.seat.1 in
    let free = c.unlock.ensures.free o.3.0 o.3.1 (renamed k c.try_lock.new.who.number z o.3.0 _ o.3.1 c.try_lock.new.who.seat.me n l.0) in
    same_account k c.unlock.new.who.number z o.3.0 o.3.1 m c.unlock.new.who.seat.me c.args.self.now.turn (c.unlock.ensures.seat.1 ∙ n) o.3.2
    (renamed c.try_lock.new.who.number k z o.3.0 Free o.3.1 c.unlock.new.who.seat.me (sym n) free)

pub returns-clause-value : goal.returns-clause-value
returns-clause-value g c =
    let z : Opening = c.args.table.now.table.shared.key in let id : TableId = c.args.table.now.table.shared.table_id in let k : ℕ = c.args.self.now.client.number in let o = c.requires.ours.0 in let m = c.args.self.now.client.seat.me in
    let seen : List (List MemberVersions) = (first_state m.0).seen in let vs : List Version = g.ShardTree.Versioned.versions c.in_ok-tree.tree in
    let same : seen ≡ o.3.0 = ap (λ l. (first_state l).seen) o.3.2 in
    let at = o.3.2 ∙ ap (λ (y : List (List MemberVersions)). seat_state k z y Free o.3.1 ∷ []) (sym same) in
    let l = c.in_ok-tree.ensures.locked seen o.3.1 at in
    let order : List Version = of_shard z.shards c.args.shard (standing z.base seen) in
    IfOk-weaker c.copied-found.result _ _
    (λ found h. h order (subst (λ (n : ℕ). IsOrderUpTo n vs order) (sym c.requires.at) (seen_order z c.args.shard seen vs c.requires.history.0 l.2)))
    c.copied-found.ensures
