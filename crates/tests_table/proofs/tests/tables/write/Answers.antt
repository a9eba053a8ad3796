-- The group has one part, so the last sequence rises by the number of that part's nodes.
use Rattle.std.proofs.Common.{◌≡◌, ◌≢◌, ◌<◌, ◌≤◌, [], ◌∷◌, ◌++◌, List, length, sym, ap, ◌∙◌, subst, arith, append-nil, rules}
use Rattle.table_rule.specs.declared.content.MemberVersions.{MemberVersions}
use Rattle.table_rule.specs.declared.content.Version.{Version}
use Rattle.table_rule.specs.declared.view.Opening.{Opening}
use Rattle.table_rule.specs.Histories.{last_of, versions_in, Apart, Members, Runs}
use Rattle.table_rule.proofs.Histories.{last_snoc}
use Rattle.table_nodes.specs.Parts.{group_of}
use Rattle.table_rule.specs.Steps.{launched_behind}
use Rattle.table_steps.specs.Accounts.{history_of}
use Rattle.table_memory.specs.Meaning.{opening_of, account_of}
use Rattle.tests_table.proofs.tests.tables.write.Goals as goal

pub launch-requires-clause-next : goal.launch-requires-clause-next
launch-requires-clause-next g c =
    let own : MemberVersions = record { member = 2; versions = c.args.nodes } in
    let group : List MemberVersions = group_of c.add.new.self.parts in
    let alone : group ≡ own ∷ [] = search rules in
    let whole : c.args.nodes ≡ versions_in group = sym (append-nil c.args.nodes) ∙ sym (ap versions_in alone) in
    let z : Opening = opening_of c.args.table.now in
    let count : 0 < length c.args.nodes = let n = c.requires.nodes in omega (arith, n) in
    let two : 2 ≤ z.clients = let all = c.requires.clients in omega (arith, all) in
    let members : Members z.clients (own ∷ []) = (omega arith, two, tt, tt) in
    (subst (Runs (last_of z.start (history_of c.args.turn))) whole (subst (λ n. Runs n c.args.nodes) (sym c.requires.last.0) c.requires.nodes.0), subst (λ (l : List Version). 0 < length l) whole count, subst (Members z.clients) (sym alone) members)

-- the client that launched the group has no part to take
pub await_published-requires-clause-idle : goal.await_published-requires-clause-idle
await_published-requires-clause-idle g c =
    let own : MemberVersions = record { member = 2; versions = c.args.nodes } in
    let alone : group_of c.add.new.self.parts ≡ own ∷ [] = search rules in
    let first = c.requires.leader.1 in
    let other : 2 ≢ (account_of c.args.leader.now).number = λ e. omega (arith, e, first) in
    c.launch.ensures.launched.no_part (subst (Apart (account_of c.args.leader.now).number) (sym alone) (other, tt))

pub returns-clause-turn : goal.returns-clause-turn
returns-clause-turn g c =
    let z : Opening = opening_of c.args.table.now in
    let before : List (List MemberVersions) = history_of c.args.turn in
    let group : List MemberVersions = group_of c.add.new.self.parts in
    let history = c.await_published.ensures.published (launched_behind z.start before group) c.launch.ensures.launched.launched_is in
    let is : versions_in group ≡ c.args.nodes ++ [] = search rules in
    let count : length (versions_in group) ≡ c.args.count = ap (λ (l : List Version). length l) (is ∙ append-nil c.args.nodes) ∙ c.requires.nodes.1 in
    let last = ap (last_of z.start) history ∙ last_snoc z.start before group in
    let last_old = c.requires.last.0 in
    (c.await_published.ensures.ours.1, omega (arith, count, last, last_old))
