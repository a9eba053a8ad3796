-- Both seats are of the table, and have nothing to do.
use Rattle.std.proofs.Common.{◌≡◌, [], ◌∷◌, subst, inl, inr, rules}
use Rattle.table_rule.specs.Histories.{In}
use Rattle.tests_table.specs.Clients.{IsIdle}
use Rattle.tests_table.proofs.tests.tables.close.Goals as goal

pub close-requires-clause-clients : goal.close-requires-clause-clients
close-requires-clause-clients c seat i =
    let first = c.args.first in
    let second = c.args.second in
    let table = c.args.table in
    let both : c.in_ok-clients.clients.items ≡ first ∷ second ∷ [] = search rules in
    let j : In seat (first ∷ second ∷ []) = subst (In seat) both i in
    elim j [
      | inl e ↦ subst (IsIdle table) e c.requires.first
      | inr k ↦ elim k [
        | inl e ↦ subst (IsIdle table) e c.requires.second
        | inr none ↦ absurd none
      ]
    ]
