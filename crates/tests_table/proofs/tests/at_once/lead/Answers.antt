-- The group follows the sequence 7, and has three versions.
use Rattle.std.proofs.Common.{◌≡◌, ◌<◌, List, length, sym, ap, ◌∙◌, subst, arith}
use Rattle.table_rule.specs.declared.content.MemberVersions.{MemberVersions}
use Rattle.table_rule.specs.declared.view.Opening.{Opening}
use Rattle.table_rule.specs.Histories.{Members, Runs, last_of, versions_in}
use Rattle.table_rule.specs.Steps.{MayTake, launched_behind}
use Rattle.table_nodes.specs.Parts.{group_of}
use Rattle.table_steps.specs.Accounts.{history_of}
use Rattle.table_memory.specs.Meaning.{opening_of}
use Rattle.tests_table.proofs.tests.at_once.lead.Goals as goal

pub launch-requires-clause-next : goal.launch-requires-clause-next
launch-requires-clause-next g c =
    let z : Opening = opening_of c.args.table.now in
    let group : List MemberVersions = group_of c.three_parts-parts.result.parts in
    let start = c.requires.opening.1 in
    let none = ap (last_of z.start) c.requires.turn.1 in
    let from : last_of z.start (history_of c.args.turn) ≡ 7 = omega (arith, start, none) in
    let run = c.three_parts-parts.ensures.run in
    let some : 0 < length (versions_in group) = let three = run.1 in omega (arith, three) in
    (subst (λ n. Runs n (versions_in group)) (sym from) run.0, some, subst (λ n. Members n group) (sym c.requires.opening.0) c.three_parts-parts.ensures.members)

pub launch-requires-clause-fits : goal.launch-requires-clause-fits
launch-requires-clause-fits g c =
    let z : Opening = opening_of c.args.table.now in
    let start = c.requires.opening.1 in
    let none = ap (last_of z.start) c.requires.turn.1 in
    let three = c.three_parts-parts.ensures.run.1 in
    omega (arith, start, none, three)

pub complete-published-requires-clause-free : goal.complete-published-requires-clause-free
complete-published-requires-clause-free g c =
    let first = c.three_parts-parts.ensures.first in
    subst MayTake (sym (c.launch.ensures.launched.own_part (first.0, first.1, first.2 ∙ sym c.requires.seat.1))) tt

pub await_published-requires-clause-launched : goal.await_published-requires-clause-launched
await_published-requires-clause-launched g c =
    let z : Opening = opening_of c.args.table.now in
    let group : List MemberVersions = group_of c.three_parts-parts.result.parts in
    let start = c.requires.opening.1 in
    let none = ap (last_of z.start) c.requires.turn.1 in
    let three = c.three_parts-parts.ensures.run.1 in
    (launched_behind z.start (history_of c.args.turn) group, c.complete-published.ensures.same.0 ∙ c.launch.ensures.launched.launched_is, omega (arith, start, none, three))
