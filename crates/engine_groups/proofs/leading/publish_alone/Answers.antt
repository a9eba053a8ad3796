use Rattle.std.proofs.Common.{[], List}
use Rattle.table_rule.specs.declared.content.MemberVersions.{MemberVersions}
use Rattle.table_calls.specs.Account.{Account}
use Rattle.table_nodes.specs.Parts.{group_of}
use Rattle.table_nodes.specs.declared.parts.MemberNodes.{MemberNodes}
use Rattle.engine_parts.proofs.Standing.{none_of}
use Rattle.engine_memtable.proofs.Own.{own_part, has_launched}
use Rattle.engine_groups.proofs.leading.publish_alone.Goals as goal

pub await_group-requires-clause-launched : goal.await_group-requires-clause-launched
await_group-requires-clause-launched g c =
    let a : Account = g.Versions.Table.account c.args.seat.now in let parts : List MemberVersions = group_of c.args.parts.now.parts in
    (a.number, a.seen, g.Versions.Table.history c.args.turn, parts, has_launched _ _ _ _ _ c.launch.ensures.launched (own_part a.number [] parts c.requires.may.each), c.requires.may.ends)

pub returns-clause-history : goal.returns-clause-history
returns-clause-history g c =
    let a : Account = g.Versions.Table.account c.args.seat.now in let parts : List MemberVersions = group_of c.args.parts.now.parts in
    (c.await_group.ensures.published a.number a.seen (g.Versions.Table.history c.args.turn) parts (has_launched _ _ _ _ _ c.launch.ensures.launched (own_part a.number [] parts c.requires.may.each))).0

pub returns-clause-seen : goal.returns-clause-seen
returns-clause-seen g c =
    let a : Account = g.Versions.Table.account c.args.seat.now in let parts : List MemberVersions = group_of c.args.parts.now.parts in
    let p = c.await_group.ensures.published a.number a.seen (g.Versions.Table.history c.args.turn) parts (has_launched _ _ _ _ _ c.launch.ensures.launched (own_part a.number [] parts c.requires.may.each)) in
    (p.1, p.2)

pub returns-clause-emptied : goal.returns-clause-emptied
returns-clause-emptied g c = (
  none_of (λ (part : MemberNodes). record { member = part.member; versions = part.nodes }) c.launch.new.parts.parts c.launch.ensures.emptied,
  c.launch.ensures.room,
)
