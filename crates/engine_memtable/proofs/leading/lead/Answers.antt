use Rattle.std.proofs.Common.{List}
use Rattle.table_rule.specs.declared.content.MemberVersions.{MemberVersions}
use Rattle.table_calls.specs.Account.{Account}
use Rattle.engine_memtable.proofs.Own.{own_part, has_launched}
use Rattle.engine_memtable.proofs.leading.lead.Goals as goal

pub await_group-requires-clause-launched : goal.await_group-requires-clause-launched
await_group-requires-clause-launched g c =
    let a : Account = g.Versions.Table.account c.args.seat.now in let parts : List MemberVersions = g.GroupList.GroupParts.parts c.args.parts.now in
    (a.number, a.seen, g.Versions.Table.history c.args.turn, parts, has_launched _ _ _ _ _ c.launch.ensures.launched (own_part a.number c.args.members.now parts c.requires.parts), c.requires.end.0)

pub returns-clause-published : goal.returns-clause-published
returns-clause-published g c =
    let a : Account = g.Versions.Table.account c.args.seat.now in let parts : List MemberVersions = g.GroupList.GroupParts.parts c.args.parts.now in
    (c.await_group.ensures.published a.number a.seen (g.Versions.Table.history c.args.turn) parts (has_launched _ _ _ _ _ c.launch.ensures.launched (own_part a.number c.args.members.now parts c.requires.parts))).0

pub returns-clause-seen : goal.returns-clause-seen
returns-clause-seen g c =
    let a : Account = g.Versions.Table.account c.args.seat.now in let parts : List MemberVersions = g.GroupList.GroupParts.parts c.args.parts.now in
    let p = c.await_group.ensures.published a.number a.seen (g.Versions.Table.history c.args.turn) parts (has_launched _ _ _ _ _ c.launch.ensures.launched (own_part a.number c.args.members.now parts c.requires.parts)) in
    (p.1, p.2)
