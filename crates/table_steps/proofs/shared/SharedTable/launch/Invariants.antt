use Rattle.std.proofs.Common.{◌≡◌, List, [], length}
use Rattle.table_rule.specs.declared.content.MemberVersions.{MemberVersions}
use Rattle.table_rule.specs.declared.view.Lock.TheVariants.{Free}
use Rattle.table_rule.specs.declared.view.Stage.TheVariants.{Idle, Resting, Handing}
use Rattle.table_rule.specs.Histories.{Members}
use Rattle.table_rule.specs.Steps.{IsAt}
use Rattle.table_steps.proofs.shared.SharedTable.launch.Given as goal

abbrev pub ghosts-set_running : goal.ghosts-set_running
ghosts-set_running g a = record { group = g.GroupList.GroupParts.parts a.parts.now }

abbrev pub invariant-loop-member : goal.invariant-loop-member
invariant-loop-member g l = (l.turn.seat.table_id ≡ l.fn.turn.seat.table_id) × (l.turn.seat.me.1 ≡ []) × (l.turn.last ≡ l.fn.turn.last)
    × ((own seen : List (List MemberVersions)) → IsAt l.fn.who.number l.self.table.shared.key own Free Idle l.fn.who.seat.me → IsAt 0 l.self.table.shared.key seen Free Resting l.fn.turn.seat.me → IsAt 0 l.self.table.shared.key seen Free (Handing (g.GroupList.GroupParts.parts l.fn.parts) (g.GroupList.GroupParts.parts l.parts)) l.turn.seat.me)
    × Members l.self.table.shared.key.clients (g.GroupList.GroupParts.parts l.parts)
    × (g.GroupList.GroupParts.room l.parts ≡ g.GroupList.GroupParts.room l.fn.parts)

abbrev pub decreases-loop-member : goal.decreases-loop-member
decreases-loop-member g l = length (g.GroupList.GroupParts.parts l.parts)
