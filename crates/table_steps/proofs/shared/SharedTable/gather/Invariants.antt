use Rattle.std.proofs.Common.{◌≡◌, List, ◌++◌, vec_len}
use Rattle.table_rule.specs.declared.content.MemberVersions.{MemberVersions}
use Rattle.table_rule.specs.declared.view.Lock.TheVariants.{Free}
use Rattle.table_rule.specs.declared.view.Stage.TheVariants.{Resting}
use Rattle.table_rule.specs.Histories.{In}
use Rattle.table_rule.specs.Rule.{seat_state}
use Rattle.table_rule.specs.Steps.{IsAt}
use Rattle.table_steps.specs.declared.seat.TableSeat.{TableSeat}
use Rattle.table_steps.specs.Ends.{AreJoined}
use Rattle.table_steps.proofs.shared.SharedTable.gather.Given as goal

abbrev pub invariant-loop-seat : goal.invariant-loop-seat
invariant-loop-seat g l = (l.turn.seat.table_id ≡ l.fn.turn.seat.table_id)
    × ((history : List (List MemberVersions)) → IsAt 0 l.self.table.shared.key history Free Resting l.fn.turn.seat.me → In (seat_state 0 l.self.table.shared.key history Free Resting) l.turn.seat.me.0)
    × ((back : List (TableSeat g.row.ShardTree.Denot g.row.NodeList.Denot)) × (l.fn.clients.items ≡ l.clients.items ++ back) × AreJoined l.self.table.shared.key back l.turn.seat.me.0)

abbrev pub decreases-loop-seat : goal.decreases-loop-seat
decreases-loop-seat g l = vec_len l.clients
