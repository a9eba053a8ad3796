use Rattle.std.proofs.Common.{◌≡◌, ℕ, ◌+◌, []}
use Rattle.table_rule.specs.Rule.{newcomers}
use Rattle.table_steps.specs.Ends.{AreSeatsOf}
use Rattle.table_steps.proofs.shared.SharedTable.seat_all.Given as goal

abbrev pub invariant-loop-seated : goal.invariant-loop-seated
invariant-loop-seated g l = (l.seat.table_id ≡ l.fn.seat.table_id) × (l.seat.me.1 ≡ []) × ((m : ℕ) × (l.seated + m ≡ l.self.table.shared.key.clients) × (l.seat.me.0 ≡ newcomers l.self.table.shared.key (l.seated + 1) m))
    × AreSeatsOf l.self.table.shared.table_id l.self.table.shared.key l.seated l.clients.items
