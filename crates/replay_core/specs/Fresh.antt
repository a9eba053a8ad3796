-- A client before its first line.
use Rattle.std.specs.Prelude.{◌≡◌, ◌≤◌, true, [], length, vec_capacity}
use Rattle.replay_plans.specs.declared.plan.ClientPlan.{ClientPlan}
use Rattle.replay_core.specs.declared.state.Seat.{Seat}

-- the client is before its first line, has no reply yet, and has room for a reply to each line
pub record IsFresh (plan : ClientPlan) (seat : Seat) : Type 0 where
  pub next : seat.next ≡ 0
  pub from : seat.from ≡ 0
  pub idle : seat.idle ≡ true
  pub replies : seat.replies.items ≡ []
  pub room : length plan ≤ vec_capacity seat.replies
