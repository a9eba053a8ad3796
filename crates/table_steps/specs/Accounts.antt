-- What a seat says of itself to the callers of a table.
use Rattle.std.specs.Prelude.{◌≡◌, ℕ, ◌+◌, ◌<◌, ◌≤◌, List, [], ◌∷◌, Option, None, Some, map}
use Rattle.std.specs.List.{range_with_len}
use Rattle.atomic_table.specs.Seated.{TableId}
use Rattle.table_rule.specs.declared.content.Content.{Content}
use Rattle.table_rule.specs.declared.content.Content.TheVariants.{Blank}
use Rattle.table_rule.specs.declared.content.MemberVersions.{MemberVersions}
use Rattle.table_rule.specs.declared.view.Opening.{Opening}
use Rattle.table_rule.specs.declared.view.SeatState.{SeatState}
use Rattle.table_rule.specs.declared.view.Launched.{Launched}
use Rattle.table_rule.specs.declared.view.Lock.TheVariants.{Free}
use Rattle.table_rule.specs.declared.view.Stage.{Stage}
use Rattle.table_rule.specs.declared.view.Stage.TheVariants.{Idle, Waiting, Holding, Stored, Publishing, Resting, Handing, Filling}
use Rattle.table_rule.specs.Rule.{seat_state}
use Rattle.table_rule.specs.Histories.{In}
use Rattle.table_rule.specs.Steps.{SeatNow, IsAt, launched_behind}
use Rattle.table_calls.specs.Account.{Account, IsReady}
use Rattle.table_steps.specs.declared.launching.Turn.{Turn}
use Rattle.table_steps.specs.declared.seat.TableSeat.{TableSeat}
use Rattle.table_steps.specs.declared.shared.SharedTable.{SharedTable}
use Rattle.table_steps.specs.Ends.{IsTurnOf}

abbrev pub first_state : List SeatState → SeatState
first_state [] = seat_state 0 (record { clients = 0; shards = 0; start = 0; base = [] }) [] Free Idle
first_state (h ∷ hs) = h

-- the group that the turn has launched
abbrev pub launch_in : ℕ → List (List MemberVersions) → Stage → Option Launched
launch_in start before Idle = None
launch_in start before (Waiting u) = None
launch_in start before (Holding w) = None
launch_in start before (Stored u) = None
launch_in start before (Publishing u) = None
launch_in start before Resting = None
launch_in start before (Handing g ps) = Some (launched_behind start before g)
launch_in start before (Filling g p ps) = None

abbrev pub launch_at : SeatState → Option Launched
launch_at h = launch_in h.opening.start h.seen h.stage

module _ {ShardTree NodeList : Type 0} where
  -- what a table was opened for
  abbrev pub opening_of : SharedTable ShardTree NodeList → Opening
  opening_of t = t.table.shared.key

  abbrev pub id_of : SharedTable ShardTree NodeList → TableId
  id_of t = t.table.shared.table_id

  abbrev pub launch_of : Option (Turn ShardTree NodeList) → Option Launched
  launch_of None = None
  launch_of (Some u) = launch_at (first_state u.seat.me.0)

  abbrev pub account_of : ℕ → SeatNow ShardTree NodeList → Option (Turn ShardTree NodeList) → Account
  account_of c m t = record {
    number = c;
    seen = (first_state m.0).seen;
    stage = (first_state m.0).stage;
    launched = launch_of t;
  }

  abbrev pub account : TableSeat ShardTree NodeList → Account
  account s = account_of s.client.number s.client.seat.me s.turn

  -- all that is published, of a turn that may launch
  abbrev pub history_of : Turn ShardTree NodeList → List (List MemberVersions)
  history_of u = (first_state u.seat.me.0).seen

  -- the slots that a seat holds between calls: a part that was taken leaves its empty slot. `last` is the last
  -- sequence of the group whose part was taken last.
  abbrev pub Carries : ℕ → ℕ → Stage → List (ℕ × Content ShardTree NodeList) → Type 0
  Carries slot last Idle l = l ≡ []
  Carries slot last (Waiting u) l = l ≡ []
  Carries slot last (Holding w) l = (l ≡ (slot, Blank) ∷ []) × (last ≡ w.launched.last)
  Carries slot last (Stored u) l = (l ≡ []) × (last ≡ u.last)
  Carries slot last (Publishing u) l = (l ≡ []) × (last ≡ u.last)
  Carries slot last Resting l = ⊥
  Carries slot last (Handing g ps) l = ⊥
  Carries slot last (Filling g p ps) l = ⊥

  -- where a seat keeps the turn, a group is launched, and all its parts are handed out
  abbrev pub Keeps : TableId → Opening → Option (Turn ShardTree NodeList) → Type 0
  Keeps id z None = Unit {0}
  Keeps id z (Some u) = (u.seat.table_id ≡ id) × (u.seat.me.1 ≡ [])
      × ((seen : List (List MemberVersions)) × (g : List MemberVersions) × IsAt 0 z seen Free (Handing g []) u.seat.me)

  -- client c's seat is of this table, and is between two calls
  abbrev pub Sits : TableId → Opening → ℕ → TableId → ℕ → SeatNow ShardTree NodeList → Type 0
  Sits id z c table last m = (table ≡ id) × (0 < c) × (c ≤ z.clients)
      × ((seen : List (List MemberVersions)) × (stage : Stage) × IsAt c z seen Free stage m
      × Carries (z.shards + c) last stage m.1)

  -- the seat is of this table, and is between two calls
  abbrev pub IsOurs : SharedTable ShardTree NodeList → TableSeat ShardTree NodeList → Type 0
  IsOurs t s = Sits (id_of t) (opening_of t) s.client.number s.client.seat.table_id s.last s.client.seat.me
      × Keeps (id_of t) (opening_of t) s.turn

  -- the turn is of this table, and no group is launched
  abbrev pub MayLaunch : SharedTable ShardTree NodeList → Turn ShardTree NodeList → Type 0
  MayLaunch t u = (history : List (List MemberVersions)) × IsTurnOf (id_of t) (opening_of t) history u

  -- nothing is published or launched
  abbrev pub IsTurnAtStart : SharedTable ShardTree NodeList → Turn ShardTree NodeList → Type 0
  IsTurnAtStart t turn = MayLaunch t turn × (history_of turn ≡ [])

  -- the seats of the clients from 1 to `count`, which have seen nothing yet and have nothing to do
  abbrev pub AreSeatsAtStart : SharedTable ShardTree NodeList → ℕ → List (TableSeat ShardTree NodeList) → Type 0
  AreSeatsAtStart t count seats = (map (λ (s : TableSeat ShardTree NodeList). (account s).number) seats
      ≡ range_with_len 1 count)
      × ((seat : TableSeat ShardTree NodeList) → In seat seats → IsOurs t seat × IsReady (account seat)
      × ((account seat).seen ≡ []))
