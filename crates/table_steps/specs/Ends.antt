-- The table at opening and at closing.
use Rattle.std.specs.Prelude.{◌<◌, ◌≤◌, ◌≡◌, ◌↔◌, ℕ, List, [], length, map, None}
use Rattle.std.specs.List.{range_with_len}
use mathlib.Core.Option.{some}
use lib.ListN.{get_elem?}
use Rattle.atomic_table.specs.Seated.{TableId}
use Rattle.table_rule.specs.declared.content.Version.{Version}
use Rattle.table_rule.specs.declared.content.MemberVersions.{MemberVersions}
use Rattle.table_rule.specs.declared.view.Opening.{Opening}
use Rattle.table_rule.specs.declared.view.SeatState.{SeatState}
use Rattle.table_rule.specs.declared.view.Lock.TheVariants.{Free}
use Rattle.table_rule.specs.declared.view.Stage.TheVariants.{Idle, Resting}
use Rattle.table_rule.specs.Histories.{In, Begins, last_of, shard_of}
use Rattle.table_rule.specs.Rule.{seat_state}
use Rattle.table_rule.specs.Steps.{IsAt}
use Rattle.table_steps.specs.declared.shared.Client.{Client}
use Rattle.table_steps.specs.declared.launching.Turn.{Turn}
use Rattle.table_steps.specs.declared.seat.TableSeat.{TableSeat}

-- each tree, one for a shard, has the versions of the base that are of its shard
abbrev pub BearBase : {ShardTree : Type 0} → (ShardTree → List Version) → List Version → List ShardTree → Type 0
BearBase versions_of base trees = (j : ℕ) (tree : _) (v : Version) → get_elem? trees j ≡ some tree
    → In v (versions_of tree) ↔ (In v base × (shard_of (length trees) v ≡ j))

module _ {ShardTree NodeList : Type 0} where
  -- the turn is of this table, no group is launched, and `history` is all that is published
  abbrev pub IsTurnOf : TableId → Opening → List (List MemberVersions) → Turn ShardTree NodeList → Type 0
  IsTurnOf id z history turn = (turn.seat.table_id ≡ id) × (turn.seat.me.1 ≡ [])
      × IsAt 0 z history Free Resting turn.seat.me × (turn.last ≡ last_of z.start history)

  -- the client's seat is of this table and has nothing to do, and `seen` is what it has seen
  abbrev pub IsSeatOf : TableId → Opening → List (List MemberVersions) → Client ShardTree NodeList → Type 0
  IsSeatOf id z seen client = (client.seat.table_id ≡ id) × (client.seat.me.1 ≡ [])
      × IsAt client.number z seen Free Idle client.seat.me

  -- the seats of the clients from 1 to `count`, which have seen nothing yet and have nothing to do
  abbrev pub AreSeatsOf : TableId → Opening → ℕ → List (TableSeat ShardTree NodeList) → Type 0
  AreSeatsOf id z count seats = (map (λ (s : TableSeat ShardTree NodeList). s.client.number) seats
      ≡ range_with_len 1 count)
      × ((seat : TableSeat ShardTree NodeList) → In seat seats
      → IsSeatOf id z [] seat.client × (seat.turn ≡ None) × (0 < seat.client.number) × (seat.client.number ≤ count))

  -- all are seats of this table, with nothing to do
  abbrev pub AreIdle : TableId → Opening → List (TableSeat ShardTree NodeList) → Type 0
  AreIdle id z seats = (seat : TableSeat ShardTree NodeList) → In seat seats
      → (seen : List (List MemberVersions)) × IsSeatOf id z seen seat.client

  -- what each has seen is a beginning of the history
  abbrev pub HaveSeen : Opening → List (List MemberVersions) → List (TableSeat ShardTree NodeList) → Type 0
  HaveSeen z history seats = (seat : TableSeat ShardTree NodeList) (seen : List (List MemberVersions))
      → In seat seats
      → IsAt seat.client.number z seen Free Idle seat.client.seat.me → Begins seen history

  -- the states of these seats are among those that were joined
  abbrev pub AreJoined : Opening → List (TableSeat ShardTree NodeList) → List SeatState → Type 0
  AreJoined z seats v = (seat : TableSeat ShardTree NodeList) (seen : List (List MemberVersions)) → In seat seats
      → IsAt seat.client.number z seen Free Idle seat.client.seat.me
      → In (seat_state seat.client.number z seen Free Idle) v
