-- What the steps say of a seat.
use Rattle.std.specs.Prelude.{◌≡◌, ℕ, List, ◌∷◌}
use Rattle.table_rule.specs.declared.content.Version.{Version}
use Rattle.table_rule.specs.declared.content.MemberVersions.{MemberVersions}
use Rattle.table_rule.specs.declared.content.Content.TheVariants.{Blank}
use Rattle.table_rule.specs.declared.view.Opening.{Opening}
use Rattle.table_rule.specs.declared.view.Lock.TheVariants.{Held}
use Rattle.table_rule.specs.declared.view.Stage.{Stage}
use Rattle.table_rule.specs.Steps.{SeatNow, IsAt, Shows, IsFresh}

module _ {ShardTree NodeList : Type 0} where
  -- the seat has the shard's tree, which shows what the seat has seen
  abbrev pub Locked : ℕ → Opening → ℕ → List (List MemberVersions) → Stage → List Version
      → SeatNow ShardTree NodeList → SeatNow ShardTree NodeList
      → Type 0
  Locked c z shard seen stage vs m m' = IsAt c z seen (Held shard vs) stage m' × (m'.1 ≡ (shard, Blank) ∷ m.1)
      × Shows z shard seen vs × IsFresh stage vs
