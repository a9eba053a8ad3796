-- How views are cut and joined, and what is known at the end.
use Rattle.std.specs.Prelude.{◌≡◌, ℕ, List, [], ◌∷◌}
use Rattle.atomic_table.specs.Table.{Step}
use Rattle.table_rule.specs.declared.content.Content.{Content}
use Rattle.table_rule.specs.declared.view.Lock.TheVariants.{Free}
use Rattle.table_rule.specs.declared.view.Stage.TheVariants.{Resting}
use Rattle.table_rule.specs.Rule.{seat_state}
use Rattle.table_rule.specs.Steps.{SeatNow}
use Rattle.table_rule.specs.declared.content.MemberVersions.{MemberVersions}
use Rattle.table_rule.specs.declared.view.Opening.{Opening}
use Rattle.table_rule.specs.declared.view.SeatState.{SeatState}
use Rattle.table_rule.specs.Histories.{In, Begins, IsHistory, last_of}

-- it is a history, and what each state of the seat has seen is a beginning of it
abbrev pub Closes : Opening → List SeatState → List (List MemberVersions) → Type 0
Closes z v history = IsHistory z.start history × ((h : SeatState) → In h v → Begins h.seen history)

-- a load of LAST by a seat that has the turn's state, without a lock and with no group launched: it finds the end of
-- the turn's history, and each of the seat's states has seen a beginning of that history
abbrev pub after_close : {ShardTree NodeList : Type 0} → Step (Content ShardTree NodeList)
    → SeatNow ShardTree NodeList → ℕ → SeatNow ShardTree NodeList → Type 0
after_close st m r m' = (z : Opening) (history : List (List MemberVersions))
    → In (seat_state 0 z history Free Resting) m.0
    → Closes z m.0 history × (r ≡ last_of z.start history)
