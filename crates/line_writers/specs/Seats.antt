-- What the contracts of the calls say of a writer.
use Rattle.std.specs.Prelude.{Bool, ◌≡◌, ℕ, ◌<◌, ◌≤◌, ◌⊎◌, List, [], ◌∷◌}
use Rattle.atomic_table.specs.Seated.{TableId}
use Rattle.line_rule.specs.declared.view.LineHold.{LineHold}
use Rattle.line_rule.specs.declared.view.QueuedWriter.{QueuedWriter}
use Rattle.line_rule.specs.declared.view.Handling.{Handling}
use Rattle.line_rule.specs.declared.view.LineStage.TheVariants.{Idle, Preparing}
use Rattle.line_rule.specs.declared.content.LineSlot.TheVariants.{Asked}
use Rattle.line_rule.specs.Chain.{of}
use Rattle.line_rule.specs.declared.content.Start.{Start}
use Rattle.line_rule.specs.declared.rule.LogOfGroups.{Ghosts}
use Rattle.line_rule.specs.Rule.{hold, logs_from, asks_for, given_runs, Unnumbered}
use Rattle.line_rule.specs.declared.view.Back.{Back}
use Rattle.line_rule.specs.Plays.{At, HandsOn}
use Rattle.model_base.specs.declared.group.Item.{Item}
use Rattle.line_writers.specs.declared.writer.Writer.{Writer}
use Rattle.line_writers.specs.declared.writer.Task.TheVariants.{Awaits, Helps}
use Rattle.line_writers.specs.declared.line_writers.WriterList.{WriterList}
use Rattle.line_writers.specs.declared.writer.Role.{Role}
use Rattle.line_writers.specs.Roles.{IsLinked, Becomes, Chosen, Grouped, AreNew}

abbrev pub told_in_first : {Request Reply : Type 0} → List (LineHold Request Reply) → List (Request × Reply)
told_in_first [] = []
told_in_first (h ∷ hs) = h.mine

module _ {Request Reply Log Right : Type 0} where
  -- the number of its client
  abbrev pub client_of : Writer Request Reply Log Right → ℕ
  client_of w = w.client

  -- what the client asked, each request with the reply that came back, in order
  abbrev pub answers_told : Writer Request Reply Log Right → List (Request × Reply)
  answers_told w = told_in_first w.seat.me.0

  -- it is the writer of the same client, at the same list
  abbrev pub Stays : Writer Request Reply Log Right → Writer Request Reply Log Right → Type 0
  Stays new old = (new.seat.table_id ≡ old.seat.table_id) × (new.client ≡ old.client)

  -- it is that writer, and its state is unchanged
  abbrev pub IsUnchanged : Writer Request Reply Log Right → Writer Request Reply Log Right → Type 0
  IsUnchanged new old = Stays new old × (new.task ≡ old.task) × (new.seat.me ≡ old.seat.me)

module _ {Request Reply Log Right About : Type 0} where
  abbrev pub table_of : WriterList Request Reply Log Right About → TableId
  table_of list = list.table.shared.table_id

  abbrev pub clients_of : WriterList Request Reply Log Right About → ℕ
  clients_of list = list.clients

  -- what the log's law is about
  abbrev pub about_of : WriterList Request Reply Log Right About → About
  about_of list = list.table.shared.key.about

  -- the log's number at opening
  abbrev pub start_of : WriterList Request Reply Log Right About → ℕ
  start_of list = list.table.shared.key.log

  -- whether it has the second list
  abbrev pub piped_of : WriterList Request Reply Log Right About → Bool
  piped_of list = list.table.shared.key.pipelined

  -- what the log of this list covers, with the log's number
  abbrev pub law_of : (Reply → ℕ × ℕ) → Ghosts Log Request Reply Right About
      → WriterList Request Reply Log Right About → Log → List (Handling Request Reply) → Type 0
  law_of run log list =
      logs_from (log.stands (about_of list)) (log.kept (about_of list)) log.number_of run (start_of list)

  -- the bound in bytes under which each of its groups is built
  abbrev pub bound_of : WriterList Request Reply Log Right About → ℕ
  bound_of list = list.group_bytes

  -- what holds of each request in this list, and of its code
  abbrev pub asks_of : (Request → Item) → (About → Request → Type 0) → WriterList Request Reply Log Right About
      → Request → ℕ → Type 0
  asks_of item_of lawful list = asks_for item_of lawful (about_of list)

  -- what holds of all that this list's leaders handle, wherever the log is
  abbrev pub kept_of : (About → List (Handling Request Reply) → Type 0) → WriterList Request Reply Log Right About
      → List (Handling Request Reply) → Type 0
  kept_of kept list = kept (about_of list)

  -- with which reply a writer of this list leaves the queue
  abbrev pub drops_of : (About → Request → Reply → Type 0) → WriterList Request Reply Log Right About
      → Request → Reply → Type 0
  drops_of drops list = drops (about_of list)

  -- where there is a second list, nothing that was handled in between was given a run, as with a group that is refused
  abbrev pub flat_of : (Reply → ℕ × ℕ) → WriterList Request Reply Log Right About → List (Handling Request Reply)
      → List (Handling Request Reply) → Type 0
  flat_of run list = Unnumbered (piped_of list) (given_runs run)

  -- what a leader needs in order to give the log on, while its group is in this state of the second list
  abbrev pub hands_of : (Reply → ℕ × ℕ) → WriterList Request Reply Log Right About → Back Request Reply
      → List (Handling Request Reply) → List (Handling Request Reply) → Type 0
  hands_of run list = HandsOn (piped_of list) (given_runs run)

  abbrev pub AllNew : WriterList Request Reply Log Right About → List (Writer Request Reply Log Right) → Type 0
  AllNew list ws = AreNew list.table.shared.table_id list.clients ws

  -- this is the list that was asked for, and these are its writers, none of which has done anything yet
  abbrev pub HasOpened : Start About → WriterList Request Reply Log Right About → List (Writer Request Reply Log Right)
      → Type 0
  HasOpened start list ws = (clients_of list ≡ start.clients) × (start_of list ≡ start.log)
      × (about_of list ≡ start.about)
      × (piped_of list ≡ start.pipelined) × AllNew list ws × (bound_of list ≡ start.group_bytes)

  -- it is a writer of this list
  abbrev pub Belongs : WriterList Request Reply Log Right About → Writer Request Reply Log Right → Type 0
  Belongs list w = (w.seat.table_id ≡ table_of list) × (0 < w.client) × (w.client ≤ clients_of list)

module _ {Request Reply Log Right : Type 0} where
  -- it is in no list
  abbrev pub IsOut : Writer Request Reply Log Right → Type 0
  IsOut w = At w.client Idle (answers_told w) w.seat.me × (w.seat.me.1 ≡ [])

  -- it is in the list with q
  abbrev pub IsIn : (Log → List (Handling Request Reply) → Type 0) → Request → List (Request × Reply)
      → Writer Request Reply Log Right → Type 0
  IsIn stood q mine w = IsLinked stood w.client w.task q mine w.seat.me

  -- its request q is in its slot, and it is in no list yet
  abbrev pub IsEntering : Request → List (Request × Reply) → Writer Request Reply Log Right → Type 0
  IsEntering q mine w = (older : ℕ) × At w.client (Preparing older) mine w.seat.me
      × (w.seat.me.1 ≡ (w.client, Asked q) ∷ [])

  -- it waits for its role
  abbrev pub AwaitsRole : Writer Request Reply Log Right → Type 0
  AwaitsRole w = w.task ≡ Awaits

  -- it should work in parallel with its leader, and knows that
  abbrev pub IsHelping : Writer Request Reply Log Right → Type 0
  IsHelping w = w.task ≡ Helps

  abbrev pub HasRole : (Log → List (Handling Request Reply) → Type 0) → (List (Handling Request Reply) → Type 0)
      → (Request → Reply → Type 0) → Request → List (Request × Reply)
      → Role Log Reply → Writer Request Reply Log Right → Type 0
  HasRole stood kept drops q mine role w = Becomes stood kept drops w.client q mine role w.seat.me

  -- it leads, as the writer `own`, and `seen` is all that was handled before
  abbrev pub IsChosen : QueuedWriter Request → List (Handling Request Reply) → List (Request × Reply)
      → Writer Request Reply Log Right → Type 0
  IsChosen own seen mine w = Chosen w.client own seen mine w.seat.me

  -- it has a group and its requests, and the law holds of them; the group is what the grouping rule gives, under the
  -- bound `max`, for the whole queue as it was after the events that the leader knows; `left` are the writers that the
  -- group left there
  abbrev pub HasGroup : (Request → ℕ → Type 0) → ℕ → ℕ → QueuedWriter Request → List (QueuedWriter Request)
      → List (QueuedWriter Request) → List (Handling Request Reply)
      → List (Request × Reply)
      → Writer Request Reply Log Right → Type 0
  HasGroup law n max own group left seen mine w = Grouped law n max w.client own group left seen mine w.seat.me

  abbrev pub AllOut : TableId → List (Writer Request Reply Log Right) → Type 0
  AllOut table [] = Unit {0}
  AllOut table (w ∷ ws) = (w.seat.table_id ≡ table) × IsOut w × AllOut table ws

  abbrev pub HasClient : ℕ → List (Writer Request Reply Log Right) → Type 0
  HasClient i [] = ⊥
  HasClient i (w ∷ ws) = (w.client ≡ i) ⊎ HasClient i ws

  -- each client's writer is here
  abbrev pub AllThere : ℕ → List (Writer Request Reply Log Right) → Type 0
  AllThere n ws = (i : ℕ) → 0 < i → i ≤ n → HasClient i ws

  -- each writer's own part of what was handled is what it asked and was answered, in its order
  abbrev pub Merged : List (Handling Request Reply) → List (Writer Request Reply Log Right) → Type 0
  Merged handled [] = Unit {0}
  Merged handled (w ∷ ws) = (of w.client handled ≡ answers_told w) × Merged handled ws

  abbrev pub holds_of : List (Writer Request Reply Log Right) → List (LineHold Request Reply)
  holds_of [] = []
  holds_of (w ∷ ws) = hold w.client Idle (answers_told w) ∷ holds_of ws
