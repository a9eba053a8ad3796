-- What clients of a test are doing in the list: they are out of it, ask, lead, or lead with their group.
use Rattle.std.specs.Prelude.{◌≡◌, ℕ, ◌+◌, ◌-◌, ◌<◌, ◌≤◌, false, List, [], ◌∷◌, length, slice_index_or, vec_capacity, ⊤}
use Rattle.line_rule.specs.declared.view.QueuedWriter.{QueuedWriter}
use Rattle.line_rule.specs.declared.view.Handling.{Handling}
use Rattle.line_rule.specs.Rule.{logs_from}
use Rattle.line_writers.specs.declared.writer.Writer.{Writer}
use Rattle.line_writers.specs.declared.line_writers.WriterList.{WriterList}
use Rattle.line_writers.specs.declared.room.Lists.{Lists}
use Rattle.line_rule.specs.Members.{asks}
use Rattle.line_writers.specs.Rooms.{TakesReplies, HasRoom, AreReady}
use Rattle.line_writers.specs.Seats.{clients_of, start_of, piped_of, about_of, asks_of, Belongs, IsOut, IsIn, IsChosen, HasGroup}
use Rattle.line_writers.specs.Seats.{answers_told}
use Rattle.tests_line.specs.declared.counter.CountRequest.{CountRequest}
use Rattle.tests_line.specs.declared.counter.CountReply.{CountReply}
use Rattle.tests_line.specs.declared.counter.CountLog.{CountLog}
use Rattle.tests_line.specs.declared.counter.Nothing.{Nothing}
use Rattle.tests_line.specs.declared.counter.Player.{Player}

abbrev pub Counted : Type 0
Counted = WriterList CountRequest CountReply CountLog Nothing ℕ

-- the list has no second list, and its numbers begin at 0
abbrev pub IsPlain : Counted → Type 0
IsPlain list = (start_of list ≡ 0) × (piped_of list ≡ false)

-- the writer is this client's, and is out of the list
abbrev pub IsSat : Counted → ℕ → Writer CountRequest CountReply CountLog Nothing → Type 0
IsSat list k w = Belongs list w × IsOut w × (w.client ≡ k)

-- what a counter of this list says of the handlings: nothing more than what holds anyway
abbrev pub law : Counted → CountLog → List (Handling CountRequest CountReply) → Type 0
law list =
    logs_from (λ c hs. about_of list ≡ about_of list) (λ hs. about_of list ≡ about_of list) (λ c. 0) (λ a. (0, 0))
    (start_of list)

-- what must hold of a request in this list: its code is that of its item
abbrev pub asked : Counted → CountRequest → ℕ → Type 0
asked list = asks_of (λ a. a.item) (λ _ _. ⊤) list

-- the writer is in the list, with a request
abbrev pub IsAsking : Counted → Writer CountRequest CountReply CountLog Nothing → Type 0
IsAsking list w = (q : CountRequest) × IsIn (law list) q (answers_told w) w

-- the writer leads, and has the log
abbrev pub Leads : Counted → Writer CountRequest CountReply CountLog Nothing → Type 0
Leads list w = Belongs list w × ((own : QueuedWriter CountRequest) × (seen : List (Handling CountRequest CountReply))
    × IsChosen own seen (answers_told w) w)

-- this client is out of the list, and may write
abbrev pub MayWrite : Counted → ℕ → Player → Type 0
MayWrite list k p = IsSat list k p.writer × AreReady (clients_of list) p.lists

-- this client is in the list, with a request
abbrev pub HasAsked : Counted → ℕ → Player → Type 0
HasAsked list k p = Belongs list p.writer × IsAsking list p.writer × (p.writer.client ≡ k)
    × AreReady (clients_of list) p.lists

-- all of these clients, who are numbered from 1 on, may write
pub record AllMayWrite (list : Counted) (ps : List Player) : Type 0 where
  pub each : (i : ℕ) (d : Player) → i < length ps → MayWrite list (i + 1) (slice_index_or ps i d)

pub record AllHaveAsked (list : Counted) (ps : List Player) : Type 0 where
  pub each : (i : ℕ) (d : Player) → i < length ps → HasAsked list (i + 1) (slice_index_or ps i d)

-- the writers are those of the clients n, n - 1 and so on, and are out of the list
abbrev pub AreSat : Counted → ℕ → List (Writer CountRequest CountReply CountLog Nothing) → Type 0
AreSat list n [] = Unit {0}
AreSat list n (w ∷ ws) = IsSat list n w × AreSat list (n - 1) ws

-- the writer leads, and has the requests of its group in its lists
abbrev pub HasRequests : Counted → Writer CountRequest CountReply CountLog Nothing → Lists CountRequest CountReply
    → Type 0
HasRequests list w lists = Belongs list w
    × ((max : ℕ) × (own : QueuedWriter CountRequest) × (group left : List (QueuedWriter CountRequest))
    × (seen : List (Handling CountRequest CountReply))
    × HasGroup (asked list) (clients_of list) max own group left seen (answers_told w) w
    × (lists.requests.list.items ≡ asks own group))
    × (length lists.requests.list.items ≤ clients_of list) × (clients_of list ≤ vec_capacity lists.requests.list)
    × TakesReplies (clients_of list) lists.replies × HasRoom (clients_of list) lists.room
