-- What clients of a test are doing in the list: they are out of it, ask, lead, or have their group in the second list.
use Rattle.std.specs.Prelude.{◌≡◌, ℕ, ◌+◌, ◌-◌, ◌<◌, ◌≤◌, true, List, [], ◌∷◌, length, slice_index_or, vec_capacity, ⊤}
use Rattle.line_rule.specs.declared.view.QueuedWriter.{QueuedWriter}
use Rattle.line_rule.specs.declared.view.Handling.{Handling}
use Rattle.line_rule.specs.declared.view.Debt.{Debt}
use Rattle.line_rule.specs.Rule.{logs_from}
use Rattle.line_writers.specs.declared.writer.Writer.{Writer}
use Rattle.line_writers.specs.declared.line_writers.WriterList.{WriterList}
use Rattle.line_writers.specs.declared.room.Lists.{Lists}
use Rattle.line_rule.specs.Members.{asks}
use Rattle.line_writers.specs.Roles.{AreMembers}
use Rattle.line_writers.specs.Rooms.{TakesRequests, TakesReplies, HasRoom, AreReady}
use Rattle.line_writers.specs.Second.{IsSent, HasRight, ListsMembers}
use Rattle.line_writers.specs.Seats.{clients_of, start_of, piped_of, about_of, asks_of, Belongs, IsOut, IsIn, IsChosen, HasGroup, answers_told}
use Rattle.tests_line_stages.specs.declared.client.StagePlayer.{StagePlayer}
use Rattle.tests_line_stages.specs.declared.client.PlayerStage.{PlayerStage}
use Rattle.tests_line_stages.specs.declared.client.PlayerStage.TheVariants.{Out, Linked, Leads, Grouped, Waits, Serves}
use Rattle.tests_line.specs.declared.counter.CountRequest.{CountRequest}
use Rattle.tests_line.specs.declared.counter.CountReply.{CountReply}
use Rattle.tests_line.specs.declared.counter.CountLog.{CountLog}
use Rattle.tests_line_stages.specs.declared.counter.CountingRight.{CountingRight}

abbrev pub Counted : Type 0
Counted = WriterList CountRequest CountReply CountLog CountingRight ℕ

-- the list has a second list, and its numbers begin at 0
abbrev pub IsPipelined : Counted → Type 0
IsPipelined list = (start_of list ≡ 0) × (piped_of list ≡ true)

-- what a counter of this list says of the handlings: nothing more than what holds anyway
abbrev pub law : Counted → CountLog → List (Handling CountRequest CountReply) → Type 0
law list =
    logs_from (λ c hs. about_of list ≡ about_of list) (λ hs. about_of list ≡ about_of list) (λ c. 0) (λ a. (0, 0))
    (start_of list)

-- what must hold of a request in this list: its code is that of its item
abbrev pub asked : Counted → CountRequest → ℕ → Type 0
asked list = asks_of (λ a. a.item) (λ _ _. ⊤) list

-- the writer is this client's, and is out of the list
abbrev pub IsIdle : Counted → ℕ → Writer CountRequest CountReply CountLog CountingRight → Type 0
IsIdle list k w = Belongs list w × IsOut w × (w.client ≡ k)

-- the writers are those of the clients n, n - 1 and so on, and are out of the list
abbrev pub AreIdle : Counted → ℕ → List (Writer CountRequest CountReply CountLog CountingRight) → Type 0
AreIdle list n [] = Unit {0}
AreIdle list n (w ∷ ws) = IsIdle list n w × AreIdle list (n - 1) ws

-- the writer is in the list, with a request
abbrev pub IsAsking : Counted → Writer CountRequest CountReply CountLog CountingRight → Type 0
IsAsking list w = (q : CountRequest) × IsIn (law list) q (answers_told w) w

-- the writer leads, and has the log
abbrev pub IsLeader : Counted → Writer CountRequest CountReply CountLog CountingRight → Type 0
IsLeader list w = Belongs list w
    × ((own : QueuedWriter CountRequest) × (seen : List (Handling CountRequest CountReply))
    × IsChosen own seen (answers_told w) w)

-- the writer leads, and has the requests of its group in its lists
abbrev pub HasRequests : Counted → Writer CountRequest CountReply CountLog CountingRight → Lists CountRequest CountReply
    → Type 0
HasRequests list w lists = Belongs list w
    × ((max : ℕ) × (own : QueuedWriter CountRequest) × (group left : List (QueuedWriter CountRequest))
    × (seen : List (Handling CountRequest CountReply))
    × HasGroup (asked list) (clients_of list) max own group left seen (answers_told w) w
    × (lists.requests.list.items ≡ asks own group))
    × (length lists.requests.list.items ≤ clients_of list) × (clients_of list ≤ vec_capacity lists.requests.list)
    × TakesReplies (clients_of list) lists.replies × HasRoom (clients_of list) lists.room

-- the client's `members` has room for the other members of any group
abbrev pub TakesMembers : Counted → StagePlayer → Type 0
TakesMembers list p = clients_of list ≤ vec_capacity p.members

-- this client is out of the list, and may write
abbrev pub MayWrite : Counted → ℕ → StagePlayer → Type 0
MayWrite list k p = IsIdle list k p.writer × AreReady (clients_of list) p.lists × TakesMembers list p

-- this client is in the list, with a request
abbrev pub HasAsked : Counted → ℕ → StagePlayer → Type 0
HasAsked list k p = Belongs list p.writer × IsAsking list p.writer × (p.writer.client ≡ k)
    × AreReady (clients_of list) p.lists × TakesMembers list p

-- the client's group is in the second list, and its `members` are other members of that group
abbrev pub IsSentOn : Counted → StagePlayer → Type 0
IsSentOn list p = Belongs list p.writer
    × ((d : Debt CountRequest CountReply) × (from to : List (Handling CountRequest CountReply))
    × (mine : List (CountRequest × CountReply)) × IsSent (λ _ _. ⊤) (clients_of list) d from to mine p.writer
    × ListsMembers (clients_of list) d p.lists.room × AreMembers (clients_of list) p.members.items d.rest)
    × TakesRequests (clients_of list) p.lists.requests × TakesReplies (clients_of list) p.lists.replies
    × TakesMembers list p

-- as `IsSentOn`, and the client has the right to serve its group
abbrev pub MayServe : Counted → StagePlayer → Type 0
MayServe list p = Belongs list p.writer
    × ((d : Debt CountRequest CountReply) × (from to : List (Handling CountRequest CountReply))
    × (mine : List (CountRequest × CountReply)) × HasRight (clients_of list) d from to mine p.writer
    × ListsMembers (clients_of list) d p.lists.room × AreMembers (clients_of list) p.members.items d.rest)
    × TakesRequests (clients_of list) p.lists.requests × TakesReplies (clients_of list) p.lists.replies
    × TakesMembers list p

-- the client is in the list where this stage says
abbrev pub StandsAt : Counted → StagePlayer → PlayerStage → Type 0
StandsAt list p Out = MayWrite list p.writer.client p
StandsAt list p Linked = HasAsked list p.writer.client p
StandsAt list p (Leads log) = IsLeader list p.writer × AreReady (clients_of list) p.lists × TakesMembers list p
StandsAt list p (Grouped log) = HasRequests list p.writer p.lists × TakesMembers list p
StandsAt list p (Waits first next) = IsSentOn list p
StandsAt list p (Serves right) = MayServe list p

-- it is this client, and it is in the list where its own stage says
abbrev pub Stands : Counted → ℕ → StagePlayer → Type 0
Stands list k p = (p.writer.client ≡ k) × StandsAt list p p.stage

-- all of these clients, who are numbered from 1 on, may write
pub record AllMayWrite (list : Counted) (ps : List StagePlayer) : Type 0 where
  pub each : (i : ℕ) (d : StagePlayer) → i < length ps → MayWrite list (i + 1) (slice_index_or ps i d)

-- all of these clients, who are numbered from 1 on, are in the list where their stages say
pub record AllStand (list : Counted) (ps : List StagePlayer) : Type 0 where
  pub each : (i : ℕ) (d : StagePlayer) → i < length ps → Stands list (i + 1) (slice_index_or ps i d)
