-- A leader that stalls writes while its group waits.
use Rattle.std.specs.Prelude.{◌≡◌, ℕ, Bool, true, List, [], ◌∷◌, length, ⊤}
use Rattle.log_writer.specs.declared.group_log.GroupLog.{Ghosts}
use Rattle.line_rule.specs.declared.view.QueuedWriter.{QueuedWriter}
use Rattle.line_rule.specs.declared.view.Handling.{Handling}
use Rattle.line_rule.specs.Events.{is_hasty}
use Rattle.line_rule.specs.Members.{asks}
use Rattle.line_writers.specs.declared.writer.Writer.{Writer}
use Rattle.line_writers.specs.declared.line_writers.WriterList.{WriterList}
use Rattle.line_writers.specs.declared.room.Room.{Room}
use Rattle.line_writers.specs.Seats.{bound_of, client_of, clients_of, answers_told, Belongs, HasGroup}
use Rattle.line_writers.specs.Stalled.{HasStalled}
use Rattle.engine_controller.specs.declared.controller.Controller.{Controller}
use Rattle.engine_parts.specs.declared.requests.Request.{Request}
use Rattle.engine_parts.specs.declared.requests.Answer.{Answer}
use Rattle.engine_parts.specs.Handled.{IsDropped}
use Rattle.engine_groups.specs.declared.leader.EngineAtOpening.{EngineAtOpening}
use Rattle.engine_groups.specs.declared.leader.Leadership.{Leadership}
use Rattle.engine_groups.specs.declared.leader.Right.{Right}
use Rattle.engine_groups.specs.Law.{wanted_in}

module _ {Log Versions Time Seat Turn Part : Type 0} {ghosts : Ghosts Log}
    (list : WriterList Request Answer (Leadership Log Versions Time Seat Turn Part ghosts)
    (Right Versions Seat Turn Part) (EngineAtOpening Log Versions Time ghosts)) where
  abbrev pub AWriter : Type 0
  AWriter = Writer Request Answer (Leadership Log Versions Time Seat Turn Part ghosts)
      (Right Versions Seat Turn Part)

  -- the writer leads this group, and has its requests
  abbrev pub LeadsGroup : QueuedWriter Request → List (QueuedWriter Request) → List (QueuedWriter Request)
      → List (Handling Request Answer) → AWriter → Type 0
  LeadsGroup own group left seen w =
      HasGroup (wanted_in list) (clients_of list) (bound_of list) own group left seen (answers_told w) w

  -- the writer leads a group with this number of requests; `no_slowdown` says whether the group may not wait
  abbrev pub LeadsSome : Bool → ℕ → AWriter → Type 0
  LeadsSome no_slowdown many w = Belongs list w × ((own : QueuedWriter Request)
      × (group left : List (QueuedWriter Request)) × (seen : List (Handling Request Answer))
      × LeadsGroup own group left seen w
      × (many ≡ length (asks own group)) × (is_hasty own.code ≡ no_slowdown))

  -- it is the writer of the same client, with the same answers
  abbrev pub IsSame : AWriter → AWriter → Type 0
  IsSame v w = Belongs list w × (client_of w ≡ client_of v) × (answers_told w ≡ answers_told v)

  -- it leads whatever group it led before
  abbrev pub KeepsGroup : AWriter → AWriter → Type 0
  KeepsGroup v w = IsSame v w × ((own : QueuedWriter Request) (group left : List (QueuedWriter Request))
      (seen : List (Handling Request Answer)) → LeadsGroup own group left seen v → LeadsGroup own group left seen w)

  -- the writer stalls writes for this group; the writers in `rest` of the walk haven't been looked at
  abbrev pub StallsFor : QueuedWriter Request → List (QueuedWriter Request) → List (QueuedWriter Request)
      → List (Handling Request Answer) → List (QueuedWriter Request) → Room → AWriter → Type 0
  StallsFor own group left seen rest room w =
      HasStalled (wanted_in list) (clients_of list) (bound_of list) own group left seen (answers_told w) rest room w

-- each of these writers of the queue that may not wait has an answer with which it leaves the queue
abbrev pub AreLetGo : {Time : Type 0} → Controller Time → List (QueuedWriter Request) → Type 0
AreLetGo controller [] = ⊤
AreLetGo controller (x ∷ rest) = (is_hasty x.code ≡ true → (p : Answer) × IsDropped controller x.asked p)
    × AreLetGo controller rest
