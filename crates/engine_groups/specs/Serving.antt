-- A leader that has its group's requests, and one that has answered them.
use Rattle.std.specs.Prelude.{◌≡◌, ℕ, ◌-◌, ◌≤◌, false, List, [], ◌∷◌, ◌++◌, length, vec_capacity}
use Rattle.std.specs.List.{AllByRecursion}
use mathlib.Core.List.{IsPrefix}
use Rattle.base_devices.specs.Clocks.{HasPaused}
use Rattle.log_writer.specs.declared.group_log.GroupLog.{Ghosts}
use Rattle.table_calls.specs.Account.{IsReady}
use Rattle.line_rule.specs.declared.view.QueuedWriter.{QueuedWriter}
use Rattle.line_rule.specs.declared.view.Handling.{Handling}
use Rattle.line_rule.specs.Events.{is_hasty}
use Rattle.line_rule.specs.Members.{asks}
use Rattle.line_writers.specs.Rooms.{HasRoom}
use Rattle.line_writers.specs.Seats.{bound_of, clients_of, Belongs}
use Rattle.engine_controller.specs.Delays.{delays_of}
use Rattle.engine_controller.specs.Passes.{seen_by, IsPassOf, client_of as pass_client}
use Rattle.engine_rule.specs.Entries.{SeesMore}
use Rattle.engine_groups.specs.Meaning.{Meaning}
use Rattle.engine_groups.specs.declared.engine.GroupEngine.{GroupEngine}
use Rattle.engine_groups.specs.declared.engine.EngineClient.{EngineClient}
use Rattle.model_base.specs.Controller.{ControllerCall, Look}
use Rattle.engine_parts.specs.declared.requests.Request.{Request}
use Rattle.engine_parts.specs.declared.requests.Answer.{Answer}
use Rattle.engine_parts.specs.Handled.{EndsInDelay, HandsBack, IsReplyAt, ShowsDelay, IsNoted, commit_requests_of, handled_with, InOrder}
use Rattle.engine_parts.specs.Layout.{IsLaid, IsRoomy}
use Rattle.engine_parts.specs.Led.{AreAlike, IsLedGroup, LeadsBy}
use Rattle.engine_groups.specs.Clients.{IsEngine}
use Rattle.engine_groups.specs.Stalling.{LeadsGroup, KeepsGroup}

-- The leader's newest delay, of those that it has seen, was answered with these numbers. If its group may wait, it has
-- waited as long as they say: from the one count to the other the clock was asked to let at least that time pass.
pub record HasWaited (client : ℕ) (requests : List (ℕ × Request)) (seen : List ControllerCall) (before now : ℕ) : Type 0
  where
    pub known : List ControllerCall
    pub numbers : Look
    pub begins : IsPrefix known seen
    pub delayed : EndsInDelay client numbers known
    pub earlier : List ℕ
    pub newest : delays_of client seen ≡ earlier ++ (length known - 1) ∷ []
    pub waited : AreAlike false (commit_requests_of requests) → HasPaused before numbers.wait now

module _ {Log Versions Time Watch Seat Turn Part : Type 0} {ghosts : Ghosts Log}
    (meaning : Meaning Versions Seat Turn Part) (e : GroupEngine Log Versions Time Watch Seat Turn Part ghosts)
  where
    -- the client's seat and pass are the engine's
    pub record HasSeats (c : EngineClient Log Versions Time Seat Turn Part ghosts) : Type 0 where
      pub is_engine : IsEngine meaning e
      pub seat : meaning.ours e.table c.seat
      pub ready : IsReady (meaning.account c.seat)
      pub seat_number : (meaning.account c.seat).number ≡ c.number
      pub pass : IsPassOf e.controller c.pass
      pub pass_number : pass_client c.pass ≡ c.number
      pub number : (1 ≤ c.number) × (c.number ≤ clients_of e.list)

    -- it has the requests of a group that it leads, and room for their replies
    pub record IsToServe (c : EngineClient Log Versions Time Seat Turn Part ghosts) : Type 0 where
      pub seats : HasSeats c
      pub layout : IsRoomy (clients_of e.list) c.layout
      pub led : IsLedGroup (bound_of e.list) (clients_of e.list) c.lists.requests.list.items
      pub leads : LeadsBy c.number c.lists.requests.list.items
      pub notes : AllByRecursion (λ (x : ℕ × Request). IsNoted e.controller x.1) c.lists.requests.list.items
      pub few : length c.lists.requests.list.items ≤ clients_of e.list
      pub no_replies : c.lists.replies.list.items ≡ []
      pub room : length c.lists.requests.list.items ≤ vec_capacity c.lists.replies.list
      pub walk_room : HasRoom (clients_of e.list) c.lists.room
      pub belongs : Belongs e.list c.writer
      pub own : QueuedWriter Request
      pub group : List (QueuedWriter Request)
      pub left : List (QueuedWriter Request)
      pub seen : List (Handling Request Answer)
      pub leads_group : LeadsGroup e.list own group left seen c.writer
      pub asks_are : c.lists.requests.list.items ≡ asks own group
      -- the list and the engine agree on whether the group may not wait
      pub alike : is_hasty own.code ≡ led.first.1.options.no_slowdown

    -- it has answered them, and asked the controller for them once
    pub record IsServed (v w : EngineClient Log Versions Time Seat Turn Part ghosts) : Type 0 where
      pub seats : HasSeats w
      pub layout : IsLaid (clients_of e.list) w.layout
      pub seat : w.seat ≡ v.seat
      pub number : w.number ≡ v.number
      pub start : w.start ≡ v.start
      pub table : w.table ≡ v.table
      -- where writes were stalled meanwhile, the walk of the leader is another one, but its group is the same
      pub writer : KeepsGroup e.list v.writer w.writer
      pub walk_room : HasRoom (clients_of e.list) w.lists.room
      pub in_order : InOrder v.lists.requests.list.items w.lists.replies.list.items
      pub handed_back : AllByRecursion HandsBack
          (handled_with v.lists.requests.list.items w.lists.replies.list.items)
      pub shown : AllByRecursion (ShowsDelay e.controller)
          (handled_with v.lists.requests.list.items w.lists.replies.list.items)
      pub taken : w.lists.requests.list.items ≡ []
      pub requests_room : vec_capacity w.lists.requests.list ≡ vec_capacity v.lists.requests.list
      pub replies_room : vec_capacity w.lists.replies.list ≡ vec_capacity v.lists.replies.list
      pub sees_more : SeesMore v.number (seen_by v.pass) (seen_by w.pass)
      pub known : List ControllerCall
      pub delays : delays_of v.number (seen_by w.pass) ≡ delays_of v.number (seen_by v.pass) ++ (length known - 1) ∷ []
      pub of_delay : AllByRecursion (IsReplyAt known) w.lists.replies.list.items
