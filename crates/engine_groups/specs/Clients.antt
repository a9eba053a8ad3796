-- An engine and its clients, and a client's account.
use Rattle.std.specs.Prelude.{◌≡◌, ◌⊎◌, ℕ, ◌<◌, ◌≤◌, List, [], ◌∷◌, ◌++◌, None, Some, refl, vec_capacity}
use mathlib.Core.List.{IsPrefix}
use Rattle.log_writer.specs.declared.group_log.GroupLog.{Ghosts}
use Rattle.model_base.specs.declared.limits.TheConstants.{MAX_SIZE}
use Rattle.model_base.specs.History.{max_sequence}
use Rattle.model_base.specs.Map.{Pairs}
use Rattle.model_base.specs.Trace.{Settings}
use Rattle.engine_parts.specs.declared.log.OpenLog.{OpenLog}
use Rattle.engine_parts.specs.Logs.{Had, faults_of, fault_of}
use Rattle.table_rule.specs.Histories.{last_of, map_of}
use Rattle.table_calls.specs.Account.{IsReady}
use Rattle.line_rule.specs.declared.words.TheConstants.{STALL}
use Rattle.line_rule.specs.declared.view.Handling.{Handling}
use Rattle.line_rule.specs.Chain.{of}
use Rattle.line_writers.specs.declared.writer.Writer.{Writer}
use Rattle.engine_controller.specs.declared.controller.Controller.{Controller}
use Rattle.engine_controller.specs.declared.pass.Pass.{Pass}
use Rattle.engine_controller.specs.Noted.{Noted}
use Rattle.engine_controller.specs.Passes.{seen_by, seen_by_note, IsPassOf, IsOthersOf, clients_of as controller_clients, client_of as pass_client}
use Rattle.line_writers.specs.Rooms.{AreReady}
use Rattle.line_writers.specs.Seats.{bound_of, client_of, clients_of, about_of, start_of, piped_of, Belongs, IsOut, answers_told}
use Rattle.model_accounts.specs.Accounts.{Account, KnowsOwnTokens}
use Rattle.engine_rule.specs.Commits.{Commit}
use Rattle.engine_rule.specs.Asked.{HasAsked}
use Rattle.engine_rule.specs.Entries.{account_of}
use Rattle.engine_rule.specs.LogSights.{LogSight}
use Rattle.engine_groups.specs.Meaning.{Meaning}
use Rattle.engine_parts.specs.declared.requests.Request.{Request}
use Rattle.engine_parts.specs.declared.requests.Answer.{Answer}
use Rattle.engine_groups.specs.declared.engine.GroupEngine.{GroupEngine}
use Rattle.engine_groups.specs.declared.engine.EngineClient.{EngineClient}
use Rattle.engine_groups.specs.declared.engine.ClosingRoom.{ClosingRoom}
use Rattle.engine_groups.specs.declared.leader.Leadership.{Leadership}
use Rattle.engine_groups.specs.declared.leader.Right.{Right}
use Rattle.engine_parts.specs.Handled.{answer_if, commit_if, commit_of, sight_if, sight_of, AreHandled, IsDropped, IsTurnedAway}
use Rattle.engine_parts.specs.ReadAnswers.{HasReadTo}
use Rattle.engine_rule.specs.Reading.{IsAtEnd, ReadAnswer, reads_in}
use Rattle.model_base.specs.Recovery.{Logged}
use Rattle.std.specs.List.{AllByRecursion}
use Rattle.engine_parts.specs.Layout.{IsRoomy}

-- a client's commits, from its requests and their answers, and the answers to its reads of the log
abbrev pub own_commits : ℕ → List (Request × Answer) → List Commit
own_commits client [] = []
own_commits client (t ∷ ts) =
    commit_if t.0.since (commit_of (record { by = client; asked = t.0; reply = t.1 })) ++ own_commits client ts

-- what the answers to its commits show of the log
abbrev pub own_sights : ℕ → List (Request × Answer) → List LogSight
own_sights client [] = []
own_sights client (t ∷ ts) =
    sight_if t.0.since (sight_of (record { by = client; asked = t.0; reply = t.1 })) ++ own_sights client ts

abbrev pub own_answers : List (Request × Answer) → List ReadAnswer
own_answers [] = []
own_answers (t ∷ ts) = answer_if t.0.since t.1 ++ own_answers ts

-- the map that a table was opened over
abbrev pub map_at_opening : {Versions Seat Turn Part : Type 0} → Meaning Versions Seat Turn Part → Versions → Pairs
map_at_opening meaning table = map_of (meaning.opening table).base

module _ {Log Versions Time Seat Turn Part : Type 0} {ghosts : Ghosts Log} where
  abbrev pub told_of : EngineClient Log Versions Time Seat Turn Part ghosts → List (Request × Answer)
  told_of c = answers_told c.writer

  -- the engine's log as it was opened
  abbrev pub opened_log : {Watch : Type 0} → GroupEngine Log Versions Time Watch Seat Turn Part ghosts
      → OpenLog Log ghosts
  opened_log e = (about_of e.list).opened.value

  -- the client's lists are empty, and have room for all clients
  pub record CanLead (clients : ℕ) (c : EngineClient Log Versions Time Seat Turn Part ghosts) : Type 0 where
    pub lists : AreReady clients c.lists
    pub layout : IsRoomy clients c.layout

  module _ (meaning : Meaning Versions Seat Turn Part) where
    -- the list, the table and the numbers of an engine belong together
    pub record IsEngine {Watch : Type 0} (e : GroupEngine Log Versions Time Watch Seat Turn Part ghosts) : Type 0
      where
        pub clients : (meaning.opening e.table).clients ≡ clients_of e.list
        pub table : (about_of e.list).table.value ≡ e.table
        pub controller : (about_of e.list).controller.value ≡ e.controller
        pub controller_clients : controller_clients e.controller ≡ clients_of e.list
        pub start : (about_of e.list).start ≡ (meaning.opening e.table).start
        pub start_number : start_of e.list ≡ (meaning.opening e.table).start
        pub about_clients : (about_of e.list).clients ≡ clients_of e.list
        pub group_bytes : (about_of e.list).group_bytes ≡ bound_of e.list
        pub pipelined : (about_of e.list).pipelined ≡ piped_of e.list
        pub low : (meaning.opening e.table).start ≤ max_sequence
        pub few : clients_of e.list < STALL
        pub batch_bytes : e.batch_bytes ≤ MAX_SIZE
        pub no_fault : fault_of (opened_log e) ≡ None

    -- it is a client of the engine; whether its writer is in the list, and what its pass has seen, is left open
    pub record IsSeated {Watch : Type 0} (e : GroupEngine Log Versions Time Watch Seat Turn Part ghosts)
        (c : EngineClient Log Versions Time Seat Turn Part ghosts) : Type 0
      where
        pub is_engine : IsEngine e
        pub writer : Belongs e.list c.writer
        pub number : client_of c.writer ≡ c.number
        pub seat : meaning.ours e.table c.seat
        pub ready : IsReady (meaning.account c.seat)
        pub seat_number : (meaning.account c.seat).number ≡ c.number
        pub start : c.start ≡ (meaning.opening e.table).start
        pub table : c.table.value ≡ e.table
        pub pass : IsPassOf e.controller c.pass
        pub pass_number : pass_client c.pass ≡ c.number
        pub can_lead : CanLead (clients_of e.list) c

    -- it is a client of the engine that is in no list, wherever its envelope is
    pub record IsIdle {Watch : Type 0} (e : GroupEngine Log Versions Time Watch Seat Turn Part ghosts)
        (c : EngineClient Log Versions Time Seat Turn Part ghosts) : Type 0
      where
        pub seated : IsSeated e c
        pub out : IsOut c.writer
        pub has_asked : HasAsked c.number (own_commits c.number (told_of c)) (seen_by c.pass)

    -- it is a client of the engine, between two of its calls; its reads of the log were at ends of what it has seen
    pub record IsClientOf {Watch : Type 0} (e : GroupEngine Log Versions Time Watch Seat Turn Part ghosts)
        (c : EngineClient Log Versions Time Seat Turn Part ghosts) : Type 0
      where
        pub idle : IsIdle e c
        pub at_ends : AllByRecursion (IsAtEnd (meaning.opening e.table).start (meaning.account c.seat).seen)
            (reads_in (own_answers (told_of c)))
        pub envelope : c.envelope ≡ Some tt

    abbrev pub account_in : EngineClient Log Versions Time Seat Turn Part ghosts → Account
    account_in c = account_of c.start (map_at_opening meaning c.table.value) c.number (own_commits c.number (told_of c))
        (own_sights c.number (told_of c)) (own_answers (told_of c)) (meaning.account c.seat).seen (seen_by c.pass)

    -- what it knows of the controller has its own calls that take a token or give one back, and no others of it
    pub knows_own : (c : EngineClient Log Versions Time Seat Turn Part ghosts) → KnowsOwnTokens (account_in c)
    knows_own c = refl

    -- as the engine was opened, its log had just these batches, and what it holds is known
    abbrev pub had_in : {Watch : Type 0} → GroupEngine Log Versions Time Watch Seat Turn Part ghosts → List Logged
        → Type 0
    had_in e batches = Had (opened_log e) (meaning.opening e.table).start batches

    -- what the log had isn't said here
    abbrev pub settings_of : {Watch : Type 0} → GroupEngine Log Versions Time Watch Seat Turn Part ghosts → Settings
    settings_of e = record {
      start = (meaning.opening e.table).start;
      opening = map_at_opening meaning e.table;
      kept = None;
      clients = clients_of e.list;
      families = e.families;
      group_bytes = bound_of e.list;
      batch_bytes = e.batch_bytes;
      opened = faults_of (opened_log e);
    }

  -- the room for closing is empty and large enough for all clients, and its `others` is the controller's
  pub record HasRoomToClose (controller : Controller Time) (clients : ℕ)
      (room : ClosingRoom Log Versions Time Seat Turn Part ghosts) : Type 0 where
    pub no_writers : room.writers.items ≡ []
    pub no_seats : room.seats.items ≡ []
    pub no_passes : room.passes.items ≡ []
    pub writers : clients ≤ vec_capacity room.writers
    pub seats : clients ≤ vec_capacity room.seats
    pub passes : clients ≤ vec_capacity room.passes
    pub others : IsOthersOf controller room.others

  -- A request was answered, and there is a list of all that was handled by then, in which the client's own requests are
  -- exactly those that it has answers to, with this one.
  pub record IsAnswered (controller : Controller Time) (opened : OpenLog Log ghosts) (start : ℕ) (q : Request)
      (p : Answer)
      (v w : EngineClient Log Versions Time Seat Turn Part ghosts) : Type 0 where
    pub told_now : told_of w ≡ told_of v ++ (q, p) ∷ []
    pub handled : List (Handling Request Answer)
    pub are_handled : AreHandled controller opened start handled
    pub own : of v.number handled ≡ told_of v ++ (q, p) ∷ []
    pub number : w.number ≡ v.number
    pub start_same : w.start ≡ v.start
    pub table_same : w.table ≡ v.table

  -- The request was linked with a note of what the client had seen by then, and was answered in a group.
  pub record IsAnsweredInGroup (controller : Controller Time) (opened : OpenLog Log ghosts) (start : ℕ)
      (q : Request) (p : Answer)
      (v w : EngineClient Log Versions Time Seat Turn Part ghosts) : Type 0 where
    pub note : Noted
    pub shows : IsPrefix (seen_by v.pass) (seen_by_note note)
    pub answered : IsAnswered controller opened start (record q { note = Some note }) p v w

  -- The request was linked with such a note, and left the queue at a stall. Since then the client has seen nothing
  -- more.
  pub record HasLeftQueue (controller : Controller Time) (q : Request) (p : Answer)
      (w : EngineClient Log Versions Time Seat Turn Part ghosts) : Type 0 where
    pub note : Noted
    pub shows : seen_by_note note ≡ seen_by w.pass
    pub dropped : IsDropped controller (record q { note = Some note }) p

  -- A read of the log, with its answer: it led alone, and read up to the end of what the client has then seen
  -- published.
  pub record IsReadBy (meaning : Meaning Versions Seat Turn Part) (opened : OpenLog Log ghosts) (q : Request)
      (p : Answer) (v w : EngineClient Log Versions Time Seat Turn Part ghosts) : Type 0 where
    pub told_now : told_of w ≡ told_of v ++ (q, p) ∷ []
    pub number : w.number ≡ v.number
    pub start_same : w.start ≡ v.start
    pub table_same : w.table ≡ v.table
    pub read : HasReadTo (faults_of opened) (last_of v.start (meaning.account w.seat).seen) p.read

  -- The request met a stall, and is in no group. Nothing more was handled for the client.
  pub record IsLeftOut (controller : Controller Time) (q : Request) (p : Answer)
      (v w : EngineClient Log Versions Time Seat Turn Part ghosts) : Type 0 where
    pub told_same : told_of w ≡ told_of v
    pub number : w.number ≡ v.number
    pub start_same : w.start ≡ v.start
    pub table_same : w.table ≡ v.table
    pub why : HasLeftQueue controller q p w ⊎ IsTurnedAway v.number (seen_by v.pass) (seen_by w.pass) q p

  abbrev pub writer_in : EngineClient Log Versions Time Seat Turn Part ghosts
      → Writer Request Answer (Leadership Log Versions Time Seat Turn Part ghosts) (Right Versions Seat Turn Part)
  writer_in c = c.writer

  abbrev pub seat_in : EngineClient Log Versions Time Seat Turn Part ghosts → Seat
  seat_in c = c.seat

  abbrev pub pass_in : EngineClient Log Versions Time Seat Turn Part ghosts → Pass
  pass_in c = c.pass
