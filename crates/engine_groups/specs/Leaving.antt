-- A leader that has answered its group, and gives the log on.
use Rattle.std.specs.Prelude.{◌≡◌, ℕ, ◌≤◌, false, List, [], ◌∷◌, ◌++◌, Option, Some, None, is_none, vec_len, vec_capacity}
use Rattle.log_writer.specs.declared.group_log.GroupLog.{Ghosts}
use Rattle.engine_parts.specs.declared.log.OpenLog.{OpenLog}
use Rattle.table_rule.specs.declared.content.MemberVersions.{MemberVersions}
use Rattle.table_rule.specs.Histories.{last_of, made_by, versions_in}
use Rattle.table_nodes.specs.Parts.{group_of}
use Rattle.line_rule.specs.declared.view.QueuedWriter.{QueuedWriter}
use Rattle.line_rule.specs.declared.view.Handling.{Handling}
use Rattle.line_rule.specs.Chain.{heads, all_answers, of}
use Rattle.line_rule.specs.Laws.{asks_for, last_run}
use Rattle.line_rule.specs.Members.{pays}
use Rattle.line_writers.specs.Roles.{AreMembers}
use Rattle.line_writers.specs.Rooms.{HasRoom, TakesRequests}
use Rattle.line_writers.specs.Seats.{bound_of, about_of, client_of, clients_of, flat_of, start_of, answers_told, Belongs, HasGroup}
use Rattle.engine_controller.specs.declared.controller.Controller.{Controller}
use Rattle.engine_controller.specs.Passes.{seen_by}
use Rattle.engine_rule.specs.Asked.{HasAsked}
use Rattle.engine_rule.specs.Commits.{last_after_all}
use Rattle.engine_rule.specs.Entries.{versions_made}
use Rattle.engine_groups.specs.Meaning.{Meaning}
use Rattle.engine_groups.specs.declared.engine.GroupEngine.{GroupEngine}
use Rattle.engine_groups.specs.declared.engine.EngineClient.{EngineClient}
use Rattle.engine_groups.specs.declared.leader.EngineAtOpening.{EngineAtOpening}
use Rattle.engine_groups.specs.declared.leader.Leadership.{Leadership}
use Rattle.engine_parts.specs.declared.requests.Request.{Request}
use Rattle.engine_parts.specs.declared.requests.Answer.{Answer}
use Rattle.engine_groups.specs.Clients.{own_commits}
use Rattle.engine_parts.specs.Handled.{AreHandled, IsNoted, commits_in}
use Rattle.engine_parts.specs.Items.{item_with}
use Rattle.engine_parts.specs.Runs.{run_of}
use Rattle.engine_groups.specs.Law.{LeadershipCovers, LeadershipIsStaged}
use Rattle.engine_parts.specs.Layout.{IsLaid}
use Rattle.engine_groups.specs.Serving.{HasSeats}
use Rattle.engine_parts.specs.Staged.{MayLaunch}

module _ {Log Versions Time Watch Seat Turn Part : Type 0} {ghosts : Ghosts Log}
    (meaning : Meaning Versions Seat Turn Part)
    (e : GroupEngine Log Versions Time Watch Seat Turn Part ghosts) where
  -- The client has answered the group that it leads as `own`; the requests in `seen` were handled before that group,
  -- and `last` is the last sequence that is given now. When it began to lead it had this number and this start, and
  -- `mine` were its own requests and answers.
  pub record HasAnsweredGroup (number start : ℕ) (mine : List (Request × Answer)) (own : QueuedWriter Request)
      (seen : List (Handling Request Answer)) (w : EngineClient Log Versions Time Seat Turn Part ghosts)
      (last : ℕ) : Type 0
    where
      pub seats : HasSeats meaning e w
      pub layout : IsLaid (clients_of e.list) w.layout
      pub number_is : w.number ≡ number
      pub start_is : w.start ≡ start
      pub starts : start ≡ (meaning.opening e.table).start
      pub table_is : w.table.value ≡ e.table
      pub writer : Belongs e.list w.writer
      pub client : client_of w.writer ≡ number
      pub group : List (QueuedWriter Request)
      pub left : List (QueuedWriter Request)
      pub gs : List (QueuedWriter Request × Answer)
      pub p : Answer
      pub has : HasGroup (asks_for (λ (q : Request). item_with q.since q.batch.records q.options)
          (λ (a : EngineAtOpening Log Versions Time ghosts) (q : Request). IsNoted a.controller.value q)
          (about_of e.list))
          (clients_of e.list) (bound_of e.list) own group left seen (answers_told w.writer) w.writer
      pub told_is : answers_told w.writer ≡ mine
      pub heads_are : heads gs ≡ group
      pub pays_are : w.lists.replies.list.items ≡ pays own p gs
      pub before : AreHandled (about_of e.list).controller.value (about_of e.list).opened.value (about_of e.list).start
          seen
      pub kept : AreHandled (about_of e.list).controller.value (about_of e.list).opened.value (about_of e.list).start
          (seen ++ all_answers own p gs)
      pub last_is : last ≡ last_run run_of (start_of e.list) (seen ++ all_answers own p gs)
      pub own_now : of number (seen ++ all_answers own p gs) ≡ mine ++ (own.asked, p) ∷ []
      pub requests : TakesRequests (clients_of e.list) w.lists.requests
      pub replies_few : vec_len w.lists.replies.list ≤ clients_of e.list
      pub replies_room : clients_of e.list ≤ vec_capacity w.lists.replies.list
      pub room : HasRoom (clients_of e.list) w.lists.room
      pub has_asked : HasAsked number (own_commits number (mine ++ (own.asked, p) ∷ [])) (seen_by w.pass)

  -- and the leadership represents all that was handled, also that group
  pub record IsToLeave (number start : ℕ) (mine : List (Request × Answer)) (own : QueuedWriter Request)
      (seen : List (Handling Request Answer)) (w : EngineClient Log Versions Time Seat Turn Part ghosts)
      (leadership : Leadership Log Versions Time Seat Turn Part ghosts) : Type 0
    where
      pub led : HasAnsweredGroup number start mine own seen w leadership.held.value.path.last
      pub covers : LeadershipCovers meaning (about_of e.list) leadership (seen ++ all_answers own led.p led.gs)

  -- the group's members got no runs, or the list has one stage
  abbrev pub IsFlat : (number start : ℕ) (mine : List (Request × Answer)) (own : QueuedWriter Request)
      (seen : List (Handling Request Answer)) (w : EngineClient Log Versions Time Seat Turn Part ghosts)
      (leadership : Leadership Log Versions Time Seat Turn Part ghosts)
      → IsToLeave number start mine own seen w leadership → Type 0
  IsFlat number start mine own seen w leadership l =
      flat_of run_of e.list seen (seen ++ all_answers own l.led.p l.led.gs)

  -- The parts that the client laid out are those of its group, which are answered with `p` and in `gs`, and come after
  -- all that got runs before. Those who insert in parallel with it are other members of the group.
  pub record HasLaidOut (own : QueuedWriter Request) (seen : List (Handling Request Answer)) (p : Answer)
      (gs : List (QueuedWriter Request × Answer))
      (w : EngineClient Log Versions Time Seat Turn Part ghosts) (end : ℕ) : Type 0 where
    pub may : MayLaunch (meaning.account w.seat).number (meaning.opening e.table).clients
        (last_after_all (meaning.opening e.table).start (commits_in seen)) end w.layout.members.items
        (group_of w.layout.parts.parts)
    pub beside : AreMembers (clients_of e.list) w.layout.members.items gs
    pub made : versions_in (group_of w.layout.parts.parts)
        ≡ made_by versions_made (commits_in (all_answers own p gs))

  pub record IsToHandOn (number start : ℕ) (mine : List (Request × Answer)) (own : QueuedWriter Request)
      (seen : List (Handling Request Answer)) (w : EngineClient Log Versions Time Seat Turn Part ghosts)
      (leadership : Leadership Log Versions Time Seat Turn Part ghosts)
      (end : ℕ) : Type 0 where
    pub leaves : IsToLeave number start mine own seen w leadership
    pub parts : HasLaidOut own seen leaves.led.p leaves.led.gs w end

  -- Its parts must still be published, after the groups in `published`. Where the right to launch is with the
  -- leadership, nobody inserts in parallel with it.
  pub record IsToPublish (number start : ℕ) (mine : List (Request × Answer)) (own : QueuedWriter Request)
      (seen : List (Handling Request Answer)) (w : EngineClient Log Versions Time Seat Turn Part ghosts)
      (leadership : Leadership Log Versions Time Seat Turn Part ghosts)
      (end : ℕ) : Type 0 where
    pub led : HasAnsweredGroup number start mine own seen w leadership.held.value.path.last
    pub published : List (List MemberVersions)
    pub last : last_of (about_of e.list).start published
        ≡ last_after_all (meaning.opening e.table).start (commits_in seen)
    pub staged : LeadershipIsStaged meaning (about_of e.list) leadership (Some end) w.layout.parts.parts published
        (seen ++ all_answers own led.p led.gs)
    pub parts : HasLaidOut own seen led.p led.gs w end
    pub alone : is_none leadership.turn ≡ false → w.layout.members.items ≡ []

  -- What is left to do once a group is answered: its leader leaves, since no member got a run, or its parts must be
  -- published.
  abbrev pub IsToEnd : (number start : ℕ) (mine : List (Request × Answer)) (own : QueuedWriter Request)
      (seen : List (Handling Request Answer)) (w : EngineClient Log Versions Time Seat Turn Part ghosts)
      (leadership : Leadership Log Versions Time Seat Turn Part ghosts) → Option ℕ → Type 0
  IsToEnd number start mine own seen w leadership None =
      (l : IsToLeave number start mine own seen w leadership) × IsFlat number start mine own seen w leadership l
      × (w.layout.parts.parts ≡ [])
  IsToEnd number start mine own seen w leadership (Some end) =
      IsToPublish number start mine own seen w leadership end

-- the request was answered, and there is a list of all that was handled by then, in which the client's own requests are
-- exactly those that it has answers to, with this one
pub record HasAnswered {Time Log : Type 0} {ghosts : Ghosts Log} (controller : Controller Time)
    (opened : OpenLog Log ghosts)
    (from number : ℕ) (mine : List (Request × Answer)) (q : Request) (p : Answer)
    (now : List (Request × Answer)) : Type 0
  where
    pub told_now : now ≡ mine ++ (q, p) ∷ []
    pub handled : List (Handling Request Answer)
    pub are_handled : AreHandled controller opened from handled
    pub own : of number handled ≡ mine ++ (q, p) ∷ []
