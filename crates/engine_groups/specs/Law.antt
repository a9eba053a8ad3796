-- What the log, the note and the right of a leader say of all that was handled.
use Rattle.std.specs.Prelude.{◌≡◌, ℕ, Bool, true, false, List, Option, Some, None}
use Rattle.log_writer.specs.declared.group_log.GroupLog.{Ghosts}
use Rattle.engine_controller.specs.Passes.{seen_by_note, IsNoteOf}
use Rattle.table_rule.specs.declared.content.MemberVersions.{MemberVersions}
use Rattle.line_rule.specs.declared.view.Handling.{Handling}
use Rattle.engine_groups.specs.Meaning.{Meaning}
use Rattle.engine_parts.specs.declared.requests.Request.{Request}
use Rattle.engine_parts.specs.declared.requests.Answer.{Answer}
use Rattle.engine_groups.specs.declared.leader.EngineAtOpening.{EngineAtOpening}
use Rattle.engine_groups.specs.declared.leader.Leadership.{Leadership}
use Rattle.engine_groups.specs.declared.leader.Right.{Right}
use Rattle.table_nodes.specs.declared.parts.MemberNodes.{MemberNodes}
use Rattle.engine_rule.specs.Consistent.{EndsAreNamed}
use Rattle.engine_stage_laws.specs.Served.{AreServed}
use Rattle.line_writers.specs.declared.line_writers.WriterList.{WriterList}
use Rattle.line_writers.specs.Seats.{about_of, start_of}
use Rattle.line_rule.specs.Laws.{asks_for, logs_from}
use Rattle.engine_parts.specs.Runs.{run_of}
use Rattle.engine_parts.specs.LogLaw.{LogCovers}
use Rattle.engine_parts.specs.Handled.{AreHandled, IsDropped, IsNoted, commits_in}
use Rattle.engine_parts.specs.Items.{item_with}
use Rattle.engine_parts.specs.Staged.{published_with}

-- Where there is one stage the right to launch groups is with the log, and what is published is what the table shows.
abbrev pub TurnIs : {Versions Seat Turn Part : Type 0} → Meaning Versions Seat Turn Part → Versions → Bool
    → List (List MemberVersions) → Option Turn → Type 0
TurnIs {Versions} {Seat} {Turn} meaning table false published turn = (u : Turn) × (turn ≡ Some u)
    × meaning.our_turn table u
    × (meaning.history u ≡ published)
TurnIs {Versions} {Seat} {Turn} meaning table true published turn = turn ≡ None

-- Where there are two stages the right is apart, and what is published after the sequence `start` was made by exactly
-- the groups that were served, each of which ends where its answers say.
abbrev pub ServesIs : {Versions Seat Turn Part : Type 0} → Meaning Versions Seat Turn Part → Versions → ℕ → Bool
    → List (Handling Request Answer) → Option Turn → Type 0
ServesIs {Versions} {Seat} {Turn} meaning table start false served turn = turn ≡ None
ServesIs {Versions} {Seat} {Turn} meaning table start true served turn = (u : Turn) × (turn ≡ Some u)
    × meaning.our_turn table u
    × AreServed (commits_in served) (meaning.history u)
    × EndsAreNamed start (commits_in served) (meaning.history u)

-- The log represents all that was handled (`LogCovers`), where the groups in `published` are published or will be.
-- The note is the controller's, and shows what the last leader had seen.
pub record LeadershipCovers {Log Versions Time Seat Turn Part : Type 0} {ghosts : Ghosts Log}
    (meaning : Meaning Versions Seat Turn Part) (about : EngineAtOpening Log Versions Time ghosts)
    (leadership : Leadership Log Versions Time Seat Turn Part ghosts)
    (handled : List (Handling Request Answer)) : Type 0 where
  pub note : IsNoteOf about.controller.value leadership.asked
  pub published : List (List MemberVersions)
  pub path : LogCovers about.opened.value about.start about.clients about.group_bytes (seen_by_note leadership.asked)
      leadership.held.value.path.log leadership.held.value.path.places published leadership.held.value.path.last
      leadership.held.value.path.made handled
  pub turn : TurnIs meaning about.table.value about.pipelined published leadership.turn

abbrev pub RightStandsFor : {Log Versions Time Seat Turn Part : Type 0} {ghosts : Ghosts Log}
    → Meaning Versions Seat Turn Part → EngineAtOpening Log Versions Time ghosts → Right Versions Seat Turn Part
    → List (Handling Request Answer) → Type 0
RightStandsFor meaning about right served =
    ServesIs meaning about.table.value about.start about.pipelined served right.turn

-- As `LeadershipCovers`, where the parts of the leader's group, if there are any, must still be published.
pub record LeadershipIsStaged {Log Versions Time Seat Turn Part : Type 0} {ghosts : Ghosts Log}
    (meaning : Meaning Versions Seat Turn Part) (about : EngineAtOpening Log Versions Time ghosts)
    (leadership : Leadership Log Versions Time Seat Turn Part ghosts)
    (end : Option ℕ) (parts : List MemberNodes) (published : List (List MemberVersions))
    (handled : List (Handling Request Answer)) : Type 0 where
  pub note : IsNoteOf about.controller.value leadership.asked
  pub path : LogCovers about.opened.value about.start about.clients about.group_bytes (seen_by_note leadership.asked)
      leadership.held.value.path.log leadership.held.value.path.places (published_with end parts published)
      leadership.held.value.path.last leadership.held.value.path.made handled
  pub turn : TurnIs meaning about.table.value about.pipelined published leadership.turn

-- What every answered group keeps true (`kept_in`), with which answer a request leaves the queue at a stall
-- (`dropped_in`), what a list asks of each request and its code (`wanted_in`), and the law of a list's leaders
-- (`law_in`).
module _ {Log Versions Time Seat Turn Part : Type 0} {ghosts : Ghosts Log} where
  abbrev pub kept_in : WriterList Request Answer (Leadership Log Versions Time Seat Turn Part ghosts)
      (Right Versions Seat Turn Part) (EngineAtOpening Log Versions Time ghosts)
      → List (Handling Request Answer) → Type 0
  kept_in list = AreHandled (about_of list).controller.value (about_of list).opened.value (about_of list).start

  abbrev pub dropped_in : WriterList Request Answer (Leadership Log Versions Time Seat Turn Part ghosts)
      (Right Versions Seat Turn Part) (EngineAtOpening Log Versions Time ghosts) → Request → Answer → Type 0
  dropped_in list = IsDropped (about_of list).controller.value

  abbrev pub wanted_in : WriterList Request Answer (Leadership Log Versions Time Seat Turn Part ghosts)
      (Right Versions Seat Turn Part) (EngineAtOpening Log Versions Time ghosts) → Request → ℕ → Type 0
  wanted_in list = asks_for (λ (q : Request). item_with q.since q.batch.records q.options)
      (λ (a : EngineAtOpening Log Versions Time ghosts) (q : Request). IsNoted a.controller.value q) (about_of list)

  abbrev pub law_in : Meaning Versions Seat Turn Part
      → WriterList Request Answer (Leadership Log Versions Time Seat Turn Part ghosts)
      (Right Versions Seat Turn Part) (EngineAtOpening Log Versions Time ghosts)
      → Leadership Log Versions Time Seat Turn Part ghosts → List (Handling Request Answer) → Type 0
  law_in meaning list = logs_from (λ l hs. LeadershipCovers meaning (about_of list) l hs) (kept_in list)
      (λ l. l.held.value.path.last) run_of (start_of list)
