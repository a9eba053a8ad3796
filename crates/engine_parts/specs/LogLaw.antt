-- What a log covers, and what it was opened for.
use Rattle.std.specs.Prelude.{◌≡◌, ℕ, ◌≤◌, List, ◌++◌, length, Option, ⊤}
use Rattle.log_writer.specs.declared.group_log.GroupLog.{Ghosts}
use Rattle.engine_parts.specs.declared.log.OpenLog.{OpenLog}
use Rattle.engine_parts.specs.Logs.{Had, fault_of, faults_of, Wrote}
use Rattle.log_writer.specs.CountedFaults.{AreCounted}
use Rattle.engine_rule.specs.Reading.{AnsweredRead, AreRight, answers_in, faults_in, reads_in}
use Rattle.std.specs.List.{AllByRecursion}
use Rattle.log_updates.specs.declared.places.LogPlace.{LogPlace}
use Rattle.engine_parts.specs.Places.{MayBegin}
use Rattle.model_base.specs.Controller.{ControllerCall}
use Rattle.model_base.specs.LogContents.{GroupCall}
use Rattle.table_rule.specs.declared.content.MemberVersions.{MemberVersions}
use Rattle.table_nodes.specs.declared.parts.MemberNodes.{MemberNodes}
use Rattle.line_rule.specs.declared.view.Handling.{Handling}
use Rattle.engine_rule.specs.Consistent.{AreConsistent}
use Rattle.engine_rule.specs.LogSights.{worked_in, ShowTheLog}
use Rattle.engine_parts.specs.declared.requests.Request.{Request}
use Rattle.engine_parts.specs.declared.requests.Answer.{Answer}
use Rattle.engine_parts.specs.Handled.{commits_in, handled_with, reads_handled, sights_in}
use Rattle.engine_parts.specs.Staged.{published_with}

-- The right to launch is the table's. Calls have written the log since it was opened. Log, table and the last sequence
-- given are what the handled commits have made. `made` of the calls have worked, and the answers show these. What reads
-- of the log gave is right, each fault of the log or of a read of it is a count of its own, and the next reads may
-- begin at these places. `asked` is the controller's history as the last leader had seen it when its group went on or
-- was refused.
pub record Covers {Log : Type 0} {ghosts : Ghosts Log} {Versions Turn : Type 0}
    (our_turn : Versions → Turn → Type 0) (history : Turn → List (List MemberVersions)) (table : Versions)
    (opened : OpenLog Log ghosts)
    (start clients group_bytes : ℕ) (asked : List ControllerCall) (log : OpenLog Log ghosts) (places : List LogPlace)
    (turn : Turn) (last made : ℕ)
    (handled : List (Handling Request Answer)) : Type 0 where
  pub our : our_turn table turn
  pub calls : List GroupCall
  pub wrote : Wrote opened calls log
  pub consistent : AreConsistent start clients group_bytes asked (commits_in handled) last (fault_of log)
      (history turn) calls
  pub made_is : made ≡ length (worked_in calls)
  pub shown : ShowTheLog (worked_in calls) (sights_in handled)
  pub right : AreRight (Had opened start) last calls (reads_in (answers_in (reads_handled handled)))
  pub readers : AllByRecursion (λ (r : AnsweredRead). (1 ≤ r.client) × (r.client ≤ clients)) (reads_handled handled)
  pub counted : AreCounted (faults_of opened) (faults_of log) (fault_of log)
      (faults_in (answers_in (reads_handled handled)))
  pub begins : AllByRecursion (MayBegin opened start log) places

-- What `Covers` says, for the log alone, where these groups are published or will be.
abbrev pub LogCovers : {Log : Type 0} {ghosts : Ghosts Log} → OpenLog Log ghosts → ℕ → ℕ → ℕ
    → List ControllerCall
    → OpenLog Log ghosts → List LogPlace → List (List MemberVersions) → ℕ → ℕ → List (Handling Request Answer)
    → Type 0
LogCovers opened start clients group_bytes asked log places published last made handled =
    Covers (λ (t : ⊤) (u : List (List MemberVersions)). ⊤) (λ u. u) tt opened start clients group_bytes asked log places
    published last made handled

-- How a log was opened, and what happened to it so far: the controller's history as the last leader had seen it, what
-- is published, and what was handled.
pub record Past (Log : Type 0) : Type 0 where
  pub opened : Log
  pub start : ℕ
  pub group_bytes : ℕ
  pub asked : List ControllerCall
  pub published : List (List MemberVersions)
  pub handled : List (Handling Request Answer)

-- The log and the last sequence given are what this past has made, in a write path with this number of clients, and
-- reads may begin at these places.
abbrev pub StandsForPast : {Log : Type 0} {ghosts : Ghosts Log} → ℕ → Past (OpenLog Log ghosts)
    → OpenLog Log ghosts → List LogPlace → ℕ → ℕ → Type 0
StandsForPast clients p log places last made =
    LogCovers p.opened p.start clients p.group_bytes p.asked log places p.published last made p.handled

-- the past with a read of the log, which led alone
abbrev pub with_read : {Log : Type 0} → Past Log → List (ℕ × Request) → List (ℕ × Answer) → Past Log
with_read p requests replies = record p { handled = p.handled ++ handled_with requests replies }

-- The past with one more group: the group's leader has seen this much of the controller, the group's parts are
-- published, if it has any, and its requests have these replies.
abbrev pub with_group : {Log : Type 0} → Past Log → List ControllerCall → Option ℕ → List MemberNodes
    → List (ℕ × Request) → List (ℕ × Answer) → Past Log
with_group p seen end parts requests replies = record p {
  asked = seen;
  published = published_with end parts p.published;
  handled = p.handled ++ handled_with requests replies;
}
