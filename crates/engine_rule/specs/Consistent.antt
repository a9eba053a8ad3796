-- How the log, the table and the answers of a write path belong together, at each moment when there is no leader.
use Rattle.std.specs.Prelude.{◌≡◌, ◌⊎◌, ℕ, List, [], ◌∷◌, ◌++◌, ◌≤◌, length, Option, Some, None, slice_get}
use Rattle.model_base.specs.Controller.{ControllerCall}
use Rattle.model_base.specs.LogContents.{GroupCall}
use Rattle.model_base.specs.Outcomes.{AreOwnFaults}
use Rattle.model_base.specs.Recovery.{Logged}
use Rattle.model_base.specs.Trace.{Settings}
use Rattle.std.specs.List.{AllByRecursion}
use Rattle.model_accounts.specs.Closing.{RoseInRun}
use Rattle.table_rule.specs.declared.content.MemberVersions.{MemberVersions}
use Rattle.table_rule.specs.declared.content.Version.{Version}
use Rattle.table_rule.specs.Histories.{Begins, Images, In, last_of, versions_in}
use Rattle.model_accounts.specs.Accounts.{Account}
use Rattle.engine_rule.specs.Commits.{Commit, accepted, last_after_all, fault_after_all, AreAnswered, AreOfClients}
use Rattle.engine_rule.specs.Asked.{AreInGroups}
use Rattle.engine_rule.specs.Entries.{entries_of, versions_made, HasPart}
use Rattle.engine_rule.specs.Reading.{AnsweredRead, AreRight, IsCutAt, answers_in, faults_in, reads_in}
use Rattle.engine_rule.specs.LogCalls.{WroteCommits}
use Rattle.engine_rule.specs.LogSights.{LogSight}
use Rattle.engine_rule.specs.Plans.{LeadersGroup, heard_of, all_failed, commits_of_plan, last_with_all}

-- some accepted answer names this sequence as the last one of its group
abbrev pub IsNamed : List Commit → ℕ → Type 0
IsNamed commits at = (c : Commit) × (first : ℕ) × In c commits × (c.answer ≡ accepted first at)

-- each published group ends where some answer says that its group ends, or, where nothing is published above it, at
-- `start`
abbrev pub EndsAreNamed : ℕ → List Commit → List (List MemberVersions) → Type 0
EndsAreNamed start commits published = (shown : List (List MemberVersions)) → Begins shown published
    → (last_of start shown ≡ start) ⊎ IsNamed commits (last_of start shown)

-- All commits have right answers, group by group, and `asked` is the controller's history as the last leader had seen
-- it when it answered. `last` is the last sequence given. The log's fault is the one in the answers. What is published
-- was made by whole commits, and the log's calls wrote the commits, group by group. Where a published group ends, some
-- answer says that a group ends, and there the log's parts are cut too.
pub record AreConsistent (start clients group_bytes : ℕ) (asked : List ControllerCall) (commits : List Commit)
    (last : ℕ) (fault : Option ℕ) (published : List (List MemberVersions)) (calls : List GroupCall) : Type 0 where
  pub answered : AreAnswered start None commits
  pub of_clients : AreOfClients clients commits
  pub last_is : last ≡ last_after_all start commits
  pub fault_is : fault ≡ fault_after_all None commits
  pub in_groups : AreInGroups start group_bytes asked commits
  pub images : Images versions_made commits published
  pub written : WroteCommits group_bytes in_groups.groups commits fault last calls
  pub named : EndsAreNamed start commits published
  pub cuts : (at : ℕ) → IsNamed commits at → IsCutAt start (entries_of commits) written.parts.parts at

-- one more group was published, with exactly these versions; or there were no versions, and nothing was published
abbrev pub Publishes : List Version → List (List MemberVersions) → List (List MemberVersions) → Type 0
Publishes versions old new = ((versions ≡ []) × (new ≡ old))
    ⊎ ((g : List MemberVersions) × (new ≡ old ++ g ∷ []) × (versions_in g ≡ versions))

-- The state when there is no leader: the controller's history as the last leader had seen it, the commits, the reads of
-- the log, the last sequence given, the log's fault, what is published, and the log's calls.
pub record Standing : Type 0 where
  pub asked : List ControllerCall
  pub commits : List Commit
  pub reads : List AnsweredRead
  pub last : ℕ
  pub fault : Option ℕ
  pub published : List (List MemberVersions)
  pub calls : List GroupCall

-- the state is consistent, in a write path with these settings
abbrev pub IsConsistent : Settings → Standing → Type 0
IsConsistent settings s = AreConsistent settings.start settings.clients settings.group_bytes s.asked s.commits s.last
    s.fault s.published s.calls

-- the state once a leader has answered its group with these commits; `seen` is what it has seen of the controller's
-- history
abbrev pub answered : Standing → List ControllerCall → List Commit → Standing
answered s seen commits = record s { asked = seen; commits = s.commits ++ commits }

-- such a state, where the members whose runs fit have them, the log works, and then this is published and the log has
-- these calls
abbrev pub with_runs : Standing → LeadersGroup → List (List MemberVersions) → List GroupCall → Standing
with_runs s g published calls = let end = last_with_all s.last g.requests in
    record (answered s g.went (commits_of_plan (heard_of g) s.last end g.requests)) {
      last = end;
      fault = None;
      published = published;
      calls = calls;
    }

-- such a state, where all members get this fault of the log as their answer, and the log has these calls
abbrev pub with_fault : Standing → LeadersGroup → ℕ → List GroupCall → Standing
with_fault s g count calls = record (answered s g.went (all_failed (heard_of g) count g.requests)) {
  fault = Some count;
  calls = calls;
}

-- the accounts of all clients: each is its client's part of the state, of what the answers to their commits show of the
-- log, and of this history of the controller
pub record AreAccountsOf (settings : Settings) (s : Standing) (sights : List LogSight) (history : List ControllerCall)
    (accounts : List Account) : Type 0 where
  pub all : length accounts ≡ settings.clients
  pub each : (i : ℕ) (a : Account) → slice_get accounts i ≡ Some a
      → HasPart settings.start settings.opening s.commits sights s.reads s.published history i a

-- What the reads of the log gave is right, where the log had kept these batches, or it isn't known which. Each fault of
-- the log or of a read of it is a count of its own that the disk reached in the run. Where there was none, the disk has
-- counted none.
pub record AreReadsRight (settings : Settings) (kept : Option (List Logged)) (ended : ℕ) (s : Standing) : Type 0 where
  pub right : AreRight (λ batches. kept ≡ Some batches) s.last s.calls (reads_in (answers_in s.reads))
  pub of_clients : AllByRecursion (λ (r : AnsweredRead). (1 ≤ r.client) × (r.client ≤ settings.clients)) s.reads
  pub rose : RoseInRun settings ended s.fault
  pub own : AreOwnFaults ended s.fault (faults_in (answers_in s.reads))
  pub counted : s.fault ≡ None → faults_in (answers_in s.reads) ≡ [] → ended ≡ settings.opened
