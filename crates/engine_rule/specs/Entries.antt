-- What commits make: the entries of the one history, their versions, and each client's account.
use Rattle.std.specs.Prelude.{◌≡◌, ℕ, ◌+◌, ◌≤◌, false, List, [], ◌∷◌, ◌++◌, length, take, flat_map, map, Option, Some, None}
use Rattle.std.specs.List.{AllByRecursion}
use mathlib.Core.List.{IsPrefix}
use Rattle.model_base.specs.declared.write.Refusal.{Refusal}
use Rattle.model_base.specs.declared.write.WriteOptions.{WriteOptions}
use Rattle.model_base.specs.Batch.{Record}
use Rattle.model_base.specs.Map.{Pairs}
use Rattle.model_base.specs.History.{Entry}
use Rattle.model_base.specs.Attempts.{Attempt, WriteStatus, succeeded, slowed, faulted, full}
use Rattle.model_base.specs.Controller.{ControllerCall}
use Rattle.model_base.specs.Tokens.{tokens_of, holds_stop, said_in}
use Rattle.model_base.specs.Outcomes.{entries_of_client}
use Rattle.model_base.specs.Progress.{next_entry}
use Rattle.model_base.specs.Recovery.{Logged}
use Rattle.model_base.specs.Trace.{Trace}
use Rattle.model_base.specs.LogContents.{GroupCall}
use Rattle.model_base.specs.Replies.{IsWithinCall}
use Rattle.table_rule.specs.declared.content.Version.{Version}
use Rattle.table_rule.specs.declared.content.MemberVersions.{MemberVersions}
use Rattle.table_rule.specs.Histories.{Begins, last_of}
use Rattle.table_rule.specs.Batches.{new_versions, number_from}
use Rattle.model_accounts.specs.Accounts.{Account, IsRefused}
use Rattle.engine_controller.specs.Passes.{GoesOn}
use Rattle.engine_rule.specs.Commits.{Answer, accepted, held_up, failed, no_room, Commit, AreAnswered, commits_of}
use Rattle.engine_rule.specs.Asked.{place_of, decided_of, HasAsked}
use Rattle.engine_rule.specs.LogSights.{LogSight, sights_of, logged_by, batches_of}
use Rattle.engine_rule.specs.Reading.{ReadAnswer, AnsweredRead, IsAtEnd, answers_of, faults_in, reads_in}

-- The history

-- the entry that a commit with this answer makes after its client's own entries (`mine`), if it has a run
abbrev pub entry_with : ℕ → List Entry → Commit → Answer → List Entry
entry_with client mine c (accepted first group_last) = next_entry client mine c.options first c.records ∷ []
entry_with client mine c (held_up numbers) = []
entry_with client mine c (failed count) = []
entry_with client mine c (no_room at) = []

-- the entry that a commit makes after the entries of all clients
abbrev pub entry_after : List Entry → Commit → List Entry
entry_after before c = entry_with c.client (entries_of_client c.client before) c c.answer

abbrev pub entries_after : List Entry → List Commit → List Entry
entries_after before [] = []
entries_after before (c ∷ commits) = entry_after before c ++ entries_after (before ++ entry_after before c) commits

-- the history of the commits
abbrev pub entries_of : List Commit → List Entry
entries_of commits = entries_after [] commits

-- the trace of the commits, with what the log had kept, these parts of the log, this history of the controller and
-- these calls of the log writer
abbrev pub trace_of : ℕ → Pairs → Option (List Logged) → List Commit → List (List Entry) → List ControllerCall
    → List GroupCall → Trace
trace_of start opening kept commits logged history calls = record {
  start = start;
  opening = opening;
  kept = kept;
  entries = entries_of commits;
  logged = logged;
  controller_calls = history;
  log_calls = calls;
}

-- The versions that commits make

abbrev pub versions_with : Commit → Answer → List Version
versions_with c (accepted first group_last) = number_from first (new_versions c.records)
versions_with c (held_up numbers) = []
versions_with c (failed count) = []
versions_with c (no_room at) = []

abbrev pub versions_made : Commit → List Version
versions_made c = versions_with c c.answer

-- What one client has of all this

-- the status of a commit with this answer
abbrev pub status_of : Answer → WriteStatus
status_of (accepted first group_last) = succeeded
status_of (held_up numbers) = slowed
status_of (failed count) = faulted count
status_of (no_room at) = full at

abbrev pub attempt_of : Commit → Attempt
attempt_of c = record {
  records = c.records;
  options = c.options;
  status = status_of c.answer;
  place = place_of c;
  decided = decided_of c;
}

-- a client's own entries, which its own commits make, where `mine` are its entries before those
abbrev pub mine_after : ℕ → List Entry → List Commit → List Entry
mine_after client mine [] = []
mine_after client mine (c ∷ commits) = entry_with client mine c c.answer
    ++ mine_after client (mine ++ entry_with client mine c c.answer) commits

-- the last sequence of its group, for each commit that has a run
abbrev pub end_with : Answer → List ℕ
end_with (accepted first group_last) = group_last ∷ []
end_with (held_up numbers) = []
end_with (failed count) = []
end_with (no_room at) = []

abbrev pub ends_of : List Commit → List ℕ
ends_of commits = flat_map (λ (c : Commit). end_with c.answer) commits

-- the account of a client that has made these commits, whose answers show this of the log, was given these answers to
-- its reads of the log, and has seen these groups published and these calls of the controller
abbrev pub account_of : ℕ → Pairs → ℕ → List Commit → List LogSight → List ReadAnswer → List (List MemberVersions)
    → List ControllerCall → Account
account_of start opening client own sights answers published known = record {
  number = client;
  mine = mine_after client [] own;
  ends = ends_of own;
  asked = tokens_of client known;
  attempts = map attempt_of own;
  read_faults = faults_in answers;
  seen = record {
    start = start;
    opening = opening;
    published = published;
    controller_calls = known;
    log_reads = reads_in answers;
    logged = logged_by sights;
    batches = batches_of 0 sights;
  };
}

-- The account of the client at this place (from 0). The client has made exactly its own of the commits, and of the
-- reads of the log. It has seen a beginning of what was published, and of the controller's history a beginning with all
-- calls of its own. For each delay among these calls it has a commit. Its reads of the log were at ends of what it has
-- seen. `sights` is what the answers to all clients' commits show of the log.
pub record HasPart (start : ℕ) (opening : Pairs) (commits : List Commit) (sights : List LogSight)
    (reads : List AnsweredRead)
    (published : List (List MemberVersions)) (history : List ControllerCall) (place : ℕ) (a : Account) : Type 0 where
  pub seen : List (List MemberVersions)
  pub begins : Begins seen published
  pub known : List ControllerCall
  pub goes_on : GoesOn (place + 1) known history
  pub has_asked : HasAsked (place + 1) (commits_of (place + 1) commits) known
  pub at_ends : AllByRecursion (IsAtEnd start seen) (reads_in (answers_of (place + 1) reads))
  pub is : a
      ≡ account_of start opening (place + 1) (commits_of (place + 1) commits) (sights_of (place + 1) sights)
      (answers_of (place + 1) reads) seen known

-- the controller's history, as a client has seen it, went on, while the client itself took no token and gave none back
pub record SeesMore (client : ℕ) (known now : List ControllerCall) : Type 0 where
  pub begins : IsPrefix known now
  pub tokens : tokens_of client now ≡ tokens_of client known

-- One call of a client: the sequence and the map before the first batch; the client's number, its own commits before
-- the call, what their answers show of the log, and the answers to its reads of the log; what it had seen before the
-- call of what is published (`before`) and of the controller (`known`); and what it has seen of them at the end of the
-- call (`after`, `now`)
pub record ClientCall : Type 0 where
  pub start : ℕ
  pub opening : Pairs
  pub client : ℕ
  pub own : List Commit
  pub sights : List LogSight
  pub answers : List ReadAnswer
  pub before : List (List MemberVersions)
  pub after : List (List MemberVersions)
  pub known : List ControllerCall
  pub now : List ControllerCall

-- the client's account before the call, and the account after it, with this commit added, whose answer shows this of
-- the log
abbrev pub account_before : ClientCall → Account
account_before k = account_of k.start k.opening k.client k.own k.sights k.answers k.before k.known

abbrev pub account_with : ClientCall → Commit → LogSight → Account
account_with k c s =
    account_of k.start k.opening k.client (k.own ++ c ∷ []) (k.sights ++ s ∷ []) k.answers k.after k.now

-- the account after it, with this answer to a read of the log
abbrev pub account_told : ClientCall → ReadAnswer → Account
account_told k answer =
    account_of k.start k.opening k.client k.own k.sights (k.answers ++ answer ∷ []) k.after k.now

-- what the client had seen went on, while it took no token and gave none back
abbrev pub HasSeenMore : ClientCall → Type 0
HasSeenMore k = Begins k.before k.after × SeesMore k.client k.known k.now

-- the client held no stop token
abbrev pub IsFree : ClientCall → Type 0
IsFree k = holds_stop (tokens_of k.client k.known) ≡ false

-- all these commits have right answers, and this one is the client's newest
abbrev pub IsNewest : ClientCall → List Commit → Commit → Type 0
IsNewest k commits c = AreAnswered k.start None commits × (commits_of k.client commits ≡ k.own ++ c ∷ [])

-- The delay of the commit's group is within the call, and so is all by which its leader decided. By the delay, calls of
-- the controller had said all that the client had seen published before. The answer shows this of the log, no less than
-- those before it.
pub record IsWithin (k : ClientCall) (c : Commit) (s : LogSight) : Type 0 where
  pub delay : IsWithinCall (length k.known) (length k.now) (place_of c) (decided_of c)
  pub said : last_of k.start k.before ≤ said_in (take (place_of c + 1) k.now)
  pub logged : logged_by k.sights ≤ s.made

-- the commit was refused for this
abbrev pub EndsRefused : ClientCall → Commit → LogSight → Refusal → Type 0
EndsRefused k c s why = IsRefused (account_before k) c.records c.options why (account_with k c s)

-- where the commit goes into the log, its answer shows its batch, under the run that begins with `first`
abbrev pub ShowsBatch : Commit → ℕ → LogSight → Type 0
ShowsBatch c first s = c.options.no_log ≡ false
    → s.batch ≡ Some (record { first = first; records = c.records; sync = c.options.sync })

-- the commit was refused for this, and is in no group
abbrev pub StaysOutside : ClientCall → List Record → WriteOptions → Refusal → Type 0
StaysOutside k records how why = IsRefused (account_before k) records how why
    (account_of k.start k.opening k.client k.own k.sights k.answers k.after k.now)

-- all these calls are of clients with the numbers from 1 to this
abbrev pub AreCallsOf : ℕ → List ControllerCall → Type 0
AreCallsOf clients calls = AllByRecursion (λ (t : ControllerCall). (1 ≤ t.client) × (t.client ≤ clients)) calls
