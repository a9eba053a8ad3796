-- The calls of the log writer that wrote the history of some commits.
use Rattle.std.specs.Prelude.{◌≡◌, ◌⊎◌, ℕ, ◌+◌, ◌-◌, ◌<◌, Bool, true, false, List, [], ◌∷◌, ◌++◌, length, map, flat_map, Option, Some, None, MatchOption}
use Rattle.std.specs.List.{AllByRecursion, AllZip}
use Rattle.model_base.specs.History.{Entry, RunsFollow, logged_entries}
use Rattle.model_base.specs.LogContents.{GroupCall}
use Rattle.model_base.specs.Groups.{Group}
use Rattle.model_runs.specs.Groups.{LogsGroups}
use Rattle.model_runs.specs.Written.{WroteEntries}
use Rattle.model_accounts.specs.Led.{Led, Taken, groups_of}
use Rattle.engine_rule.specs.Commits.{Commit, fault_after_all}
use Rattle.engine_rule.specs.Asked.{LedGroup, commits_in, heard_by}
use Rattle.engine_rule.specs.Entries.{attempt_of, entries_after, entries_of}
use Rattle.engine_rule.specs.Plans.{CommitRequest, all_failed, batches_from, AreLogged, AreUnlogged, IsWholeGroup}

-- these calls, which worked, wrote the logged entries, one part each
pub record WroteParts (entries : List Entry) (calls : List GroupCall) : Type 0 where
  pub parts : List (List Entry)
  pub cut : flat_map (λ part. part) parts ≡ logged_entries entries
  pub runs : AllByRecursion RunsFollow parts
  pub each : AllZip WroteEntries parts calls

-- the first request is the leader's
abbrev pub leader_asks_sync : List CommitRequest → Bool
leader_asks_sync [] = false
leader_asks_sync (leader ∷ requests) = leader.options.sync

-- the call was asked to write those batches of these requests whose runs fit after `last`, and it was asked to sync
-- exactly if the leader was
pub record WritesBatches (last : ℕ) (requests : List CommitRequest) (c : GroupCall) : Type 0 where
  pub to_log : AreLogged requests
  pub first : c.first ≡ last + 1
  pub batches : c.batches ≡ batches_from last requests
  pub some : 0 < length c.batches
  pub sync : c.sync ≡ leader_asks_sync requests

-- The call that failed was asked to write a whole group of the commits, after the last sequence given, and each member
-- of that group got the fault as its answer. No member of a group before it did.
pub record IsLostWrite (group_bytes : ℕ) (groups : List LedGroup) (count last : ℕ) (c : GroupCall) : Type 0 where
  pub before : List LedGroup
  pub group : LedGroup
  pub after : List LedGroup
  pub among : groups ≡ before ++ group ∷ after
  pub worked : fault_after_all None (commits_in before) ≡ None
  pub requests : List CommitRequest
  pub answers : group.commits ≡ all_failed (heard_by group) count requests
  pub is_group : IsWholeGroup group_bytes requests
  pub writes : WritesBatches last requests c
  pub failed : c.failed ≡ Some count

-- the calls that failed: one if the log has a fault, and otherwise none
abbrev pub AreLostWrites : ℕ → List LedGroup → Option ℕ → ℕ → List GroupCall → Type 0
AreLostWrites group_bytes groups fault last lost = MatchOption fault (lost ≡ [])
    (λ count. (c : GroupCall) × (lost ≡ c ∷ []) × IsLostWrite group_bytes groups count last c)

-- What an outcome shows of the groups

abbrev pub taken_of : Commit → Taken
taken_of c = record { client = c.client; attempt = attempt_of c }

abbrev pub led_of : LedGroup → Led
led_of g = record { place = length g.known - 1; decided = length g.went; commits = map taken_of g.commits }

abbrev pub outcome_groups : List LedGroup → List Group
outcome_groups groups = groups_of (map led_of groups)

-- the entries that each group made, where these commits came before
abbrev pub parts_after : List Commit → List LedGroup → List (List Entry)
parts_after before [] = []
parts_after before (g ∷ groups) = entries_after (entries_of before) g.commits ∷ parts_after (before ++ g.commits) groups

-- All calls: those that worked, one for each group that is in the log, and after them the one that failed, if one did.
-- `commits` are all commits of the groups.
pub record WroteCommits (group_bytes : ℕ) (groups : List LedGroup) (commits : List Commit) (fault : Option ℕ) (last : ℕ)
    (calls : List GroupCall) : Type 0 where
  pub worked : List GroupCall
  pub lost : List GroupCall
  pub both : calls ≡ worked ++ lost
  pub parts : WroteParts (entries_of commits) worked
  pub by_groups : LogsGroups (outcome_groups groups) (parts_after [] groups) parts.parts worked
  pub are_lost : AreLostWrites group_bytes groups fault last lost

-- where one of the requests asks for a sync, the call syncs
abbrev pub SyncsFor : List CommitRequest → Bool → Type 0
SyncsFor requests sync = AllByRecursion (λ (q : CommitRequest). q.options.sync ≡ true → sync ≡ true) requests

-- A group that has runs after `last` was logged by one call that worked; or there was nothing to log, and no call was
-- made.
abbrev pub LogsGroup : ℕ → List CommitRequest → List GroupCall → List GroupCall → Type 0
LogsGroup last requests old new =
    ((new ≡ old) × (AreUnlogged requests ⊎ (batches_from last requests ≡ [])))
    ⊎ ((c : GroupCall) × (new ≡ old ++ c ∷ []) × WritesBatches last requests c × SyncsFor requests c.sync
    × (c.failed ≡ None))
