-- Which calls wrote the closed log: one for each group that is in the log, and no other, except one that failed.
use Rattle.std.specs.Prelude.{◌≡◌, ◌≢◌, ⊤, ℕ, ◌+◌, true, false, List, [], ◌∷◌, ◌++◌, map, flat_map, Option, Some, None, MatchOption}
use Rattle.std.specs.List.{AllByRecursion, AllZip}
use Rattle.model_base.specs.declared.history.Flag.TheVariants.{Sync}
use Rattle.model_base.specs.History.{Entry, RunsFollow, last_sequence, logged_entries}
use Rattle.model_base.specs.Trace.{Trace}
use Rattle.model_base.specs.Attempts.{Attempt}
use Rattle.model_base.specs.Groups.{Group, members_of}
use Rattle.model_base.specs.LogContents.{GroupCall}
use Rattle.model_runs.specs.Lost.{IsLostGroup}
use Rattle.model_runs.specs.Parts.{AreParts}
use Rattle.model_runs.specs.Groups.{PlacesRise, CallsRise, IsAskedByLeader, StaysDead, statuses_in, LogsGroups, IsOfFirstLost}

-- the first sequence of these entries, if there are any
abbrev pub first_of : List Entry → Option ℕ
first_of [] = None
first_of (e ∷ entries) = Some e.first

-- no client has two of these entries
abbrev pub AreOfOwnClients : List Entry → Type 0
AreOfOwnClients [] = ⊤
AreOfOwnClients (e ∷ entries) = AllByRecursion (λ (other : Entry). e.client ≢ other.client) entries
    × AreOfOwnClients entries

-- The call wrote these entries, no two of one client, and synced if one of them was to be synced.
pub record WroteEntries (entries : List Entry) (c : GroupCall) : Type 0 where
  pub some : first_of entries ≡ Some c.first
  pub apart : AreOfOwnClients entries
  pub batches : c.batches ≡ map (λ (e : Entry). e.records) entries
  pub synced : AllByRecursion (λ (e : Entry). e.flag ≡ Sync → c.sync ≡ true) entries
  pub ok : c.failed ≡ None

-- the one call that failed was asked to write the batches of a lost group, after the sequence that was given last
pub record IsLostCall (group_bytes : ℕ) (attempts : List (List Attempt)) (count last : ℕ) (c : GroupCall) : Type 0 where
  pub failed : c.failed ≡ Some count
  pub first : c.first ≡ last + 1
  pub batches : IsLostGroup group_bytes attempts count last c.batches

-- the calls that failed: one if the log has a fault, and otherwise none
abbrev pub AreLost : ℕ → List (List Attempt) → Option ℕ → ℕ → List GroupCall → Type 0
AreLost group_bytes attempts fault last lost =
    MatchOption fault (lost ≡ [])
    (λ count. (c : GroupCall) × (lost ≡ c ∷ []) × IsLostCall group_bytes attempts count last c)

-- How a log was written by these groups of commits, where `wrote` says that these calls, and no others, wrote it: one
-- call for each group that is in the log, in their order, and if the log has a fault one more call, which failed, after
-- all the others. Between two entries of one call no other entry comes in the history, logged or not. Reads of the log
-- see these parts of it. The groups are in the order of their delays, which their leaders asked for, and a client's
-- commits are in them in the order in which it made them. In the order of the groups no commit succeeds after the
-- fault. `made` are the entries that each group made. The clients know of these calls and no others.
pub record WritesLog (group_bytes : ℕ) (wrote : List GroupCall → Type 0) (trace : Trace)
    (attempts : List (List Attempt)) (groups : List Group) (fault : Option ℕ) : Type 0 where
  pub parts : List (List Entry)
  pub calls : List GroupCall
  pub lost : List GroupCall
  pub cut : flat_map (λ part. part) parts ≡ logged_entries trace.entries
  pub runs : AllByRecursion RunsFollow parts
  pub each : AllZip WroteEntries parts calls
  pub logged : parts ≡ trace.logged
  pub none_else : AreLost group_bytes attempts fault (last_sequence trace.start trace.entries) lost
  pub by : wrote (calls ++ lost)
  pub log : calls ++ lost ≡ trace.log_calls
  pub rise : PlacesRise groups
  pub in_turn : CallsRise (members_of groups)
  pub by_leaders : AllByRecursion (IsAskedByLeader trace.controller_calls) groups
  pub made : List (List Entry)
  pub are_made : AreParts attempts groups trace.entries made
  pub by_groups : LogsGroups groups made parts calls
  pub of_first : AllByRecursion
      (IsOfFirstLost attempts groups (last_sequence trace.start trace.entries)) lost
  pub dead : StaysDead false (map (statuses_in attempts) groups)
