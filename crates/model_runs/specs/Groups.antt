-- What became of the groups that leaders took, one after another, and what each of them logged.
use Rattle.std.specs.Prelude.{◌≡◌, ℕ, ◌-◌, ◌<◌, ⊤, Bool, true, false, ◌||◌, if◌then◌else◌, List, [], ◌∷◌, map, filter, filter_map, find, zip, get_or, slice_get, Option, Some}
use Rattle.std.specs.List.{AllByRecursion, list_any}
use Rattle.model_base.specs.Batch.{Record}
use Rattle.model_base.specs.History.{Entry}
use Rattle.model_base.specs.Controller.{ControllerCall}
use Rattle.model_base.specs.Attempts.{Attempt, WriteStatus, succeeded, slowed, faulted, full, is_faulted}
use Rattle.model_base.specs.Groups.{Member, Group}
use Rattle.model_base.specs.LogContents.{GroupCall}
use Rattle.model_runs.specs.Lost.{batches_that_fit}

-- the groups are in the order in which their delays were asked
abbrev pub PlacesRise : List Group → Type 0
PlacesRise [] = ⊤
PlacesRise (g ∷ groups) = AllByRecursion (λ (h : Group). g.place < h.place) groups × PlacesRise groups

-- a client's commits are among these members in the order in which it made them
abbrev pub CallsRise : List Member → Type 0
CallsRise [] = ⊤
CallsRise (m ∷ members) = AllByRecursion (λ (n : Member). m.client ≡ n.client → m.call < n.call) members
    × CallsRise members

-- the controller's call at the group's place is one of the client whose commit is the group's first member
pub record IsAskedByLeader (controller_calls : List ControllerCall) (g : Group) : Type 0 where
  pub leader : Member
  pub call : ControllerCall
  pub leads : slice_get g.members 0 ≡ Some leader
  pub there : slice_get controller_calls g.place ≡ Some call
  pub by : call.client ≡ leader.client

-- a member's commit, among those of all clients
abbrev pub commit_of : List (List Attempt) → Member → Option Attempt
commit_of attempts m = slice_get (get_or attempts (m.client - 1) []) m.call

-- the commits of a group, in the order of its members
abbrev pub commits_in : List (List Attempt) → Group → List Attempt
commits_in attempts g = filter_map (commit_of attempts) g.members

-- how each of them ended, and its batch
abbrev pub statuses_in : List (List Attempt) → Group → List WriteStatus
statuses_in attempts g = map (λ (h : Attempt). h.status) (commits_in attempts g)

abbrev pub batches_in : List (List Attempt) → Group → List (List Record)
batches_in attempts g = map (λ (h : Attempt). h.records) (commits_in attempts g)

-- A group's leader is its first member. It asked that the group be synced, or kept out of the log.
abbrev pub leader_syncs : List Member → Bool
leader_syncs [] = false
leader_syncs (leader ∷ members) = leader.item.options.sync

abbrev pub is_kept_out : List Member → Bool
is_kept_out [] = false
is_kept_out (leader ∷ members) = leader.item.options.no_log

-- The log's fault ends all writes

-- once the log has failed, a commit is answered its fault, or that writes are held up
abbrev pub MeetsDeadLog : WriteStatus → Type 0
MeetsDeadLog succeeded = ⊥
MeetsDeadLog (full last) = ⊥
MeetsDeadLog slowed = ⊤
MeetsDeadLog (faulted count) = ⊤

-- In the order of these groups nobody succeeds in the first group that was answered the log's fault, or in a later one,
-- whether or not a batch is one for the log. `dead` says that there was such a group before these.
abbrev pub StaysDead : Bool → List (List WriteStatus) → Type 0
StaysDead dead [] = ⊤
StaysDead dead (statuses ∷ rest) = let now = dead || list_any is_faulted statuses in
    (now ≡ true → AllByRecursion MeetsDeadLog statuses) × StaysDead now rest

-- What each group logged

-- one of the group's members was answered the log's fault
abbrev pub is_lost : List (List Attempt) → Group → Bool
is_lost attempts g = list_any is_faulted (statuses_in attempts g)

-- The failed call was made for the first group that was answered the log's fault, and the group's leader didn't keep it
-- out of the log. The call was asked to write those of the group's batches whose runs fit after `last`, and it was
-- asked to sync exactly if the leader was.
pub record IsOfFirstLost (attempts : List (List Attempt)) (groups : List Group) (last : ℕ) (c : GroupCall)
    : Type 0 where
  pub group : Group
  pub first : find (is_lost attempts) groups ≡ Some group
  pub to_log : is_kept_out group.members ≡ false
  pub batches : c.batches ≡ batches_that_fit last (batches_in attempts group)
  pub sync : c.sync ≡ leader_syncs group.members

abbrev pub has_entries : List Entry → Bool
has_entries [] = false
has_entries (e ∷ entries) = true

-- the groups that are in the log, each with the entries that it made: those that made some, and whose leaders didn't
-- keep them out
abbrev pub is_in_log : Group × List Entry → Bool
is_in_log g = if is_kept_out g.0.members then false else has_entries g.1

abbrev pub logged_groups : List Group → List (List Entry) → List (Group × List Entry)
logged_groups groups made = filter is_in_log (zip groups made)

-- Where `made` are the entries that each group made: the logged parts are those of the groups that are in the log, and
-- no others, in their order. There is one call for each of these groups, which was asked to sync exactly if the group's
-- leader was.
pub record LogsGroups (groups : List Group) (made parts : List (List Entry)) (calls : List GroupCall) : Type 0 where
  pub parts_are : parts ≡ map (λ (g : Group × List Entry). g.1) (logged_groups groups made)
  pub syncs_are : map (λ (c : GroupCall). c.sync) calls
      ≡ map (λ (g : Group × List Entry). leader_syncs g.0.members) (logged_groups groups made)
