-- For which groups of commits the controller was asked for a delay. Each group is held up as a whole, or goes on as a
-- whole.
use Rattle.std.specs.Prelude.{◌≡◌, ◌⊎◌, ℕ, ◌-◌, ◌<◌, Bool, true, false, List, [], ◌∷◌, length, map, flat_map, ⊤}
use Rattle.std.specs.List.{AllByRecursion}
use mathlib.Core.List.{IsPrefix}
use Rattle.model_base.specs.Controller.{ControllerCall, Look, HoldUp}
use Rattle.table_rule.specs.Histories.{In}
use Rattle.engine_controller.specs.Delays.{delays_of}
use Rattle.engine_rule.specs.Commits.{Answer, Heard, Commit, NamesEnd, accepted, held_up, failed, last_after_all, no_room}
use Rattle.engine_rule.specs.Plans.{CommitRequest, IsWholeGroup, IsAskedFor, ProceedsWith}

-- the place of the delay that was asked for a commit's group: it is the last call that the leader had seen then
abbrev pub place_of : Commit → ℕ
place_of c = length c.heard.known - 1

-- how many calls of the controller its leader had seen when it decided whether the group goes on
abbrev pub decided_of : Commit → ℕ
decided_of c = length c.heard.went

abbrev pub request_of : Commit → CommitRequest
request_of c = record { client = c.client; records = c.records; options = c.options }

-- a group as its leader answered it; `known` is the controller's history up to the delay that the leader asked for the
-- group, and `went` is the history as the leader had seen it when it decided whether the group goes on
pub record LedGroup : Type 0 where
  pub known : List ControllerCall
  pub went : List ControllerCall
  pub commits : List Commit

abbrev pub heard_by : LedGroup → Heard
heard_by g = record { known = g.known; went = g.went }

abbrev pub commits_in : List LedGroup → List Commit
commits_in groups = flat_map (λ (g : LedGroup). g.commits) groups

-- a member that is held up may not wait, and its answer has the numbers of the group's delay, which say that writes are
-- held up
abbrev pub IsHeldUp : Look → Commit → Type 0
IsHeldUp numbers c = (told : Look) → c.answer ≡ held_up told
    → (told ≡ numbers) × HoldUp numbers × (c.options.no_slowdown ≡ true)

abbrev pub is_held_up : Answer → Bool
is_held_up (held_up numbers) = true
is_held_up (accepted first group_last) = false
is_held_up (failed count) = false
is_held_up (no_room last) = false

abbrev pub is_failed : Answer → Bool
is_failed (failed count) = true
is_failed (accepted first group_last) = false
is_failed (held_up numbers) = false
is_failed (no_room last) = false

-- all of them are answered the log's fault, or none is
abbrev pub FailTogether : List Commit → Type 0
FailTogether commits = AllByRecursion (λ (c : Commit). is_failed c.answer ≡ true) commits
    ⊎ AllByRecursion (λ (c : Commit). is_failed c.answer ≡ false) commits

-- either all are held up; or none is, and what the leader saw allows each to go on
abbrev pub AreTogether : LedGroup → Look → Type 0
AreTogether g numbers = AllByRecursion (λ (c : Commit). is_held_up c.answer ≡ true) g.commits
    ⊎ (AllByRecursion (λ (c : Commit). is_held_up c.answer ≡ false) g.commits
    × ProceedsWith (map request_of g.commits) numbers g.known g.went)

-- it is a whole group, its leader asked for its delay, its commits all have what the leader had seen, and all of them
-- are held up or all go on, and all are answered the log's fault or none is
pub record IsLedGroup (group_bytes : ℕ) (g : LedGroup) : Type 0 where
  pub numbers : Look
  pub asked : IsAskedFor (map request_of g.commits) numbers g.known
  pub is_group : IsWholeGroup group_bytes (map request_of g.commits)
  pub same : AllByRecursion (λ (c : Commit). c.heard ≡ heard_by g) g.commits
  pub are_held_up : AllByRecursion (IsHeldUp numbers) g.commits
  pub together : AreTogether g numbers
  pub fail : FailTogether g.commits
  pub seen_since : IsPrefix g.known g.went

-- each leader asked for its delay after all that the leaders before it had seen
abbrev pub Rise : List LedGroup → Type 0
Rise [] = ⊤
Rise (g ∷ groups) = AllByRecursion (λ (h : LedGroup). length g.went < length h.known) groups × Rise groups

-- where `last` was given last before these groups, each accepted answer names what is given last after its whole group
abbrev pub NameEnds : ℕ → List LedGroup → Type 0
NameEnds last [] = ⊤
NameEnds last (g ∷ groups) =
    AllByRecursion (λ (c : Commit). NamesEnd (last_after_all last g.commits) c.answer) g.commits
    × NameEnds (last_after_all last g.commits) groups

-- All commits after the sequence `start`, group by group. `asked` is the controller's history as the last leader had
-- seen it when it answered. Each leader asked for its own group's delay after all that the leaders before it had seen.
pub record AreInGroups (start group_bytes : ℕ) (asked : List ControllerCall) (commits : List Commit) : Type 0 where
  pub groups : List LedGroup
  pub cut : commits_in groups ≡ commits
  pub each : AllByRecursion (IsLedGroup group_bytes) groups
  pub seen : AllByRecursion (λ (g : LedGroup). IsPrefix g.went asked) groups
  pub rise : Rise groups
  pub name_ends : NameEnds start groups

-- for each delay of the client's in what it has seen of the controller (`known`), it has a commit in the group of that
-- delay
abbrev pub HasAsked : ℕ → List Commit → List ControllerCall → Type 0
HasAsked client own known = AllByRecursion (λ (place : ℕ). (c : Commit) × In c own × (place_of c ≡ place))
    (delays_of client known)
