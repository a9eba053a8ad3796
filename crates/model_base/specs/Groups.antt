-- For which groups of commits the controller was asked for a delay, that each commit is in the group of its own delay,
-- and that its status agrees with the trace.
use Rattle.std.specs.Prelude.{◌≡◌, ◌≢◌, ◌⊎◌, ℕ, ◌+◌, ◌<◌, Bool, true, false, IsTrue, List, [], ◌∷◌, length, map, flat_map, ⊤, Option, Some, slice_get}
use Rattle.std.specs.List.{AllByRecursion, AllZip}
use Rattle.model_base.specs.declared.group.Item.{Item}
use Rattle.model_base.specs.History.{IsBoundary}
use Rattle.model_base.specs.Grouping.{size_of, group_len}
use Rattle.model_base.specs.Controller.{ControllerCall, Action, stop, unstop, slow, unslow, delay, look, say, hear, Look, HoldUp}
use Rattle.model_base.specs.Trace.{Trace}
use Rattle.model_base.specs.Attempts.{Attempt, WriteStatus, succeeded, slowed, faulted, full, item_of}

-- a commit: its client, its number (from 0) among that client's commits that leaders took into groups, and what
-- grouping sees of it
pub record Member : Type 0 where
  pub client : ℕ
  pub call : ℕ
  pub item : Item

abbrev pub items_of : List Member → List Item
items_of members = map (λ (m : Member). m.item) members

-- no two of these members are of one client
abbrev pub AreOfOthers : List Member → Type 0
AreOfOthers [] = ⊤
AreOfOthers (m ∷ members) = AllByRecursion (λ (n : Member). m.client ≢ n.client) members × AreOfOthers members

-- these are a whole group by the rule of grouping
pub record IsGroup (group_bytes : ℕ) (members : List Member) : Type 0 where
  pub some : 0 < length members
  pub whole : group_len group_bytes (items_of members) ≡ length members
  pub of_others : AreOfOthers members

-- a group of commits, and the place (from 0) of the delay that was asked for it in the controller's history
pub record Group : Type 0 where
  pub place : ℕ
  pub members : List Member

-- at the group's place the controller's history has a delay of the sum of its sizes, and the group is a whole one
pub record IsAskedFor (group_bytes : ℕ) (controller_calls : List ControllerCall) (g : Group) : Type 0 where
  pub by : ℕ
  pub now : ℕ
  pub told : Option Look
  pub there : slice_get controller_calls g.place
      ≡ Some (record { client = by; action = delay now (size_of (items_of g.members)); told = told })
  pub is_group : IsGroup group_bytes g.members

pub record HasPlace (groups : List Group) (place : ℕ) : Type 0 where
  pub at : ℕ
  pub group : Group
  pub there : slice_get groups at ≡ Some group
  pub is : group.place ≡ place

abbrev pub is_delay : Action → Bool
is_delay (stop shown) = false
is_delay (unstop shown) = false
is_delay (slow rate shown) = false
is_delay (unslow shown) = false
is_delay (delay now bytes) = true
is_delay look = false
is_delay (say shown) = false
is_delay (hear most) = false

-- each delay among these calls, the first of which has this place, was asked for one of the groups
abbrev pub AreAsked : List Group → ℕ → List ControllerCall → Type 0
AreAsked groups place [] = ⊤
AreAsked groups place (t ∷ controller_calls) = (IsTrue (is_delay t.action) → HasPlace groups place)
    × AreAsked groups (place + 1) controller_calls

-- the member is one of the clients' commits; `attempts` has a list for each client, in the order of their numbers from
-- 1
pub record IsCommit (attempts : List (List Attempt)) (m : Member) : Type 0 where
  pub number : ℕ
  pub commits : List Attempt
  pub attempt : Attempt
  pub client : m.client ≡ number + 1
  pub of_client : slice_get attempts number ≡ Some commits
  pub there : slice_get commits m.call ≡ Some attempt
  pub item : m.item ≡ item_of attempt

-- these two members aren't one commit
abbrev pub AreApart : Member → Member → Type 0
AreApart m n = m.client ≡ n.client → m.call ≢ n.call

abbrev pub AreAllApart : List Member → Type 0
AreAllApart [] = ⊤
AreAllApart (m ∷ members) = AllByRecursion (AreApart m) members × AreAllApart members

-- no delay was asked for two of the groups
abbrev pub HaveOwnPlaces : List Group → Type 0
HaveOwnPlaces [] = ⊤
HaveOwnPlaces (g ∷ groups) = AllByRecursion (λ (h : Group). g.place ≢ h.place) groups × HaveOwnPlaces groups

abbrev pub members_of : List Group → List Member
members_of groups = flat_map (λ (g : Group). g.members) groups

-- the group whose delay is at this place has this commit as a member
pub record Holds (groups : List Group) (place client call : ℕ) : Type 0 where
  pub at : ℕ
  pub group : Group
  pub of_place : slice_get groups at ≡ Some group
  pub place_is : group.place ≡ place
  pub among : ℕ
  pub member : Member
  pub there : slice_get group.members among ≡ Some member
  pub client_is : member.client ≡ client
  pub call_is : member.call ≡ call

-- This client looked and saw no stop. The look comes after the delay at this place, before each of these delays that is
-- later than that one, and before its client decided whether the group goes on: it is one of the first `decided` calls.
pub record SawNoStop (controller_calls : List ControllerCall) (delays : List ℕ) (client place decided : ℕ) : Type 0
  where
    pub at : ℕ
    pub numbers : Look
    pub there : slice_get controller_calls at ≡ Some (record { client = client; action = look; told = Some numbers })
    pub behind : place < at
    pub before : AllByRecursion (λ (delay : ℕ). place < delay → at < delay) delays
    pub among : at < decided
    pub free : numbers.stops ≡ 0

-- A commit may be written, by what its group's delay answered (`numbers`). With `no_slowdown`, the last argument, it
-- may unless writes were held up. Without it, it may if no stop was seen, by the delay or by a later look of the client
-- that asked for it, among the calls that this client had seen when it decided (`decided`).
abbrev pub MayProceed : List ControllerCall → List ℕ → ℕ → ℕ → ℕ → Look → Bool → Type 0
MayProceed controller_calls delays client place decided numbers true = HoldUp numbers → ⊥
MayProceed controller_calls delays client place decided numbers false =
    (numbers.stops ≡ 0) ⊎ SawNoStop controller_calls delays client place decided

-- this holds for each item of the group whose delay is at this place, where its leader decided when it had seen this
-- many calls
pub record Proceeds (controller_calls : List ControllerCall) (delays : List ℕ) (place decided : ℕ)
    (items : List Item) : Type 0
  where
    pub by : ℕ
    pub now : ℕ
    pub bytes : ℕ
    pub numbers : Look
    pub there : slice_get controller_calls place
        ≡ Some (record { client = by; action = delay now bytes; told = Some numbers })
    pub each : AllByRecursion
        (λ (i : Item). MayProceed controller_calls delays by place decided numbers i.options.no_slowdown) items

abbrev pub is_slowed : WriteStatus → Bool
is_slowed slowed = true
is_slowed succeeded = false
is_slowed (faulted count) = false
is_slowed (full last) = false

-- Either each of these statuses says that writes were held up, or none says so and the group may go on.
abbrev pub HaveOneFate : List ControllerCall → List ℕ → ℕ → ℕ → List Item → List WriteStatus → Type 0
HaveOneFate controller_calls delays place decided items statuses = AllByRecursion (λ status. status ≡ slowed) statuses
    ⊎ (AllByRecursion (λ status. is_slowed status ≡ false) statuses
    × Proceeds controller_calls delays place decided items)

-- The members are commits whose delay is the group's, and its leader decided on all of them at once. The group is
-- refused as a whole because writes were held up, or goes on as a whole.
pub record HasOneFate (controller_calls : List ControllerCall) (groups : List Group)
    (attempts : List (List Attempt)) (g : Group) : Type 0 where
  pub decided : ℕ
  pub statuses : List WriteStatus
  pub are : AllZip (λ (m : Member) status. (c : IsCommit attempts m) × (c.attempt.status ≡ status)
      × (c.attempt.place ≡ g.place) × (c.attempt.decided ≡ decided)) g.members statuses
  pub together : HaveOneFate controller_calls (map (λ (h : Group). h.place) groups) g.place decided
      (items_of g.members) statuses

-- The controller's history has one delay for each of these groups, and no other. Each commit is in just one of the
-- groups, that of its own delay.
pub record AreGroups (group_bytes : ℕ) (controller_calls : List ControllerCall) (groups : List Group)
    (attempts : List (List Attempt)) : Type 0 where
  pub each : AllByRecursion (IsAskedFor group_bytes controller_calls) groups
  pub all : AreAsked groups 0 controller_calls
  pub places : HaveOwnPlaces groups
  pub commits : AllByRecursion (IsCommit attempts) (members_of groups)
  pub apart : AreAllApart (members_of groups)
  pub none_else : (number : ℕ) (commits : List Attempt) (call : ℕ) (attempt : Attempt)
      → slice_get attempts number ≡ Some commits → slice_get commits call ≡ Some attempt
      → Holds groups attempt.place (number + 1) call
  pub together : AllByRecursion (HasOneFate controller_calls groups attempts) groups

-- A commit's status agrees with the trace: if it is `faulted`, the run has that fault; if it is `full`, the sequence
-- that it names is a boundary. Whether it is right that it is `slowed` is said of its whole group (`HasOneFate`).
abbrev pub IsStatus : Trace → Option ℕ → WriteStatus → Type 0
IsStatus trace fault succeeded = ⊤
IsStatus trace fault slowed = ⊤
IsStatus trace fault (faulted count) = fault ≡ Some count
IsStatus trace fault (full last) = IsBoundary trace.start trace.entries last

-- so does the status of each of a client's commits
abbrev pub AreStatuses : Trace → Option ℕ → List Attempt → Type 0
AreStatuses trace fault attempts = AllByRecursion (λ (h : Attempt). IsStatus trace fault h.status) attempts
