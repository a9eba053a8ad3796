-- What the current holder of the log knows: the groups that leaders took, one after another, each with the place of its
-- delay, and how many calls of the controller its leader had seen when it decided whether the group goes on. At the
-- closing the groups of an outcome are made from this.
use Rattle.std.specs.Prelude.{◌≡◌, ◌≢◌, ℕ, ◌+◌, ◌≤◌, ⊤, Bool, List, [], ◌∷◌, ◌++◌, length, map, filter, flat_map, slice_get, ◌==◌, Option, Some}
use Rattle.std.specs.List.{AllByRecursion}
use Rattle.model_base.specs.declared.group.Item.{Item}
use Rattle.model_base.specs.Grouping.{size_of, group_len}
use Rattle.model_base.specs.Controller.{ControllerCall, delay, Look}
use Rattle.model_base.specs.Attempts.{Attempt, item_of}
use Rattle.model_base.specs.Groups.{Member, Group, HaveOwnPlaces, AreAsked, HaveOneFate}

-- a commit in a leader's group, with its client's number
pub record Taken : Type 0 where
  pub client : ℕ
  pub attempt : Attempt

pub record Led : Type 0 where
  pub place : ℕ
  pub decided : ℕ
  pub commits : List Taken

-- what grouping sees of these commits
abbrev pub items_in : List Taken → List Item
items_in ts = map (λ (t : Taken). item_of t.attempt) ts

abbrev pub all_taken : List Led → List Taken
all_taken led = flat_map (λ (g : Led). g.commits) led

-- the commits of one client among these, in order
abbrev pub is_of : ℕ → Taken → Bool
is_of client t = t.client == client

abbrev pub count_of_client : ℕ → List Taken → ℕ
count_of_client client ts = length (filter (is_of client) ts)

abbrev pub attempts_of : ℕ → List Taken → List Attempt
attempts_of client ts = map (λ (t : Taken). t.attempt) (filter (is_of client) ts)

-- each commit as a member: its client, and its number among that client's commits, where `before` are the earlier ones
abbrev pub members_after : List Taken → List Taken → List Member
members_after before [] = []
members_after before (t ∷ ts) =
    record { client = t.client; call = count_of_client t.client before; item = item_of t.attempt }
    ∷ members_after (before ++ t ∷ []) ts

abbrev pub groups_after : List Taken → List Led → List Group
groups_after before [] = []
groups_after before (g ∷ led) =
    record { place = g.place; members = members_after before g.commits } ∷ groups_after (before ++ g.commits) led

abbrev pub groups_of : List Led → List Group
groups_of led = groups_after [] led

-- no two of these commits are of one client
abbrev pub HaveOwnClients : List Taken → Type 0
HaveOwnClients [] = ⊤
HaveOwnClients (t ∷ ts) = AllByRecursion (λ (u : Taken). t.client ≢ u.client) ts × HaveOwnClients ts

-- A leader took a whole group, and asked for a delay for the sum of its sizes. That is the delay of each of its
-- commits, and the leader decided on all of them at once.
pub record IsLed (group_bytes : ℕ) (controller_calls : List ControllerCall) (g : Led) : Type 0 where
  pub by : ℕ
  pub now : ℕ
  pub told : Option Look
  pub there : slice_get controller_calls g.place
      ≡ Some (record { client = by; action = delay now (size_of (items_in g.commits)); told = told })
  pub some : 1 ≤ length g.commits
  pub whole : group_len group_bytes (items_in g.commits) ≡ length g.commits
  pub of_others : HaveOwnClients g.commits
  pub places : AllByRecursion (λ (t : Taken). t.attempt.place ≡ g.place) g.commits
  pub at_once : AllByRecursion (λ (t : Taken). t.attempt.decided ≡ g.decided) g.commits

-- These are all groups that leaders took. Each goes on or is refused as a whole, and together they have all the
-- clients' attempts.
pub record AreLed (group_bytes : ℕ) (controller_calls : List ControllerCall) (led : List Led)
    (attempts : List (List Attempt)) : Type 0 where
  pub each : AllByRecursion (IsLed group_bytes controller_calls) led
  pub places : HaveOwnPlaces (groups_of led)
  pub all : AreAsked (groups_of led) 0 controller_calls
  pub clients : AllByRecursion (λ (t : Taken). (1 ≤ t.client) × (t.client ≤ length attempts)) (all_taken led)
  pub together : AllByRecursion (λ (g : Led). HaveOneFate controller_calls (map (λ (h : Led). h.place) led) g.place
      g.decided (items_in g.commits) (map (λ (t : Taken). t.attempt.status) g.commits)) led
  pub of_client : (i : ℕ) (own : List Attempt) → slice_get attempts i ≡ Some own
      → own ≡ attempts_of (i + 1) (all_taken led)
