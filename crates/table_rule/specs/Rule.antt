-- The rule of the table. Words: shard j's lock is word j, LAST is word k, RUNNING is word k + 1, RUN_i is word k + 1 +
-- i. Slots: shard j's tree is slot j, member i's nodes are slot k + i, and slot k is never used.
use Rattle.std.specs.Prelude.{◌≡◌, ℕ, zero, suc, ◌+◌, ◌<◌, ◌≤◌, ◌⊎◌, List, [], ◌∷◌, ◌++◌, length, slice_index}
use mathlib.Core.Option.{Option, none, some}
use lib.ListN.{get_elem?}
use Rattle.atomic_table.specs.Table.{State}
use Rattle.table_rule.specs.declared.content.Version.{Version}
use Rattle.table_rule.specs.declared.content.MemberVersions.{MemberVersions}
use Rattle.table_rule.specs.declared.view.Opening.{Opening}
use Rattle.table_rule.specs.declared.view.SeatState.{SeatState}
use Rattle.table_rule.specs.declared.view.Launched.{Launched}
use Rattle.table_rule.specs.declared.content.Content.{Content}
use Rattle.table_rule.specs.declared.content.Content.TheVariants.{Blank, Tree, Nodes}
use Rattle.table_rule.specs.declared.view.Lock.{Lock}
use Rattle.table_rule.specs.declared.view.Lock.TheVariants.{Free, Held}
use Rattle.table_rule.specs.declared.view.Stage.{Stage}
use Rattle.table_rule.specs.declared.view.Stage.TheVariants.{Idle, Waiting, Holding, Stored, Publishing, Resting, Handing, Filling}
use Rattle.table_rule.specs.Histories.{In, versions_in, versions_of, standing, Runs, last_of, shard_of, Begins, Apart, Members, AreSome, IsBase}

-- where a client's part of the launched group is, with the group's last sequence
pub data Place : Type 0 where
  out : Place
  coming : ℕ → List Version → Place
  filling : ℕ → List Version → Place
  handed : ℕ → List Version → Place
  busy : ℕ → List Version → List Version → Place
  inserted : ℕ → List Version → Place
  finished : ℕ → List Version → Place

-- a shard's tree is at home, or with the holder of the lock
pub data ShardState : Type 0 where
  opened : List Version → ShardState
  held : ℕ → List Version → ShardState

-- no group is launched, or one is, or all its parts are finished and one member may publish it
pub data Mode : Type 0 where
  still : Mode
  running : List MemberVersions → Mode
  ended : ℕ → List MemberVersions → Mode

abbrev pub contents : ShardState → List Version
contents (opened vs) = vs
contents (held c vs) = vs

-- the versions of the part that are in their trees
abbrev pub stored_in : Place → List Version
stored_in out = []
stored_in (coming l vs) = []
stored_in (filling l vs) = []
stored_in (handed l vs) = []
stored_in (busy l done more) = done
stored_in (inserted l vs) = vs
stored_in (finished l vs) = vs

abbrev pub open_part : Place → ℕ
open_part out = 1
open_part (coming l vs) = 1
open_part (filling l vs) = 1
open_part (handed l vs) = 1
open_part (busy l done more) = 1
open_part (inserted l vs) = 1
open_part (finished l vs) = 0

-- the place of a part of the launched group whose last sequence is `end`
abbrev pub InPart : ℕ → List Version → Place → Type 0
InPart end vs out = ⊥
InPart end vs (coming l ws) = (l ≡ end) × (ws ≡ vs)
InPart end vs (filling l ws) = (l ≡ end) × (ws ≡ vs)
InPart end vs (handed l ws) = (l ≡ end) × (ws ≡ vs)
InPart end vs (busy l done more) = (l ≡ end) × (done ++ more ≡ vs)
InPart end vs (inserted l ws) = (l ≡ end) × (ws ≡ vs)
InPart end vs (finished l ws) = (l ≡ end) × (ws ≡ vs)

-- the client has no part in hand: it hasn't taken one, or has finished it
abbrev pub NotTaken : Place → Type 0
NotTaken out = Unit {0}
NotTaken (coming l vs) = Unit {0}
NotTaken (filling l vs) = Unit {0}
NotTaken (handed l vs) = Unit {0}
NotTaken (busy l done more) = ⊥
NotTaken (inserted l vs) = ⊥
NotTaken (finished l vs) = Unit {0}

-- the client's part is with the turn, or in the client's slot
abbrev pub IsComing : Place → Type 0
IsComing out = ⊥
IsComing (coming l vs) = Unit {0}
IsComing (filling l vs) = Unit {0}
IsComing (handed l vs) = Unit {0}
IsComing (busy l done more) = ⊥
IsComing (inserted l vs) = ⊥
IsComing (finished l vs) = ⊥

module _ (place : ℕ → Place) where
  abbrev pub unfinished : List MemberVersions → ℕ
  unfinished [] = 0
  unfinished (p ∷ ps) = open_part (place p.member) + unfinished ps

  abbrev pub AllParts : ℕ → List MemberVersions → Type 0
  AllParts end [] = Unit {0}
  AllParts end (p ∷ ps) = InPart end p.versions (place p.member) × AllParts end ps

  abbrev pub AllFinished : ℕ → List MemberVersions → Type 0
  AllFinished end [] = Unit {0}
  AllFinished end (p ∷ ps) = (place p.member ≡ finished end p.versions) × AllFinished end ps

  abbrev pub AllComing : ℕ → List MemberVersions → Type 0
  AllComing end [] = Unit {0}
  AllComing end (p ∷ ps) = (place p.member ≡ coming end p.versions) × Apart p.member ps × AllComing end ps

-- the last sequence of a group that comes after `last`
abbrev pub end_of : ℕ → List MemberVersions → ℕ
end_of last g = last + length (versions_in g)

module _ (n : ℕ) (word : ℕ) (place : ℕ → Place) (last : ℕ) where
  -- a group that may be published after `last`
  abbrev pub IsLaunched : List MemberVersions → Type 0
  IsLaunched g = Runs last (versions_in g) × (0 < length (versions_in g)) × Members n g
      × ((i : ℕ) → Apart i g → place i ≡ out)

  abbrev pub InMode : Mode → Type 0
  InMode still = (word ≡ 0) × ((i : ℕ) → place i ≡ out)
  InMode (running g) = (word ≡ unfinished place g) × (0 < word) × AllParts place (end_of last g) g × IsLaunched g
  InMode (ended m g) = (word ≡ 0) × AllFinished place (end_of last g) g × IsLaunched g

module _ (k start : ℕ) (published : List (List MemberVersions)) (mode : Mode) (place : ℕ → Place) (lock : ℕ
    → ShardState) (c : ℕ) where
  abbrev pub KnowsLock : Lock → Type 0
  KnowsLock Free = Unit {0}
  KnowsLock (Held j vs) = (j < k) × (lock j ≡ held c vs)

  -- it is the group that comes next after what is published
  abbrev pub IsBehind : Launched → Type 0
  IsBehind u = (published ≡ u.before) × (u.last ≡ end_of (last_of start published) u.group)

  -- that group is launched, and some part of it isn't finished
  abbrev pub IsRunning : Launched → Type 0
  IsRunning u = (mode ≡ running u.group) × IsBehind u

  module _ (seen : List (List MemberVersions)) where
    abbrev pub Knows : Stage → Type 0
    Knows Idle = NotTaken (place c)
    Knows (Waiting u) = IsComing (place c) × IsRunning u
    Knows (Holding w) = (place c ≡ busy w.launched.last w.done w.rest) × IsRunning w.launched
    Knows (Stored u) = ((vs : List Version) × (place c ≡ inserted u.last vs)) × IsRunning u
    Knows (Publishing u) = NotTaken (place c) × (mode ≡ ended c u.group) × IsBehind u
    Knows Resting = (c ≡ 0) × (mode ≡ still) × (published ≡ seen)
    Knows (Handing g []) = (c ≡ 0) × (((mode ≡ running g) × (published ≡ seen))
        ⊎ ((m : ℕ) × (mode ≡ ended m g) × (published ≡ seen)) ⊎ ((mode ≡ still) × (published ≡ seen ++ g ∷ [])))
    Knows (Handing g (p ∷ ps)) = (c ≡ 0) × (mode ≡ running g) × (published ≡ seen)
        × AllComing place (end_of (last_of start published) g) (p ∷ ps)
    Knows (Filling g p ps) = (c ≡ 0) × (mode ≡ running g) × (published ≡ seen)
        × (place p.member ≡ filling (end_of (last_of start published) g) p.versions)
        × AllComing place (end_of (last_of start published) g) ps

module _ (z : Opening) (published : List (List MemberVersions)) (mode : Mode) (place : ℕ → Place) (lock : ℕ
    → ShardState) (seat : ℕ → ℕ) (j : ℕ) where
  abbrev pub Fits : SeatState → Type 0
  Fits h = (seat h.client ≡ j) × (h.client ≤ z.clients) × (h.opening ≡ z) × Begins h.seen published
      × KnowsLock z.shards z.start published mode place lock h.client h.lock
      × Knows z.shards z.start published mode place lock h.client h.seen h.stage

  abbrev pub AllFit : List SeatState → Type 0
  AllFit [] = Unit {0}
  AllFit (h ∷ hs) = Fits h × AllFit hs

abbrev pub seat_state : ℕ → Opening → List (List MemberVersions) → Lock → Stage → SeatState
seat_state c z seen lock stage = record { client = c; opening = z; seen = seen; lock = lock; stage = stage }

-- the first states of m clients, from number c on, and then of the turn
abbrev pub newcomers : Opening → ℕ → ℕ → List SeatState
newcomers z c zero = seat_state 0 z [] Free Resting ∷ []
newcomers z c (suc m) = seat_state c z [] Free Idle ∷ newcomers z (suc c) m

module _ {ShardTree NodeList : Type 0} (held_by : ShardTree → List Version)
    (nodes_of : NodeList → List Version) where
  module _ (k : ℕ) (words : List ℕ) (homes : List (Option (Content ShardTree NodeList))) where
    abbrev pub InShard : ℕ → ShardState → Type 0
    InShard j (opened vs) = (slice_index words j ≡ 0)
        × ((t : ShardTree) × (get_elem? homes j ≡ some (some (Tree t))) × (held_by t ≡ vs))
    InShard j (held c vs) = (slice_index words j ≡ 1) × (get_elem? homes j ≡ some none)

    abbrev pub InPlace : ℕ → Place → Type 0
    InPlace i out = (slice_index words (k + 1 + i) ≡ 0) × (get_elem? homes (k + i) ≡ some (some Blank))
    InPlace i (coming l vs) = (slice_index words (k + 1 + i) ≡ 0) × (get_elem? homes (k + i) ≡ some (some Blank))
    InPlace i (filling l vs) = slice_index words (k + 1 + i) ≡ 0
    InPlace i (handed l vs) = (slice_index words (k + 1 + i) ≡ 1)
        × ((x : NodeList) × (get_elem? homes (k + i) ≡ some (some (Nodes x l))) × (nodes_of x ≡ vs))
    InPlace i (busy l done more) = slice_index words (k + 1 + i) ≡ 1
    InPlace i (inserted l vs) = (slice_index words (k + 1 + i) ≡ 0) × (get_elem? homes (k + i) ≡ some (some Blank))
    InPlace i (finished l vs) = (slice_index words (k + 1 + i) ≡ 0) × (get_elem? homes (k + i) ≡ some (some Blank))

  pub record IsConsistent (z : Opening) (s : State (Content ShardTree NodeList) (List SeatState)) : Type 0 where
    pub published : List (List MemberVersions)
    pub mode : Mode
    pub place : ℕ → Place
    pub lock : ℕ → ShardState
    pub seat : ℕ → ℕ
    pub wide : length s.words ≡ z.shards + 2 + z.clients
    pub many : length s.homes ≡ z.shards + 1 + z.clients
    pub some_shard : 0 < z.shards
    pub last_is : slice_index s.words z.shards ≡ last_of z.start published
    pub runs : Runs z.start (versions_of published)
    pub some_each : AreSome published
    pub base_is : IsBase z.start z.base
    pub shards_are : (j : ℕ) → j < z.shards → InShard z.shards s.words s.homes j (lock j)
    pub rows : (i : ℕ) → 0 < i → i ≤ z.clients → InPlace z.shards s.words s.homes i (place i)
    pub mode_is : InMode z.clients (slice_index s.words (z.shards + 1)) place (last_of z.start published) mode
    -- each version in a tree is of the tree's shard, and is of the base, or published, or one that a member has put in
    pub sound : (j : ℕ) (v : Version) → j < z.shards → In v (contents (lock j))
        → (shard_of z.shards v ≡ j) × (In v (standing z.base published) ⊎ ((i : ℕ) × In v (stored_in (place i))))
    pub complete : (v : Version) → In v (standing z.base published) → In v (contents (lock (shard_of z.shards v)))
    pub stored : (i : ℕ) (v : Version) → In v (stored_in (place i)) → In v (contents (lock (shard_of z.shards v)))
    pub seats : (j : ℕ) (v : List SeatState) → get_elem? s.views j ≡ some v
        → AllFit z published mode place lock seat j v
