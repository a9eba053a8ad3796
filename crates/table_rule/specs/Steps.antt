-- What each step tells its caller.
use Rattle.std.specs.Prelude.{◌≡◌, ◌≢◌, ℕ, ◌<◌, ◌≤◌, ◌+◌, ◌⊎◌, zero, suc, Bool, ◌==◌, if◌then◌else◌, List, [], ◌∷◌, ◌++◌, length}
use Rattle.std.specs.List.{list_any}
use Rattle.atomic_table.specs.Table.{Me, Step, rest}
use Rattle.table_rule.specs.declared.content.Version.{Version}
use Rattle.table_rule.specs.declared.content.MemberVersions.{MemberVersions}
use Rattle.table_rule.specs.declared.view.Opening.{Opening}
use Rattle.table_rule.specs.declared.view.Work.{Work}
use Rattle.table_rule.specs.declared.view.Launched.{Launched}
use Rattle.table_rule.specs.declared.view.SeatState.{SeatState}
use Rattle.table_rule.specs.declared.content.Content.{Content}
use Rattle.table_rule.specs.declared.content.Content.TheVariants.{Blank, Tree, Nodes}
use Rattle.table_rule.specs.declared.view.Lock.{Lock}
use Rattle.table_rule.specs.declared.view.Lock.TheVariants.{Free, Held}
use Rattle.table_rule.specs.declared.view.Stage.{Stage}
use Rattle.table_rule.specs.declared.view.Stage.TheVariants.{Idle, Waiting, Holding, Stored, Publishing, Resting, Handing, Filling}
use Rattle.table_rule.specs.Histories.{In, versions_in, standing, Runs, last_of, shard_of, Begins, Members, IsHistory, IsBase}
use Rattle.table_rule.specs.Rule.{seat_state, end_of}

abbrev pub SeatNow : Type 0 → Type 0 → Type 0
SeatNow ShardTree NodeList = Me (Content ShardTree NodeList) (List SeatState)

-- what a step tells about the seat before it, the number found or stored, and the seat after it
abbrev pub Telling : Type 0 → Type 0 → Type 1
Telling ShardTree NodeList =
    Step (Content ShardTree NodeList) → SeatNow ShardTree NodeList → ℕ → SeatNow ShardTree NodeList → Type 0

-- the slots that a seat has taken out, with what they hold
abbrev pub Carried : Type 0 → Type 0 → Type 0
Carried ShardTree NodeList = List (ℕ × Content ShardTree NodeList)

abbrev pub work : Launched → List Version → List Version → Work
work u done more = record { launched = u; done = done; rest = more }

-- the group g, launched after a history above `start`
abbrev pub launched_behind : ℕ → List (List MemberVersions) → List MemberVersions → Launched
launched_behind start before g = record { before = before; group = g; last = end_of (last_of start before) g }

-- the word is RUN of the part's member, by which the part is handed over; the member is one of the table's clients
abbrev pub IsWordOf : Opening → MemberVersions → ℕ → Type 0
IsWordOf z p word = (word ≡ z.shards + 1 + p.member) × (0 < p.member) × (p.member ≤ z.clients)

-- the nodes are the part's, and this is the last sequence of its group
abbrev pub AreOfPart : {NodeList : Type 0} → (NodeList → List Version) → Opening → List (List MemberVersions)
    → List MemberVersions → MemberVersions → NodeList → ℕ → Type 0
AreOfPart nodes_of z seen g p nodes last = (nodes_of nodes ≡ p.versions) × (last ≡ end_of (last_of z.start seen) g)

-- a part of the group is the client's
abbrev pub has_part : ℕ → List MemberVersions → Bool
has_part c g = list_any (λ (p : MemberVersions). p.member == c) g

-- the stage of the client that has launched the group: it must take its own part of it, if it has one
abbrev pub stage_after_launch : ℕ → Launched → Stage
stage_after_launch c u = if has_part c u.group then Waiting u else Idle

-- a member's versions, as a part of a group
abbrev pub part_of : ℕ → List Version → MemberVersions
part_of m vs = record { member = m; versions = vs }

-- what a tree shows of a history over the table's base: all its versions of that shard, and up to its end nothing else
abbrev pub Shows : Opening → ℕ → List (List MemberVersions) → List Version → Type 0
Shows z j seen vs = ((v : Version) → In v vs → shard_of z.shards v ≡ j)
    × ((v : Version) → In v (standing z.base seen) → shard_of z.shards v ≡ j → In v vs)
    × ((v : Version) → In v vs → v.sequence ≤ last_of z.start seen → In v (standing z.base seen))
    × IsBase z.start z.base

-- the tree ws is the tree vs with v added
abbrev pub Adds : List Version → Version → List Version → Type 0
Adds vs v ws = In v ws × ((x : Version) → In x vs → In x ws) × ((x : Version) → In x ws → (x ≡ v) ⊎ In x vs)

-- the tree ws is the tree vs with all of `new` added
abbrev pub AddsAll : List Version → List Version → List Version → Type 0
AddsAll vs new ws = ((x : Version) → In x new → In x ws) × ((x : Version) → In x vs → In x ws)
    × ((x : Version) → In x ws → In x new ⊎ In x vs)

-- all of them are of shard j
abbrev pub AreOfShard : ℕ → ℕ → List Version → Type 0
AreOfShard k j vs = (v : Version) → In v vs → shard_of k v ≡ j

-- the stage after the fetch-sub of RUNNING: the member that found 1 may publish
abbrev pub stage_after_finish : Launched → ℕ → Stage
stage_after_finish u zero = Idle
stage_after_finish u (suc zero) = Publishing u
stage_after_finish u (suc (suc r)) = Idle

-- no version of the tree has the sequence of one that is still to be inserted, and those sequences are a run
abbrev pub IsFresh : Stage → List Version → Type 0
IsFresh Idle vs = Unit {0}
IsFresh (Waiting u) vs = Unit {0}
IsFresh (Holding w) vs = ((v x : Version) → In v w.rest → In x vs → x.sequence ≢ v.sequence)
    × ((last : ℕ) × Runs last w.rest)
IsFresh (Stored u) vs = Unit {0}
IsFresh (Publishing u) vs = Unit {0}
IsFresh Resting vs = Unit {0}
IsFresh (Handing g ps) vs = Unit {0}
IsFresh (Filling g p ps) vs = Unit {0}

-- a stage of a client
abbrev pub IsClient : Stage → Type 0
IsClient Idle = Unit {0}
IsClient (Waiting u) = Unit {0}
IsClient (Holding w) = Unit {0}
IsClient (Stored u) = Unit {0}
IsClient (Publishing u) = Unit {0}
IsClient Resting = ⊥
IsClient (Handing g ps) = ⊥
IsClient (Filling g p ps) = ⊥

-- the client may take a part
abbrev pub MayTake : Stage → Type 0
MayTake Idle = Unit {0}
MayTake (Waiting u) = Unit {0}
MayTake (Holding w) = ⊥
MayTake (Stored u) = ⊥
MayTake (Publishing u) = ⊥
MayTake Resting = ⊥
MayTake (Handing g ps) = ⊥
MayTake (Filling g p ps) = ⊥

-- a client that waits for its part of the group v gets no part of another group
abbrev pub IsAwaited : Stage → Launched → Type 0
IsAwaited Idle u = Unit {0}
IsAwaited (Waiting v) u = u ≡ v
IsAwaited (Holding w) u = Unit {0}
IsAwaited (Stored v) u = Unit {0}
IsAwaited (Publishing v) u = Unit {0}
IsAwaited Resting u = Unit {0}
IsAwaited (Handing g ps) u = Unit {0}
IsAwaited (Filling g p ps) u = Unit {0}

-- the group may be launched after what is published
abbrev pub IsNext : Opening → List (List MemberVersions) → List MemberVersions → Type 0
IsNext z seen g = Runs (last_of z.start seen) (versions_in g) × (0 < length (versions_in g)) × Members z.clients g

-- The versions are client c's part of a launched group, which comes after all that c has seen.
pub record IsPartOf (z : Opening) (c : ℕ) (seen : List (List MemberVersions)) (u : Launched) (vs : List Version) :
    Type 0 where
  pub part : In (part_of c vs) u.group
  pub next : IsNext z u.before u.group
  pub last_is : u.last ≡ end_of (last_of z.start u.before) u.group
  pub seen_before : Begins seen u.before
  pub is_history : IsHistory z.start u.before

module _ {ShardTree NodeList : Type 0} where
  -- the seat has the view of one client or of the turn; its number is c
  abbrev pub IsAt : ℕ → Opening → List (List MemberVersions) → Lock → Stage → SeatNow ShardTree NodeList → Type 0
  IsAt c z seen lock stage m = m.0 ≡ seat_state c z seen lock stage ∷ []

  -- a client's load of LAST: it has seen the history up to the number found
  abbrev pub after_learn : Step (Content ShardTree NodeList) → SeatNow ShardTree NodeList → ℕ
      → SeatNow ShardTree NodeList → Type 0
  after_learn st m r m' = (c : ℕ) (z : Opening) (seen : List (List MemberVersions)) (stage : Stage)
      → IsAt c z seen Free stage m → (now : List (List MemberVersions)) × IsAt c z now Free stage m' × Begins seen now
      × IsHistory z.start now × (r ≡ last_of z.start now) × (m'.1 ≡ m.1)

  -- the compare-exchange of a lock from 0 to 1
  module _ (held_by : ShardTree → List Version) where
    abbrev pub after_lock : Step (Content ShardTree NodeList) → SeatNow ShardTree NodeList → ℕ
        → SeatNow ShardTree NodeList → Type 0
    after_lock st m r m' = (c : ℕ) (z : Opening) (seen : List (List MemberVersions)) (stage : Stage)
        → IsAt c z seen Free stage m
        → (r ≡ 0 → (t : ShardTree) × IsAt c z seen (Held st.word (held_by t)) stage m'
        × (m'.1 ≡ (st.word, Tree t) ∷ m.1)
        × Shows z st.word seen (held_by t) × IsFresh stage (held_by t))
        × (r ≢ 0 → m' ≡ m)

  -- the store that unlocks: the tree is as it was, or `new`, versions of the member's part, were added to it
  abbrev pub after_unlock : Step (Content ShardTree NodeList) → SeatNow ShardTree NodeList → ℕ
      → SeatNow ShardTree NodeList → Type 0
  after_unlock st m r m' = (c : ℕ) (z : Opening) (seen : List (List MemberVersions)) (stage : Stage) (vs : List Version)
      → IsAt c z seen (Held st.word vs) stage m → IsAt c z seen Free stage m' × (m'.1 ≡ rest m.1)

  abbrev pub after_add : List Version → Step (Content ShardTree NodeList) → SeatNow ShardTree NodeList → ℕ
      → SeatNow ShardTree NodeList → Type 0
  after_add new st m r m' = (c : ℕ) (z : Opening) (seen : List (List MemberVersions)) (u : Launched)
      (done more vs : List Version)
      → IsAt c z seen (Held st.word vs) (Holding (work u done (new ++ more))) m
      → IsAt c z seen Free (Holding (work u (done ++ new) more)) m' × (m'.1 ≡ rest m.1)

  -- the seat has the views of client c, which has seen `own`, and of the turn
  abbrev pub IsWithTurn : ℕ → Opening → List (List MemberVersions) → Stage → List (List MemberVersions) → Stage
      → SeatNow ShardTree NodeList → Type 0
  IsWithTurn c z own stage seen turn m = m.0 ≡ seat_state c z own Free stage ∷ seat_state 0 z seen Free turn ∷ []

  -- the store of RUNNING, by a client that has the turn
  abbrev pub after_launch : List MemberVersions → Step (Content ShardTree NodeList)
      → SeatNow ShardTree NodeList → ℕ → SeatNow ShardTree NodeList → Type 0
  after_launch g st m r m' = (c : ℕ) (z : Opening) (own seen : List (List MemberVersions))
      → IsWithTurn c z own Idle seen Resting m
      → IsWithTurn c z own (stage_after_launch c (launched_behind z.start seen g)) seen (Handing g g) m' × (m'.1 ≡ m.1)

  -- the turn's load of RUN_i
  abbrev pub after_empty : Step (Content ShardTree NodeList) → SeatNow ShardTree NodeList → ℕ
      → SeatNow ShardTree NodeList → Type 0
  after_empty st m r m' = (z : Opening) (seen : List (List MemberVersions)) (g : List MemberVersions)
      (p : MemberVersions)
      (ps : List MemberVersions) → IsAt 0 z seen Free (Handing g (p ∷ ps)) m → st.word ≡ z.shards + 1 + p.member
      → IsAt 0 z seen Free (Filling g p ps) m' × (r ≡ 0) × (m'.1 ≡ (z.shards + p.member, Blank) ∷ m.1)

  -- the turn's store of RUN_i
  abbrev pub after_give : Step (Content ShardTree NodeList) → SeatNow ShardTree NodeList → ℕ
      → SeatNow ShardTree NodeList → Type 0
  after_give st m r m' = (z : Opening) (seen : List (List MemberVersions)) (g : List MemberVersions)
      (p : MemberVersions)
      (ps : List MemberVersions) → IsAt 0 z seen Free (Filling g p ps) m
      → IsAt 0 z seen Free (Handing g ps) m' × (m'.1 ≡ rest m.1)

  -- a client's load of its RUN
  module _ (nodes_of : NodeList → List Version) where
    abbrev pub after_take : Step (Content ShardTree NodeList) → SeatNow ShardTree NodeList → ℕ
        → SeatNow ShardTree NodeList → Type 0
    after_take st m r m' = (c : ℕ) (z : Opening) (seen : List (List MemberVersions)) (stage : Stage)
        → IsAt c z seen Free stage m → MayTake stage
        → (r ≡ 1 → (x : NodeList) × (u : Launched) × IsAt c z seen Free (Holding (work u [] (nodes_of x))) m'
        × (m'.1 ≡ (z.shards + c, Nodes x u.last) ∷ m.1)
        × IsPartOf z c seen u (nodes_of x) × IsAwaited stage u)
        × (r ≢ 1 → m' ≡ m)

  -- a client's store of its RUN
  abbrev pub after_settle : Step (Content ShardTree NodeList) → SeatNow ShardTree NodeList → ℕ
      → SeatNow ShardTree NodeList → Type 0
  after_settle st m r m' = (c : ℕ) (z : Opening) (seen : List (List MemberVersions)) (u : Launched)
      (done : List Version)
      → IsAt c z seen Free (Holding (work u done [])) m → IsAt c z seen Free (Stored u) m' × (m'.1 ≡ rest m.1)

  -- the fetch-sub of RUNNING: it finds how many parts aren't finished, the member's own among them
  abbrev pub after_count : Step (Content ShardTree NodeList) → SeatNow ShardTree NodeList → ℕ
      → SeatNow ShardTree NodeList → Type 0
  after_count st m r m' = (c : ℕ) (z : Opening) (seen : List (List MemberVersions)) (u : Launched)
      → IsAt c z seen Free (Stored u) m → IsAt c z seen Free (stage_after_finish u r) m' × (m'.1 ≡ m.1)
      × (0 < r) × (r ≤ length u.group)

  -- the store of LAST: the seat has then seen the history with the group
  abbrev pub after_publish : Step (Content ShardTree NodeList) → SeatNow ShardTree NodeList → ℕ
      → SeatNow ShardTree NodeList → Type 0
  after_publish st m r m' = (c : ℕ) (z : Opening) (seen : List (List MemberVersions)) (u : Launched)
      → IsAt c z seen Free (Publishing u) m
      → IsAt c z (u.before ++ u.group ∷ []) Free Idle m' × Begins seen u.before
      × IsHistory z.start (u.before ++ u.group ∷ []) × (m'.1 ≡ m.1)

  -- the turn's load of LAST, with no part left to hand over
  abbrev pub after_await : Step (Content ShardTree NodeList) → SeatNow ShardTree NodeList → ℕ
      → SeatNow ShardTree NodeList → Type 0
  after_await st m r m' = (z : Opening) (seen : List (List MemberVersions)) (g : List MemberVersions)
      → IsAt 0 z seen Free (Handing g []) m
      → (r ≡ end_of (last_of z.start seen) g → IsAt 0 z (seen ++ g ∷ []) Free Resting m' × (m'.1 ≡ m.1))
      × (r ≢ end_of (last_of z.start seen) g → m' ≡ m)
