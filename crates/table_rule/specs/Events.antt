-- The table as the write path's core sees it, and what each event changes in it: a group is launched, the part of a
-- member is inserted, a member finishes, a group is published, a client reads.
use Rattle.std.specs.Prelude.{◌≡◌, ◌≢◌, ℕ, ◌<◌, Bool, true, false, List, [], ◌∷◌, ◌++◌, slice_index, length, count_by}
use mathlib.Core.Option.{none, some}
use lib.ListN.{get_elem?}
use Rattle.atomic_table.specs.Table.{State, Act, Valid, step, stepped, carried_after}
use Rattle.table_rule.specs.declared.content.Content.{Content}
use Rattle.table_rule.specs.declared.content.MemberVersions.{MemberVersions}
use Rattle.table_rule.specs.declared.content.Version.{Version}
use Rattle.table_rule.specs.declared.view.Opening.{Opening}
use Rattle.table_rule.specs.declared.view.SeatState.{SeatState}
use Rattle.table_rule.specs.Histories.{In, last_of}
use Rattle.table_rule.specs.Rule.{Place, out, coming, filling, handed, busy, inserted, finished, Mode, still, running, ended, IsConsistent}
use Rattle.table_rule.specs.Steps.{SeatNow, Telling}

-- how far a member is with its part of the launched group
pub data Progress : Type 0 where
  to_insert : Progress
  to_finish : Progress
  is_finished : Progress

abbrev pub progress_of : Place → Progress
progress_of out = to_insert
progress_of (coming l vs) = to_insert
progress_of (filling l vs) = to_insert
progress_of (handed l vs) = to_insert
progress_of (busy l done more) = to_insert
progress_of (inserted l vs) = to_finish
progress_of (finished l vs) = is_finished

-- what is published, which group is launched, and how far each member is
pub record TableNow : Type 0 where
  pub published : List (List MemberVersions)
  pub mode : Mode
  pub progress : ℕ → Progress

abbrev pub table_now : List (List MemberVersions) → Mode → (ℕ → Place) → TableNow
table_now published mode place = record { published = published; mode = mode; progress = λ i. progress_of (place i) }

-- m is a member of the group
abbrev pub IsMember : ℕ → List MemberVersions → Type 0
IsMember m g = (p : MemberVersions) × In p g × (p.member ≡ m)

-- nothing moves
abbrev pub Stays : TableNow → TableNow → Type 0
Stays a b = (b.published ≡ a.published) × (b.mode ≡ a.mode) × ((i : ℕ) → b.progress i ≡ a.progress i)

-- nothing moves, and the last published sequence is found
abbrev pub IsRead : ℕ → ℕ → TableNow → TableNow → Type 0
IsRead start found a b = Stays a b × (found ≡ last_of start a.published)

-- only member m's progress moves
abbrev pub OnlyMember : ℕ → Progress → Progress → TableNow → TableNow → Type 0
OnlyMember m was is a b = (b.published ≡ a.published) × (a.progress m ≡ was) × (b.progress m ≡ is)
    × ((i : ℕ) → i ≢ m → b.progress i ≡ a.progress i)

-- the group g is launched where none was, and no member has inserted its part
abbrev pub IsLaunch : List MemberVersions → TableNow → TableNow → Type 0
IsLaunch g a b = (a.mode ≡ still) × (b.mode ≡ running g) × (b.published ≡ a.published)
    × ((i : ℕ) → b.progress i ≡ to_insert)

-- the part of the launched group that is m's is in the trees
abbrev pub IsInsert : ℕ → TableNow → TableNow → Type 0
IsInsert m a b = (g : List MemberVersions) × (a.mode ≡ running g) × IsMember m g × (b.mode ≡ a.mode)
    × OnlyMember m to_insert to_finish a b

-- how many of the group's members haven't finished
abbrev pub is_running : Progress → Bool
is_running to_insert = true
is_running to_finish = true
is_running is_finished = false

abbrev pub count_running : (ℕ → Progress) → List MemberVersions → ℕ
count_running progress g = count_by (λ (p : MemberVersions). is_running (progress p.member)) g

-- m finishes, and finds how many members hadn't finished: 1 if it is the last of the group, more if others must still
-- finish
abbrev pub IsFinish : ℕ → ℕ → TableNow → TableNow → Type 0
IsFinish m found a b = (g : List MemberVersions) × (a.mode ≡ running g) × IsMember m g
    × (found ≡ count_running a.progress g) × OnlyMember m to_finish is_finished a b
    × (found ≡ 1 → (b.mode ≡ ended m g) × ((p : MemberVersions) → In p g → b.progress p.member ≡ is_finished))
    × (found ≢ 1 → b.mode ≡ a.mode)

-- the group in which m finished last is published after the others
abbrev pub IsPublish : ℕ → TableNow → TableNow → Type 0
IsPublish m a b = (g : List MemberVersions) × (a.mode ≡ ended m g) × (b.mode ≡ still)
    × (b.published ≡ a.published ++ g ∷ []) × ((i : ℕ) → b.progress i ≡ to_insert)

module _ {ShardTree NodeList : Type 0} (held_by : ShardTree → List Version)
    (nodes_of : NodeList → List Version) where
  abbrev pub now_of : (z : Opening) (s : State (Content ShardTree NodeList) (List SeatState))
      → IsConsistent held_by nodes_of z s
      → TableNow
  now_of z s r = table_now r.published r.mode r.place

  -- the table keeps the rule, and the core sees it as `now`
  abbrev pub IsNow : Opening → TableNow → State (Content ShardTree NodeList) (List SeatState) → Type 0
  IsNow z now s = (r : IsConsistent held_by nodes_of z s) × (now_of z s r ≡ now)

  -- the table keeps the rule, and the event led to what the core sees of it
  abbrev pub Comes : (TableNow → TableNow → Type 0) → Opening → TableNow
      → State (Content ShardTree NodeList) (List SeatState) → Type 0
  Comes event z before s = (now : TableNow) × event before now × IsNow z now s

  -- The seat makes its step on the word i, which becomes f of what it was. Whatever state the table is in, the rule is
  -- kept, the step is the event, and `then` holds of the number that was found and of the seat afterwards.
  abbrev pub StepIs : (ℕ → TableNow → TableNow → Type 0) → Opening → ℕ → ℕ → SeatNow ShardTree NodeList → ℕ → (ℕ → ℕ)
      → (ℕ → SeatNow ShardTree NodeList → Type 0) → Type 0
  StepIs event z slots id me i f then =
      (s : State (Content ShardTree NodeList) (List SeatState)) (r : IsConsistent held_by nodes_of z s)
      → length s.homes ≡ slots → get_elem? s.views id ≡ some me.0 → slice_index s.words i < 18446744073709551616
      → (w : List SeatState) × (a : Act (Content ShardTree NodeList)) × Valid s.homes me.1 a
      × Comes (event (slice_index s.words i)) z (now_of z s r) (stepped s i (f (slice_index s.words i)) id me.1 w a)
      × then (slice_index s.words i) (w, carried_after me.1 a)

  -- the step is a load of the word i
  abbrev pub LoadIs : (ℕ → TableNow → TableNow → Type 0) → Opening → ℕ → ℕ → SeatNow ShardTree NodeList → ℕ
      → Telling ShardTree NodeList → Type 0
  LoadIs event z slots id me i tells = StepIs event z slots id me i (λ x. x) (tells (step slots i 0 0 none) me)

  -- the step is a store of this value
  abbrev pub StoreIs : (TableNow → TableNow → Type 0) → Opening → ℕ → ℕ → SeatNow ShardTree NodeList → ℕ → ℕ
      → Telling ShardTree NodeList → Type 0
  StoreIs event z slots id me i value tells = StepIs (λ _. event) z slots id me i (λ _. value)
      (λ _. tells (step slots i value 0 none) me value)
