-- The phase of each client, who has the log, and where the groups of the second list and its right are.
use Rattle.std.specs.Prelude.{◌≡◌, ◌≢◌, ℕ, List, [], ◌∷◌, ◌++◌, slice_index}
use Rattle.line_rule.specs.declared.words.TheConstants.{MARK, STALL}
use Rattle.line_rule.specs.declared.view.QueuedWriter.{QueuedWriter}
use Rattle.line_rule.specs.declared.view.Handling.{Handling}
use Rattle.line_rule.specs.declared.view.Squad.{Squad}
use Rattle.line_rule.specs.declared.view.Stall.{Stall}
use Rattle.line_rule.specs.declared.view.Stall.TheVariants.{Aimed, Stopped, Holds as Held, Owes}
use Rattle.line_rule.specs.declared.view.Back.{Back}
use Rattle.line_rule.specs.declared.view.Back.TheVariants.{Away, Parting, Joining, Holding, Queued, Serving, Passing}
use Rattle.line_rule.specs.Chain.{EndsWith, older_at}

-- how far a client is
pub data Phase (Request Reply : Type 0) : Type 0 where
  idle : Phase Request Reply
  preparing : ℕ → Phase Request Reply
  linked : QueuedWriter Request → Phase Request Reply
  chosen : QueuedWriter Request → Phase Request Reply
  leads : QueuedWriter Request → Phase Request Reply
  taken : ℕ → QueuedWriter Request → Phase Request Reply
  completed : Request → Reply → Phase Request Reply
  held : ℕ → QueuedWriter Request → Phase Request Reply
  dropped : ℕ → QueuedWriter Request → Reply → Phase Request Reply
  dismissed : Request → Reply → Phase Request Reply
  collecting : Phase Request Reply

-- whether a leader in the list stalls writes, and how far it is: not at all; it has named the newest writer in the word
-- `older_at 0`; the list ends at the stall's marker, and that word has its newest writer; the leader has the request of
-- this writer of the queue besides; or that writer has left the queue, and the leader owes it a reply
pub data Pause (Request : Type 0) : Type 0 where
  calm : Pause Request
  aimed : ℕ → Pause Request
  stopped : ℕ → Pause Request
  holding : ℕ → QueuedWriter Request → Pause Request
  owing : ℕ → QueuedWriter Request → Pause Request

-- where the log is: at home with nobody in the list, at home for the oldest writer, out with a leader in the list, or
-- with one that has cut its group off and has yet to wake the oldest writer
pub data Mode (Request : Type 0) : Type 0 where
  open_ : Mode Request
  waits : ℕ → Mode Request
  led : ℕ → Mode Request
  built : ℕ → List (QueuedWriter Request) → Pause Request → Mode Request
  cut : ℕ → ℕ → Mode Request
  marked : ℕ → Mode Request

-- where the walk ends: at nobody, or at the mark
abbrev pub base_of : {Request : Type 0} → Mode Request → ℕ
base_of open_ = 0
base_of (waits c) = 0
base_of (led c) = 0
base_of (built c g t) = 0
base_of (cut c w) = 0
base_of (marked c) = MARK

-- whether writes are stalled
abbrev pub pause_of : {Request : Type 0} → Mode Request → Pause Request
pause_of open_ = calm
pause_of (waits c) = calm
pause_of (led c) = calm
pause_of (built c g t) = t
pause_of (cut c w) = calm
pause_of (marked c) = calm

-- the words that name the newest writer, where it is this one
module _ {Request : Type 0} (words : List ℕ) (newest : ℕ) where
  abbrev pub Names : Pause Request → Type 0
  Names calm = slice_index words 0 ≡ newest
  Names (aimed w) = (slice_index words 0 ≡ newest) × (slice_index words (older_at 0) ≡ w)
  Names (stopped w) = (slice_index words 0 ≡ STALL) × (slice_index words (older_at 0) ≡ w) × (w ≡ newest)
  Names (holding w x) = (slice_index words 0 ≡ STALL) × (slice_index words (older_at 0) ≡ w) × (w ≡ newest)
  Names (owing w x) = (slice_index words 0 ≡ STALL) × (slice_index words (older_at 0) ≡ w) × (w ≡ newest)

-- the stall of a leader's view
abbrev pub pause_in : {Request Reply : Type 0} → Stall Request Reply → Pause Request
pause_in (Aimed w) = aimed w
pause_in (Stopped w) = stopped w
pause_in (Held w x) = holding w x
pause_in (Owes w x p) = owing w x

-- the client has the log
abbrev pub Holds : {Request : Type 0} → ℕ → Mode Request → Type 0
Holds k open_ = ⊥
Holds k (waits c) = ⊥
Holds k (led c) = c ≡ k
Holds k (built c g t) = c ≡ k
Holds k (cut c w) = c ≡ k
Holds k (marked c) = c ≡ k

-- the client has the log, and its own entry is still in the list
abbrev pub InFront : {Request : Type 0} → ℕ → Mode Request → Type 0
InFront k open_ = ⊥
InFront k (waits c) = ⊥
InFront k (led c) = c ≡ k
InFront k (built c g t) = c ≡ k
InFront k (cut c w) = ⊥
InFront k (marked c) = ⊥

-- where the group of a leader is: in no list but the first; cut off from that one, with this end of its links; in the
-- second list, and its leader isn't called yet; the oldest there, and its leader is called; the oldest there, and its
-- leader has the right; or cut off from the second list too, while its leader has yet to give the right on
pub data Place (Request Reply : Type 0) : Type 0 where
  away : Place Request Reply
  parted : Squad Request Reply → ℕ → Place Request Reply
  queued : Squad Request Reply → Place Request Reply
  called : Squad Request Reply → Place Request Reply
  serves : Squad Request Reply → Place Request Reply
  served : Squad Request Reply → Place Request Reply

-- where the right is: at home with no group, at home for the first group, out with its leader, or with one that has cut
-- its group off and has yet to wake the next
pub data Turn : Type 0 where
  still : Turn
  calls : ℕ → Turn
  held_by : ℕ → Turn
  passes : ℕ → ℕ → Turn

-- whether the newest group of the second list is that of a client that still has the log
pub data Lead2 : Type 0 where
  level : Lead2
  ahead : ℕ → Lead2

-- the second list: its groups, newest first, and what the right covers
pub record Two (Request Reply : Type 0) : Type 0 where
  pub groups : List (Squad Request Reply)
  pub place : ℕ → Place Request Reply
  pub turn : Turn
  pub lead : Lead2
  pub done : List (Handling Request Reply)

module _ {Request Reply : Type 0} where
  abbrev pub line_of : Squad Request Reply → List (QueuedWriter Request)
  line_of g = g.rest ++ g.own ∷ []

  -- the walk from the newest group
  abbrev pub flat : List (Squad Request Reply) → List (QueuedWriter Request)
  flat [] = []
  flat (g ∷ gs) = line_of g ++ flat gs

  -- the groups of the second list, except the newest one where its leader has yet to give the log on
  abbrev pub handed_on : List (Squad Request Reply) → Lead2 → List (Squad Request Reply)
  handed_on groups level = groups
  handed_on [] (ahead c) = []
  handed_on (g ∷ gs) (ahead c) = gs

  -- the group is the one in the second list that the place names
  abbrev pub In : Squad Request Reply → Place Request Reply → Type 0
  In g away = ⊥
  In g (parted f b) = ⊥
  In g (queued f) = f ≡ g
  In g (called f) = f ≡ g
  In g (serves f) = f ≡ g
  In g (served f) = ⊥

  -- the same, and its leader doesn't have the right
  abbrev pub Behind : Squad Request Reply → Place Request Reply → Type 0
  Behind g away = ⊥
  Behind g (parted f b) = ⊥
  Behind g (queued f) = f ≡ g
  Behind g (called f) = f ≡ g
  Behind g (serves f) = ⊥
  Behind g (served f) = ⊥

  -- the group isn't in the second list yet, or isn't any more
  abbrev pub Apart : Place Request Reply → Type 0
  Apart away = Unit {0}
  Apart (parted g b) = Unit {0}
  Apart (queued f) = ⊥
  Apart (called f) = ⊥
  Apart (serves f) = ⊥
  Apart (served f) = Unit {0}

  -- each group begins with what the older one ends with, the oldest with what the right covers, and the newest one
  -- ends with `last`
  abbrev pub Chained : List (Handling Request Reply) → List (Squad Request Reply) → List (Handling Request Reply)
      → Type 0
  Chained done [] last = done ≡ last
  Chained done (g ∷ gs) last = (g.to ≡ last) × Chained done gs g.from

  abbrev pub InStep : List (Handling Request Reply) → List (Squad Request Reply) → List (Handling Request Reply) → Lead2
      → Type 0
  InStep done groups last level = Chained done groups last
  InStep done groups last (ahead c) = (g : Squad Request Reply) × (gs : List (Squad Request Reply)) × (groups ≡ g ∷ gs)
      × (g.from ≡ last)
      × (g.own.by ≡ c) × Chained done gs last

  -- what a client knows of its group in the second list
  abbrev pub KnowsBack : Two Request Reply → ℕ → Back Request Reply → Type 0
  KnowsBack two c Away = (two.place c ≡ away) × (two.lead ≢ ahead c)
  KnowsBack two c (Parting g b) = (two.place c ≡ parted g b) × (two.lead ≢ ahead c)
  KnowsBack two c (Joining g) = Behind g (two.place c) × (two.lead ≡ ahead c)
  KnowsBack two c (Holding g) = (two.turn ≡ held_by c) × (two.place c ≡ serves g) × (two.lead ≡ ahead c)
  KnowsBack two c (Queued g) = Behind g (two.place c) × (two.lead ≢ ahead c)
  KnowsBack two c (Serving g walk) = (two.turn ≡ held_by c) × (two.place c ≡ serves g) × (two.lead ≢ ahead c)
      × EndsWith (flat two.groups) walk
  KnowsBack two c (Passing g x) = (two.turn ≡ passes c x.by) × (two.place c ≡ served g) × (two.lead ≢ ahead c)
      × (two.done ≡ g.to)
