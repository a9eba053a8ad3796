-- The events of the list, and the state after them, as plain lists.
use Rattle.std.specs.Prelude.{true, false, ◌≡◌, ◌≢◌, ℕ, Bool, ◌==◌, not, List, [], ◌∷◌, ◌++◌, map, filter, reverse}
-- named here too, for those that cite the definitions below
pub use Rattle.line_rule.specs.declared.view.LineEvent.{LineEvent}
pub use Rattle.line_rule.specs.declared.view.LineEvent.TheVariants.{Comes as comes, Elects as elects, Builds as builds, Stalls as stalls, Drops as drops, Resumes as resumes, Exits as exits, Completes as completes}
use Rattle.line_rule.specs.declared.view.QueuedWriter.{QueuedWriter}
use Rattle.line_rule.specs.declared.view.Handling.{Handling}
use Rattle.line_rule.specs.Chain.{Absent, of, handling}
use Rattle.line_rule.specs.Grouping.{IsGroup, item_of}

-- nobody has the log, or this client leads, or this writer leads and has these others in its group, and perhaps stalls
-- writes
pub data LogHolder (Request : Type 0) : Type 0 where
  free : LogHolder Request
  elected : ℕ → LogHolder Request
  grouped : QueuedWriter Request → List (QueuedWriter Request) → LogHolder Request
  halted : QueuedWriter Request → List (QueuedWriter Request) → LogHolder Request

-- the queue, newest first, who has the log, what was handled, and for what of it the clients haven't got their replies
-- yet
abbrev pub Core : Type 0 → Type 0 → Type 0
Core Request Reply = List (QueuedWriter Request) × LogHolder Request × List (Handling Request Reply)
    × List (Handling Request Reply)

-- the client doesn't have the log, and the one that has it doesn't have the client's request
abbrev pub IsNotWith : {Request : Type 0} → ℕ → LogHolder Request → Type 0
IsNotWith c free = Unit {0}
IsNotWith c (elected leader) = leader ≢ c
IsNotWith c (grouped own group) = Absent c (own ∷ group)
IsNotWith c (halted own group) = Absent c (own ∷ group)

-- this client has the log
abbrev pub IsHolder : {Request : Type 0} → ℕ → LogHolder Request → Type 0
IsHolder c free = ⊥
IsHolder c (elected leader) = leader ≡ c
IsHolder c (grouped own group) = own.by ≡ c
IsHolder c (halted own group) = own.by ≡ c

-- nobody stalls writes
abbrev pub IsRunning : {Request : Type 0} → LogHolder Request → Type 0
IsRunning free = Unit {0}
IsRunning (elected leader) = Unit {0}
IsRunning (grouped own group) = Unit {0}
IsRunning (halted own group) = ⊥

-- whether a writer with this code may not be slowed down
abbrev pub is_hasty : ℕ → Bool
is_hasty code = (item_of code).options.no_slowdown

-- the client and the request of a writer
abbrev pub wrote : {Request : Type 0} → QueuedWriter Request → ℕ × Request
wrote e = (e.by, e.asked)

module _ {Request Reply : Type 0} where
  -- the client and the request of a handling
  abbrev pub was_for : Handling Request Reply → ℕ × Request
  was_for h = (h.by, h.asked)

  -- the handlings without those of this client
  abbrev pub without : ℕ → List (Handling Request Reply) → List (Handling Request Reply)
  without c hs = filter (λ (h : Handling Request Reply). not (h.by == c)) hs

  -- the client waits nowhere, and no reply is due to it
  abbrev pub IsAway : ℕ → Core Request Reply → Type 0
  IsAway c k = Absent c k.0 × IsNotWith c k.1 × (of c k.3 ≡ [])

  -- clients and requests of what was handled are those of the group, the leader's first, and then in link order
  abbrev pub IsOfGroup : QueuedWriter Request → List (QueuedWriter Request) → List (Handling Request Reply) → Type 0
  IsOfGroup own group new = map was_for new ≡ map wrote (own ∷ reverse group)

  abbrev pub after : Core Request Reply → LineEvent Request Reply → Core Request Reply
  after k (comes e) = (e ∷ k.0, k.1, k.2, k.3)
  after k (elects e) = (k.0, elected e.by, k.2, k.3)
  after k (builds max own group left) = (left, grouped own group, k.2, k.3)
  after k (stalls own group) = (k.0, halted own group, k.2, k.3)
  after k (drops newer e older p) = (newer ++ older, k.1, k.2, k.3 ++ handling e p ∷ [])
  after k (resumes own group) = (k.0, grouped own group, k.2, k.3)
  after k (exits new) = (k.0, free, k.2 ++ new, k.3 ++ new)
  after k (completes h) = (k.0, k.1, k.2, without h.by k.3)

  abbrev pub Enabled : Core Request Reply → LineEvent Request Reply → Type 0
  Enabled k (comes e) = IsAway e.by k × IsRunning k.1
  Enabled k (elects e) = (k.1 ≡ free) × ((q : List (QueuedWriter Request)) × (k.0 ≡ q ++ e ∷ []))
  Enabled k (builds max own group left) = (k.1 ≡ elected own.by) × (k.0 ≡ left ++ (group ++ own ∷ []))
      × IsGroup max own group left
  Enabled k (stalls own group) = (k.1 ≡ grouped own group) × (is_hasty own.code ≡ false)
  Enabled k (drops newer e older p) = ((own : QueuedWriter Request) × (group : List (QueuedWriter Request))
      × (k.1 ≡ halted own group)) × (k.0 ≡ newer ++ e ∷ older) × Absent e.by (newer ++ older)
      × (is_hasty e.code ≡ true)
  Enabled k (resumes own group) = k.1 ≡ halted own group
  Enabled k (exits new) = (own : QueuedWriter Request) × (group : List (QueuedWriter Request))
      × (k.1 ≡ grouped own group)
      × IsOfGroup own group new
  Enabled k (completes h) = of h.by k.3 ≡ (h.asked, h.reply) ∷ []

  -- the state after these events; the latest is the first of the list
  abbrev pub core_of : List (LineEvent Request Reply) → Core Request Reply
  core_of [] = ([], free, [], [])
  core_of (v ∷ vs) = after (core_of vs) v

  -- each group is built under the list's bound
  abbrev pub IsBounded : ℕ → LineEvent Request Reply → Type 0
  IsBounded bound (comes e) = Unit {0}
  IsBounded bound (elects e) = Unit {0}
  IsBounded bound (builds max own group left) = max ≡ bound
  IsBounded bound (stalls own group) = Unit {0}
  IsBounded bound (drops newer e older p) = Unit {0}
  IsBounded bound (resumes own group) = Unit {0}
  IsBounded bound (exits new) = Unit {0}
  IsBounded bound (completes h) = Unit {0}

  -- each event may happen after those before it
  abbrev pub Legal : ℕ → List (LineEvent Request Reply) → Type 0
  Legal bound [] = Unit {0}
  Legal bound (v ∷ vs) = IsBounded bound v × Enabled (core_of vs) v × Legal bound vs

  -- the events are those of `past`, and then later ones
  abbrev pub GoesOn : List (LineEvent Request Reply) → List (LineEvent Request Reply) → Type 0
  GoesOn events past = (later : List (LineEvent Request Reply)) × (events ≡ later ++ past)

  -- the last event is that the client comes with q, when all that was handled for it was `mine`
  abbrev pub HasCome : ℕ → Request → List (Request × Reply) → List (LineEvent Request Reply) → Type 0
  HasCome c q mine past = (e : QueuedWriter Request) × (before : List (LineEvent Request Reply))
      × (past ≡ comes e ∷ before) × (e.by ≡ c)
      × (e.asked ≡ q) × (of c (core_of before).2 ≡ mine)

  -- The last event is that own builds its group under this bound, and `left` is left. Before it the queue was `left`
  -- and then the group, with own as its oldest writer; own led, and `seen` was all that was handled. All these events
  -- are legal.
  abbrev pub HasBuilt : ℕ → QueuedWriter Request → List (QueuedWriter Request) → List (QueuedWriter Request)
      → List (Handling Request Reply) → List (LineEvent Request Reply) → Type 0
  HasBuilt bound own group left seen past = (before : List (LineEvent Request Reply))
      × (owing : List (Handling Request Reply))
      × (past ≡ builds bound own group left ∷ before) × Legal bound past
      × (core_of before ≡ (left ++ (group ++ own ∷ []), elected own.by, seen, owing))
