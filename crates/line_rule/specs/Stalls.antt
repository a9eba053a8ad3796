-- What each step of a stall tells its caller.
use Rattle.std.specs.Prelude.{◌≡◌, ◌≢◌, ℕ, ◌<◌, ◌+◌, List, [], ◌∷◌, ◌++◌, length}
use Rattle.atomic_table.specs.Table.{Step, rest}
use Rattle.line_rule.specs.declared.words.TheConstants.{STALL}
use Rattle.line_rule.specs.declared.view.QueuedWriter.{QueuedWriter}
use Rattle.line_rule.specs.declared.view.Lead.{Lead}
use Rattle.line_rule.specs.declared.content.LineSlot.{LineSlot}
use Rattle.line_rule.specs.declared.content.LineSlot.TheVariants.{Asked, Told}
use Rattle.line_rule.specs.declared.view.LineStage.TheVariants.{Idle, Preparing, Leading, Stalling}
use Rattle.line_rule.specs.declared.view.Stall.TheVariants.{Aimed, Stopped, Holds, Owes}
use Rattle.line_rule.specs.Chain.{older_at, pack, newest}
use Rattle.line_rule.specs.Plays.{Sat, At, AllBelow, in_hand, lead_with_walk}

module _ {Request Reply Log Right : Type 0} where
  -- a writer that is about to link goes back instead: it gives its empty slot back
  abbrev pub after_withdraw : Step (LineSlot Request Reply Log Right) → Sat Request Reply Log Right → ℕ
      → Sat Request Reply Log Right → Type 0
  after_withdraw st m r m' = (c w : ℕ) (mine : List (Request × Reply)) → At c (Preparing w) mine m → At c Idle mine m'
      × (m'.1 ≡ [])

  -- a leader names the newest writer that it saw in the word `older_at 0`
  abbrev pub after_aim_stall : Step (LineSlot Request Reply Log Right) → Sat Request Reply Log Right → ℕ
      → Sat Request Reply Log Right → Type 0
  after_aim_stall st m r m' = (c : ℕ) (lead : Lead Request Reply) (mine : List (Request × Reply))
      → At c (Leading lead) mine m → At c (Stalling lead (Aimed st.first)) mine m' × (m'.1 ≡ m.1)

  -- the leader has stalled writes, and has read the whole queue, which nobody joins from here on
  abbrev pub Stops : ℕ → ℕ → ℕ → Lead Request Reply → List (Request × Reply) → Sat Request Reply Log Right
      → Sat Request Reply Log Right → Type 0
  Stops slots w c lead mine m m' = (queue : List (QueuedWriter Request))
      × At c (Stalling (lead_with_walk lead (queue ++ in_hand lead)) (Stopped w)) mine m' × (m'.1 ≡ m.1)
      × (w ≡ newest (queue ++ in_hand lead)) × (length (queue ++ in_hand lead) + 1 < slots)
      × AllBelow slots (queue ++ in_hand lead)

  -- the marker is put, if the newest writer is the one that was named
  abbrev pub after_stall : Step (LineSlot Request Reply Log Right) → Sat Request Reply Log Right → ℕ
      → Sat Request Reply Log Right → Type 0
  after_stall st m r m' = (c : ℕ) (lead : Lead Request Reply) (mine : List (Request × Reply))
      → At c (Stalling lead (Aimed st.first)) mine m
      → (r ≡ st.first → Stops st.slots st.first c lead mine m m')
      × (r ≢ st.first → At c (Leading lead) mine m' × (m'.1 ≡ m.1))

  -- the leader takes the request of a writer of the queue, of which holds what the list's law asks
  abbrev pub after_hold : (Request → ℕ → Type 0) → Step (LineSlot Request Reply Log Right) → Sat Request Reply Log Right
      → ℕ → Sat Request Reply Log Right → Type 0
  after_hold asks st m r m' = (c w : ℕ) (lead : Lead Request Reply) (mine : List (Request × Reply))
      (newer older : List (QueuedWriter Request)) (x : QueuedWriter Request)
      → At c (Stalling lead (Stopped w)) mine m → lead.walk ≡ newer ++ x ∷ (older ++ in_hand lead)
      → st.word ≡ older_at x.by → At c (Stalling lead (Holds w x)) mine m' × (m'.1 ≡ (x.by, Asked x.asked) ∷ m.1)
      × (r ≡ pack (newest (older ++ in_hand lead)) x.code) × asks x.asked x.code

  -- the leader gives it back
  abbrev pub after_give_back : Step (LineSlot Request Reply Log Right) → Sat Request Reply Log Right → ℕ
      → Sat Request Reply Log Right → Type 0
  after_give_back st m r m' = (c w : ℕ) (lead : Lead Request Reply) (x : QueuedWriter Request)
      (mine : List (Request × Reply)) → At c (Stalling lead (Holds w x)) mine m
      → At c (Stalling lead (Stopped w)) mine m' × (m'.1 ≡ rest m.1)

  -- the writer leaves the queue: the link of the next newer one goes past it
  abbrev pub after_pass_by : Step (LineSlot Request Reply Log Right) → Sat Request Reply Log Right → ℕ
      → Sat Request Reply Log Right → Type 0
  after_pass_by st m r m' = (c w : ℕ) (lead : Lead Request Reply) (mine : List (Request × Reply))
      (newer older : List (QueuedWriter Request)) (y x : QueuedWriter Request) (p : Reply)
      (t : List (ℕ × LineSlot Request Reply Log Right))
      → At c (Stalling lead (Holds w x)) mine m → lead.walk ≡ newer ++ y ∷ x ∷ older → st.word ≡ older_at y.by
      → m.1 ≡ (x.by, Told p) ∷ t
      → At c (Stalling (lead_with_walk lead (newer ++ y ∷ older)) (Owes w x p)) mine m' × (m'.1 ≡ m.1)

  -- the same of the newest writer of the queue, where `older_at 0` names the next older one from then on
  abbrev pub after_pass_first : Step (LineSlot Request Reply Log Right) → Sat Request Reply Log Right → ℕ
      → Sat Request Reply Log Right → Type 0
  after_pass_first st m r m' = (c w : ℕ) (lead : Lead Request Reply) (mine : List (Request × Reply))
      (older : List (QueuedWriter Request)) (x : QueuedWriter Request) (p : Reply)
      (t : List (ℕ × LineSlot Request Reply Log Right))
      → At c (Stalling lead (Holds w x)) mine m → lead.walk ≡ x ∷ older → m.1 ≡ (x.by, Told p) ∷ t
      → At c (Stalling (lead_with_walk lead older) (Owes st.first x p)) mine m' × (m'.1 ≡ m.1)

  -- the writer that left gets its reply
  abbrev pub after_dismiss : Step (LineSlot Request Reply Log Right) → Sat Request Reply Log Right → ℕ
      → Sat Request Reply Log Right → Type 0
  after_dismiss st m r m' = (c w : ℕ) (lead : Lead Request Reply) (x : QueuedWriter Request) (p : Reply)
      (mine : List (Request × Reply)) → At c (Stalling lead (Owes w x p)) mine m
      → At c (Stalling lead (Stopped w)) mine m' × (m'.1 ≡ rest m.1)

  -- the stall ends: word 0 names the newest writer again
  abbrev pub after_resume : Step (LineSlot Request Reply Log Right) → Sat Request Reply Log Right → ℕ
      → Sat Request Reply Log Right → Type 0
  after_resume st m r m' = (c w : ℕ) (lead : Lead Request Reply) (mine : List (Request × Reply))
      → At c (Stalling lead (Stopped w)) mine m → (r ≡ STALL) × At c (Leading lead) mine m' × (m'.1 ≡ m.1)
