-- What each step tells its caller.
use Rattle.std.specs.Prelude.{Bool, true, ◌≡◌, ◌≢◌, ℕ, ◌<◌, ◌+◌, ◌⊎◌, List, [], ◌∷◌, ◌++◌, length}
use Rattle.atomic_table.specs.Table.{Me, Step, rest}
use Rattle.line_rule.specs.declared.words.TheConstants.{MARK, STATE_DONE, STATE_LEADS_LOG, STATE_LEADS_TABLE, STATE_PARALLEL}
use Rattle.line_rule.specs.declared.view.QueuedWriter.{QueuedWriter}
use Rattle.line_rule.specs.declared.view.Handling.{Handling}
use Rattle.line_rule.specs.declared.view.Lead.{Lead}
use Rattle.line_rule.specs.declared.view.LineHold.{LineHold}
use Rattle.line_rule.specs.declared.content.LineSlot.{LineSlot}
use Rattle.line_rule.specs.declared.content.LineSlot.TheVariants.{Empty, Asked, Told, TheLog, TheRight}
use Rattle.line_rule.specs.declared.view.LineStage.{LineStage}
use Rattle.line_rule.specs.declared.view.LineStage.TheVariants.{Idle, Preparing, Waiting, Helping, Fresh, Leading, Stalling, Cutting, Marking, Settling, Collecting}
use Rattle.line_rule.specs.declared.view.Debt.{Debt}
use Rattle.line_rule.specs.Chain.{older_at, pack, newest, newest_from, heads, of}
use Rattle.line_rule.specs.Grouping.{IsWhole}
use Rattle.line_rule.specs.Events.{LineEvent, HasCome, HasBuilt}
use Rattle.line_rule.specs.declared.view.Squad.{Squad}
use Rattle.line_rule.specs.declared.view.Back.{Back}
use Rattle.line_rule.specs.declared.view.Back.TheVariants.{Away, Parting, Joining, Holding, Queued, Serving, Passing}
use mathlib.Core.Option.{Option, none, some}
use Rattle.line_rule.specs.Standing.{line_of}
use Rattle.line_rule.specs.Rule.{hold, hold_at}

abbrev pub Sat : Type 0 → Type 0 → Type 0 → Type 0 → Type 0
Sat Request Reply Log Right = Me (LineSlot Request Reply Log Right) (List (LineHold Request Reply))

-- a leader that has read the queue, and built its group
abbrev pub lead_at_build : {Request Reply : Type 0} → QueuedWriter Request → List (Handling Request Reply)
    → List (LineEvent Request Reply) → List (QueuedWriter Request)
    → List (QueuedWriter Request) → Lead Request Reply
lead_at_build own seen past w g = record { own = own; walk = w; group = g; taken = []; seen = seen; past = past }

abbrev pub queued_writer : {Request : Type 0} → ℕ → ℕ → Request → QueuedWriter Request
queued_writer c code q = record { by = c; code = code; asked = q }

-- the leader has read the list from another newest writer
abbrev pub lead_with_walk : {Request Reply : Type 0} → Lead Request Reply → List (QueuedWriter Request)
    → Lead Request Reply
lead_with_walk lead w = record {
  own = lead.own;
  walk = w;
  group = lead.group;
  taken = lead.taken;
  seen = lead.seen;
  past = lead.past;
}

-- the leader has taken one more request
abbrev pub lead_with_one_more : {Request Reply : Type 0} → Lead Request Reply → QueuedWriter Request
    → Lead Request Reply
lead_with_one_more lead e = record {
  own = lead.own;
  walk = lead.walk;
  group = lead.group;
  taken = e ∷ lead.taken;
  seen = lead.seen;
  past = lead.past;
}

-- the writers whose requests the leader has, newest first
abbrev pub in_hand : {Request Reply : Type 0} → Lead Request Reply → List (QueuedWriter Request)
in_hand lead = lead.taken ++ lead.own ∷ []

-- a group that is cut off from the first list, for the second one, with what was given runs before it
abbrev pub squad_at_cut : {Request Reply : Type 0} → Lead Request Reply → List (Handling Request Reply)
    → Squad Request Reply
squad_at_cut lead k = record { own = lead.own; rest = lead.taken; from = k; to = k }

abbrev pub back_after_cut : {Request Reply : Type 0} → Option (List (Handling Request Reply)) → Lead Request Reply
    → Back Request Reply
back_after_cut none lead = Away
back_after_cut (some k) lead = Parting (squad_at_cut lead k) 0

-- a group of the second list, with what was given runs with it
abbrev pub squad_with_end : {Request Reply : Type 0} → Squad Request Reply → List (Handling Request Reply)
    → Squad Request Reply
squad_with_end g k = record { own = g.own; rest = g.rest; from = g.from; to = k }

-- where its group is with respect to the second list, once the leader has given the log on
abbrev pub back_after_log : {Request Reply : Type 0} → Back Request Reply → Back Request Reply
back_after_log Away = Away
back_after_log (Parting g k) = Parting g k
back_after_log (Joining g) = Queued g
back_after_log (Holding g) = Serving g []
back_after_log (Queued g) = Queued g
back_after_log (Serving g walk) = Serving g walk
back_after_log (Passing g x) = Passing g x

-- What must hold when a leader gives the log on. Where its group has come into the second list, what it ends with there
-- is all that was given runs. Where there is a second list, but the group doesn't go there, it was given no runs. At
-- each other point a leader doesn't give the log on.
abbrev pub HandsOn : {Request Reply : Type 0} → Bool → (List (Handling Request Reply) → List (Handling Request Reply))
    → Back Request Reply
    → List (Handling Request Reply) → List (Handling Request Reply) → Type 0
HandsOn piped last Away seen now = piped ≡ true → last now ≡ last seen
HandsOn piped last (Parting g d) seen now = ⊥
HandsOn piped last (Joining g) seen now = (piped ≡ true) × (g.to ≡ last now)
HandsOn piped last (Holding g) seen now = (piped ≡ true) × (g.to ≡ last now)
HandsOn piped last (Queued g) seen now = ⊥
HandsOn piped last (Serving g walk) seen now = ⊥
HandsOn piped last (Passing g x) seen now = ⊥

-- the group that the leader has in the second list has this leader, and these other members
abbrev pub IsOwnGroup : {Request Reply : Type 0} → QueuedWriter Request → List (QueuedWriter Request)
    → Back Request Reply → Type 0
IsOwnGroup own rest Away = Unit {0}
IsOwnGroup own rest (Parting g d) = Unit {0}
IsOwnGroup own rest (Joining g) = (g.own ≡ own) × (g.rest ≡ rest)
IsOwnGroup own rest (Holding g) = (g.own ≡ own) × (g.rest ≡ rest)
IsOwnGroup own rest (Queued g) = Unit {0}
IsOwnGroup own rest (Serving g walk) = Unit {0}
IsOwnGroup own rest (Passing g x) = Unit {0}

-- the leader has cut its group off, and has the log
abbrev pub IsCut : {Request Reply : Type 0} → Lead Request Reply → LineStage Request Reply → Type 0
IsCut lead Idle = ⊥
IsCut lead (Preparing w) = ⊥
IsCut lead (Waiting q past) = ⊥
IsCut lead (Helping q) = ⊥
IsCut lead (Fresh o n) = ⊥
IsCut lead (Leading l) = ⊥
IsCut lead (Stalling l t) = ⊥
IsCut lead (Cutting l e) = l ≡ lead
IsCut lead (Marking l) = l ≡ lead
IsCut lead (Settling b) = ⊥
IsCut lead Collecting = ⊥

abbrev pub debt : {Request Reply : Type 0} → List (QueuedWriter Request × Reply) → QueuedWriter Request → Reply
    → Debt Request Reply
debt gs own p = record { rest = gs; own = own; reply = p }

-- the slots of a group, with the replies in them, and then the leader's
abbrev pub slots_of : {Request Reply Log Right : Type 0} → List (QueuedWriter Request × Reply)
    → List (ℕ × LineSlot Request Reply Log Right) → List (ℕ × LineSlot Request Reply Log Right)
slots_of [] t = t
slots_of (g ∷ gs) t = (g.0.by, Told g.1) ∷ slots_of gs t

abbrev pub AllBelow : {Request : Type 0} → ℕ → List (QueuedWriter Request) → Type 0
AllBelow slots [] = Unit {0}
AllBelow slots (e ∷ es) = (0 < e.by) × (e.by + 1 < slots) × AllBelow slots es

module _ {Request Reply : Type 0} where
  -- a leader at this stage has read these writers of the queue
  abbrev pub ReadsQueue : LineStage Request Reply → List (QueuedWriter Request) → Type 0
  ReadsQueue Idle walk = ⊥
  ReadsQueue (Preparing w) walk = ⊥
  ReadsQueue (Waiting q past) walk = ⊥
  ReadsQueue (Helping q) walk = ⊥
  ReadsQueue (Fresh own seen) walk = ⊥
  ReadsQueue (Leading lead) walk = lead.walk ≡ walk
  ReadsQueue (Stalling lead t) walk = lead.walk ≡ walk
  ReadsQueue (Cutting lead e) walk = ⊥
  ReadsQueue (Marking lead) walk = ⊥
  ReadsQueue (Settling debt) walk = ⊥
  ReadsQueue Collecting walk = ⊥

module _ {Request Reply Log Right : Type 0} where
  -- the seat of one client, which is at this stage
  abbrev pub At : ℕ → LineStage Request Reply → List (Request × Reply) → Sat Request Reply Log Right → Type 0
  At c st mine m = m.0 ≡ hold c st mine ∷ []

  -- the seat of one client, which is at this stage, and b is where its group is with respect to the second list
  abbrev pub AtWith : ℕ → LineStage Request Reply → List (Request × Reply) → Back Request Reply
      → Sat Request Reply Log Right → Type 0
  AtWith c st mine b m = m.0 ≡ hold_at c st mine b ∷ []

  -- the client takes its slot, to put a request into it
  abbrev pub after_begin : Step (LineSlot Request Reply Log Right) → Sat Request Reply Log Right → ℕ
      → Sat Request Reply Log Right → Type 0
  after_begin st m r m' = (c : ℕ) (mine : List (Request × Reply)) → At c Idle mine m
      → (w : ℕ) × At c (Preparing w) mine m' × (m'.1 ≡ (c, Empty) ∷ [])

  abbrev pub after_read_newest : Step (LineSlot Request Reply Log Right) → Sat Request Reply Log Right → ℕ
      → Sat Request Reply Log Right → Type 0
  after_read_newest st m r m' = (m' ≡ m) × (r < 256)

  -- the client's own link is stored
  abbrev pub after_name_older : Step (LineSlot Request Reply Log Right) → Sat Request Reply Log Right → ℕ
      → Sat Request Reply Log Right → Type 0
  after_name_older st m r m' = (c w : ℕ) (mine : List (Request × Reply)) → At c (Preparing w) mine m
      → At c (Preparing st.first) mine m' × (m'.1 ≡ m.1)

  -- the client has taken the log, and has its own slot
  abbrev pub Elected : (Log → List (Handling Request Reply) → Type 0) → ℕ → Request → List (Request × Reply)
      → Sat Request Reply Log Right → Type 0
  Elected stood c q mine m' = (own : QueuedWriter Request) × (seen : List (Handling Request Reply)) × (l : Log)
      × At c (Fresh own seen) mine m'
      × (own.by ≡ c) × (own.asked ≡ q) × stood l seen × (m'.1 ≡ (0, TheLog l) ∷ (c, Asked q) ∷ []) × (of c seen ≡ mine)

  -- the compare-exchange that links: where it succeeds, the client leads if it found 0, and else waits
  abbrev pub after_link : (Log → List (Handling Request Reply) → Type 0) → Step (LineSlot Request Reply Log Right)
      → Sat Request Reply Log Right → ℕ → Sat Request Reply Log Right
      → Type 0
  after_link stood st m r m' = (c w : ℕ) (q : Request) (mine : List (Request × Reply)) → At c (Preparing w) mine m
      → m.1 ≡ (c, Asked q) ∷ []
      → (r ≡ st.first → r ≡ 0 → Elected stood c q mine m')
      × (r ≡ st.first → r ≢ 0 → (past : List (LineEvent Request Reply)) × At c (Waiting q past) mine m'
      × HasCome c q mine past
      × (m'.1 ≡ [])) × (r ≢ st.first → m' ≡ m)

  -- the client has its reply, and its own slot
  abbrev pub Replied : (List (Handling Request Reply) → Type 0) → ℕ → Request → List (Request × Reply)
      → Sat Request Reply Log Right → Type 0
  Replied kept c q mine m' = (p : Reply) × At c Collecting (mine ++ (q, p) ∷ []) m' × (m'.1 ≡ (c, Told p) ∷ [])
      × ((handled : List (Handling Request Reply)) × kept handled × (of c handled ≡ mine ++ (q, p) ∷ []))

  -- the client has left the queue, and has the reply that this was with, in its own slot
  abbrev pub Dismissed : (Request → Reply → Type 0) → ℕ → Request → List (Request × Reply)
      → Sat Request Reply Log Right → Type 0
  Dismissed drops c q mine m' = (p : Reply) × At c Collecting mine m' × (m'.1 ≡ (c, Told p) ∷ []) × drops q p

  -- a load of the client's own state: at STATE_PARALLEL it works in parallel with its leader
  abbrev pub after_read_state : (Log → List (Handling Request Reply) → Type 0)
      → (List (Handling Request Reply) → Type 0) → (Request → Reply → Type 0)
      → Step (LineSlot Request Reply Log Right)
      → Sat Request Reply Log Right → ℕ → Sat Request Reply Log Right → Type 0
  after_read_state stood kept drops st m r m' = (c : ℕ) (q : Request) (past : List (LineEvent Request Reply))
      (mine : List (Request × Reply))
      → At c (Waiting q past) mine m
      → (r ≡ STATE_LEADS_LOG → Elected stood c q mine m')
      × (r ≡ STATE_DONE → Replied kept c q mine m' ⊎ Dismissed drops c q mine m')
      × (r ≡ STATE_PARALLEL → At c (Helping q) mine m' × (m'.1 ≡ m.1))
      × (r ≢ STATE_LEADS_LOG → r ≢ STATE_DONE → r ≢ STATE_PARALLEL → m' ≡ m)

  -- a load of its own state by a client that works in parallel with its leader
  abbrev pub after_read_reply : (List (Handling Request Reply) → Type 0) → Step (LineSlot Request Reply Log Right)
      → Sat Request Reply Log Right → ℕ → Sat Request Reply Log Right
      → Type 0
  after_read_reply kept st m r m' = (c : ℕ) (q : Request) (mine : List (Request × Reply)) → At c (Helping q) mine m
      → (r ≡ STATE_DONE → Replied kept c q mine m') × (r ≢ STATE_DONE → m' ≡ m)

  -- the client gives its empty slot back
  abbrev pub after_return_slot : Step (LineSlot Request Reply Log Right) → Sat Request Reply Log Right → ℕ
      → Sat Request Reply Log Right → Type 0
  after_return_slot st m r m' = (c : ℕ) (mine : List (Request × Reply)) → At c Collecting mine m → At c Idle mine m'
      × (m'.1 ≡ [])

  -- the leader has read the newest writer; the writers from there on are fewer than the slots
  abbrev pub Walks : ℕ → ℕ → Lead Request Reply → List (Request × Reply) → ℕ → Sat Request Reply Log Right
      → Sat Request Reply Log Right → Type 0
  Walks slots c lead mine r m m' = (queue : List (QueuedWriter Request))
      × At c (Leading (lead_with_walk lead (queue ++ in_hand lead))) mine m' × (m'.1 ≡ m.1)
      × (r ≡ newest (queue ++ in_hand lead)) × (length (queue ++ in_hand lead) + 1 < slots)
      × AllBelow slots (queue ++ in_hand lead)

  -- the leader has read the queue: it has built its group, and these are left
  abbrev pub Builds : (Request → ℕ → Type 0) → ℕ → ℕ → ℕ → QueuedWriter Request → List (Handling Request Reply)
      → List (Request × Reply) → ℕ → Sat Request Reply Log Right
      → Sat Request Reply Log Right → Type 0
  Builds asks slots max c own seen mine r m m' = (left group : List (QueuedWriter Request))
      × (past : List (LineEvent Request Reply))
      × At c (Leading (lead_at_build own seen past (left ++ (group ++ own ∷ [])) group)) mine m' × (m'.1 ≡ m.1)
      × IsWhole asks max own group left × HasBuilt max own group left seen past
      × (r ≡ newest (left ++ (group ++ own ∷ []))) × (length (left ++ (group ++ own ∷ [])) + 1 < slots)
      × AllBelow slots (left ++ (group ++ own ∷ []))

  abbrev pub after_build : (Request → ℕ → Type 0) → ℕ → Step (LineSlot Request Reply Log Right)
      → Sat Request Reply Log Right → ℕ → Sat Request Reply Log Right → Type 0
  after_build asks max st m r m' = (c : ℕ) (own : QueuedWriter Request) (seen : List (Handling Request Reply))
      (mine : List (Request × Reply))
      → At c (Fresh own seen) mine m → Builds asks st.slots max c own seen mine r m m'

  -- the leader has read these writers of the queue
  abbrev pub SeesQueue : ℕ → Sat Request Reply Log Right → List (QueuedWriter Request) → Type 0
  SeesQueue c m walk = (stage : LineStage Request Reply) × (mine : List (Request × Reply))
      × At c stage mine m × ReadsQueue stage walk

  -- the leader has read these writers, which came after its mark
  abbrev pub SeesMarked : ℕ → Sat Request Reply Log Right → List (QueuedWriter Request) → Type 0
  SeesMarked c m walk = (lead : Lead Request Reply) × (mine : List (Request × Reply)) × (b : Back Request Reply)
      × AtWith c (Marking lead) mine b m × (lead.walk ≡ walk)

  -- the leader has the right, and has read these writers of the second list
  abbrev pub SeesSecond : ℕ → Sat Request Reply Log Right → List (QueuedWriter Request) → Type 0
  SeesSecond c m walk = (stage : LineStage Request Reply) × (mine : List (Request × Reply)) × (g : Squad Request Reply)
      × AtWith c stage mine (Serving g walk) m

  -- the leader has read these writers, and the link of the oldest one names this end
  abbrev pub SeesTo : ℕ → ℕ → Sat Request Reply Log Right → List (QueuedWriter Request) → Type 0
  SeesTo end c m walk = ((end ≡ 0) × SeesQueue c m walk) ⊎ ((end ≡ MARK) × SeesMarked c m walk)
      ⊎ ((end ≡ 0) × SeesSecond c m walk)

  -- the load of a link of the walk
  abbrev pub after_read_older : Step (LineSlot Request Reply Log Right) → Sat Request Reply Log Right → ℕ
      → Sat Request Reply Log Right → Type 0
  after_read_older st m r m' = (m' ≡ m)
      × ((end c : ℕ) (walk pre : List (QueuedWriter Request)) (x : QueuedWriter Request)
      (post : List (QueuedWriter Request))
      → SeesTo end c m walk → walk ≡ pre ++ x ∷ post → st.word ≡ older_at x.by
      → r ≡ pack (newest_from end post) x.code)

  -- the leader takes the request of the oldest writer whose request it doesn't have in hand
  abbrev pub after_fetch : Step (LineSlot Request Reply Log Right) → Sat Request Reply Log Right → ℕ
      → Sat Request Reply Log Right → Type 0
  after_fetch st m r m' = (c : ℕ) (lead : Lead Request Reply) (mine : List (Request × Reply))
      (pre : List (QueuedWriter Request)) (x : QueuedWriter Request)
      → At c (Leading lead) mine m → lead.walk ≡ pre ++ x ∷ in_hand lead → st.word ≡ older_at x.by
      → At c (Leading (lead_with_one_more lead x)) mine m' × (m'.1 ≡ (x.by, Asked x.asked) ∷ m.1)

  -- the log is given back with all that was handled, if nobody came after the group
  abbrev pub after_leave : Step (LineSlot Request Reply Log Right) → Sat Request Reply Log Right → ℕ
      → Sat Request Reply Log Right → Type 0
  after_leave st m r m' = (c : ℕ) (lead : Lead Request Reply) (mine : List (Request × Reply))
      (gs : List (QueuedWriter Request × Reply)) (p : Reply) (l : Log)
      → At c (Leading lead) mine m → heads gs ≡ lead.taken → m.1 ≡ (0, TheLog l) ∷ slots_of gs ((c, Told p) ∷ [])
      → (r ≡ st.first → At c (Settling (debt gs lead.own p)) mine m' × (m'.1 ≡ slots_of gs ((c, Told p) ∷ [])))
      × (r ≢ st.first → Walks st.slots c lead mine r m m')

  -- a member gets its reply
  abbrev pub after_complete : Step (LineSlot Request Reply Log Right) → Sat Request Reply Log Right → ℕ
      → Sat Request Reply Log Right → Type 0
  after_complete st m r m' = (c : ℕ) (g : QueuedWriter Request
      × Reply) (gs : List (QueuedWriter Request × Reply)) (own : QueuedWriter Request) (p : Reply)
      (mine : List (Request × Reply))
      → At c (Settling (debt (g ∷ gs) own p)) mine m → At c (Settling (debt gs own p)) mine m' × (m'.1 ≡ rest m.1)

  -- the leader's own last step
  abbrev pub after_retire : Step (LineSlot Request Reply Log Right) → Sat Request Reply Log Right → ℕ
      → Sat Request Reply Log Right → Type 0
  after_retire st m r m' = (c : ℕ) (own : QueuedWriter Request) (p : Reply) (mine : List (Request × Reply))
      → At c (Settling (debt [] own p)) mine m
      → At c Idle (mine ++ (own.asked, p) ∷ []) m' × (m'.1 ≡ rest m.1)

  -- the link of the oldest writer after the group is cleared
  abbrev pub after_cut_as : Option (List (Handling Request Reply)) → Step (LineSlot Request Reply Log Right)
      → Sat Request Reply Log Right → ℕ → Sat Request Reply Log Right → Type 0
  after_cut_as ch st m r m' = (c : ℕ) (lead : Lead Request Reply) (mine : List (Request × Reply))
      (pre : List (QueuedWriter Request)) (x : QueuedWriter Request)
      → At c (Leading lead) mine m → lead.walk ≡ pre ++ x ∷ in_hand lead → st.word ≡ older_at x.by
      → AtWith c (Cutting lead x) mine (back_after_cut ch lead) m' × (m'.1 ≡ m.1)

  abbrev pub after_cut_off : Step (LineSlot Request Reply Log Right) → Sat Request Reply Log Right → ℕ
      → Sat Request Reply Log Right → Type 0
  after_cut_off st m r m' = after_cut_as none st m r m'

  -- the log goes on to that writer, with all that was handled
  abbrev pub after_wake : Step (LineSlot Request Reply Log Right) → Sat Request Reply Log Right → ℕ
      → Sat Request Reply Log Right → Type 0
  after_wake st m r m' = (c : ℕ) (lead : Lead Request Reply) (x : QueuedWriter Request) (mine : List (Request × Reply))
      (b : Back Request Reply)
      (gs : List (QueuedWriter Request × Reply)) (p : Reply) (l : Log) (t : List (ℕ × LineSlot Request Reply Log Right))
      → AtWith c (Cutting lead x) mine b m
      → heads gs ≡ lead.taken → m.1 ≡ (0, TheLog l) ∷ slots_of gs ((c, Told p) ∷ t)
      → AtWith c (Settling (debt gs lead.own p)) mine (back_after_log b) m' × (m'.1 ≡ slots_of gs ((c, Told p) ∷ t))

  -- the mark is put, if nobody came after the group
  abbrev pub after_mark : List (Handling Request Reply) → Step (LineSlot Request Reply Log Right)
      → Sat Request Reply Log Right → ℕ → Sat Request Reply Log Right → Type 0
  after_mark from st m r m' = (c : ℕ) (lead : Lead Request Reply) (mine : List (Request × Reply))
      → At c (Leading lead) mine m
      → (r ≡ st.first → AtWith c (Marking (lead_with_walk lead [])) mine (Parting (squad_at_cut lead from) 0) m'
      × (m'.1 ≡ m.1))
      × (r ≢ st.first → Walks st.slots c lead mine r m m')

  -- the writers that came after the mark, from the newest one on
  abbrev pub WalksMarked : ℕ → ℕ → Lead Request Reply → List (Request × Reply) → Back Request Reply → ℕ
      → Sat Request Reply Log Right → Sat Request Reply Log Right → Type 0
  WalksMarked slots c lead mine b r m m' = (walk : List (QueuedWriter Request))
      × AtWith c (Marking (lead_with_walk lead walk)) mine b m'
      × (m'.1 ≡ m.1) × (r ≡ newest_from MARK walk) × (length walk + 1 < slots) × AllBelow slots walk

  -- the mark is taken away if nobody came after it, and the log is given back
  abbrev pub after_free : Step (LineSlot Request Reply Log Right) → Sat Request Reply Log Right → ℕ
      → Sat Request Reply Log Right → Type 0
  after_free st m r m' = (c : ℕ) (lead : Lead Request Reply) (mine : List (Request × Reply)) (b : Back Request Reply)
      (gs : List (QueuedWriter Request × Reply)) (p : Reply)
      (l : Log) (t : List (ℕ × LineSlot Request Reply Log Right)) → AtWith c (Marking lead) mine b m
      → heads gs ≡ lead.taken
      → m.1 ≡ (0, TheLog l) ∷ slots_of gs ((c, Told p) ∷ t)
      → (r ≡ st.first → AtWith c (Settling (debt gs lead.own p)) mine (back_after_log b) m'
      × (m'.1 ≡ slots_of gs ((c, Told p) ∷ t))) × (r ≢ st.first → WalksMarked st.slots c lead mine b r m m')

  -- the link of the oldest writer after the mark is cleared
  abbrev pub after_cut_behind_mark : Step (LineSlot Request Reply Log Right) → Sat Request Reply Log Right → ℕ
      → Sat Request Reply Log Right → Type 0
  after_cut_behind_mark st m r m' = (c : ℕ) (lead : Lead Request Reply) (mine : List (Request × Reply))
      (b : Back Request Reply) (pre : List (QueuedWriter Request))
      (x : QueuedWriter Request) → AtWith c (Marking lead) mine b m → lead.walk ≡ pre ++ x ∷ []
      → st.word ≡ older_at x.by
      → AtWith c (Cutting lead x) mine b m' × (m'.1 ≡ m.1)

  -- the leader of a group that is cut off names the newest writer of the second list
  abbrev pub after_aim_second : Step (LineSlot Request Reply Log Right) → Sat Request Reply Log Right → ℕ
      → Sat Request Reply Log Right → Type 0
  after_aim_second st m r m' = (c : ℕ) (stage : LineStage Request Reply) (mine : List (Request × Reply))
      (g : Squad Request Reply) (b0 b : ℕ)
      → AtWith c stage mine (Parting g b0) m → st.first ≡ pack b g.own.code
      → AtWith c stage mine (Parting g b) m' × (m'.1 ≡ m.1)

  -- the compare-exchange that puts the group into the second list: where it succeeds, the leader takes the right if the
  -- list was empty
  abbrev pub after_join_second : (Right → List (Handling Request Reply) → Type 0) → List (Handling Request Reply)
      → Step (LineSlot Request Reply Log Right) → Sat Request Reply Log Right
      → ℕ → Sat Request Reply Log Right → Type 0
  after_join_second rights to st m r m' = (c : ℕ) (stage : LineStage Request Reply) (mine : List (Request × Reply))
      (g : Squad Request Reply) (b : ℕ)
      → AtWith c stage mine (Parting g b) m
      → (r ≡ st.first → r ≢ 0 → AtWith c stage mine (Joining (squad_with_end g to)) m' × (m'.1 ≡ m.1))
      × (r ≡ st.first → r ≡ 0 → (right : Right) × (k : ℕ) × rights right g.from
      × AtWith c stage mine (Holding (squad_with_end g to)) m' × (m'.1 ≡ (k, TheRight right) ∷ m.1)
      × (k + 1 ≡ st.slots))
      × (r ≢ st.first → m' ≡ m)

  -- a load of its state by a leader whose group came into the second list after others
  abbrev pub after_summon : (Right → List (Handling Request Reply) → Type 0) → Step (LineSlot Request Reply Log Right)
      → Sat Request Reply Log Right → ℕ → Sat Request Reply Log Right
      → Type 0
  after_summon rights st m r m' = (c : ℕ) (d : Debt Request Reply) (mine : List (Request × Reply))
      (g : Squad Request Reply)
      → AtWith c (Settling d) mine (Queued g) m
      → (r ≡ STATE_LEADS_TABLE → (right : Right) × (k : ℕ) × rights right g.from
      × AtWith c (Settling d) mine (Serving g []) m'
      × (m'.1 ≡ (k, TheRight right) ∷ m.1) × (k + 1 ≡ st.slots)) × (r ≢ STATE_LEADS_TABLE → m' ≡ m)

  -- the leader has read the newest writer of the second list, and those from there on
  abbrev pub WalksSecond : ℕ → ℕ → Debt Request Reply → List (Request × Reply) → Squad Request Reply → ℕ
      → Sat Request Reply Log Right → Sat Request Reply Log Right → Type 0
  WalksSecond slots c d mine g r m m' = (newer : List (QueuedWriter Request))
      × AtWith c (Settling d) mine (Serving g (newer ++ line_of g)) m' × (m'.1 ≡ m.1)
      × (r ≡ newest (newer ++ line_of g)) × (length (newer ++ line_of g) + 1 < slots)
      × AllBelow slots (newer ++ line_of g)

  -- the right is given back if no group came after the leader's own
  abbrev pub after_leave_second : Step (LineSlot Request Reply Log Right) → Sat Request Reply Log Right → ℕ
      → Sat Request Reply Log Right → Type 0
  after_leave_second st m r m' = (c : ℕ) (d : Debt Request Reply) (mine : List (Request × Reply))
      (g : Squad Request Reply) (walk : List (QueuedWriter Request))
      → AtWith c (Settling d) mine (Serving g walk) m
      → (r ≡ st.first → At c (Settling d) mine m' × (m'.1 ≡ rest m.1))
      × (r ≢ st.first → WalksSecond st.slots c d mine g r m m')

  -- the link of the next group's leader is cleared
  abbrev pub after_clear_second : Step (LineSlot Request Reply Log Right) → Sat Request Reply Log Right → ℕ
      → Sat Request Reply Log Right → Type 0
  after_clear_second st m r m' = (c : ℕ) (d : Debt Request Reply) (mine : List (Request × Reply))
      (g : Squad Request Reply) (walk pre : List (QueuedWriter Request))
      (x : QueuedWriter Request) → AtWith c (Settling d) mine (Serving g walk) m → walk ≡ pre ++ x ∷ line_of g
      → st.word ≡ older_at x.by
      → AtWith c (Settling d) mine (Passing g x) m' × (m'.1 ≡ m.1)

  -- that leader is called, and the right goes on to it
  abbrev pub after_call_next : Step (LineSlot Request Reply Log Right) → Sat Request Reply Log Right → ℕ
      → Sat Request Reply Log Right → Type 0
  after_call_next st m r m' = (c : ℕ) (stage : LineStage Request Reply) (mine : List (Request × Reply))
      (g : Squad Request Reply) (x : QueuedWriter Request)
      → AtWith c stage mine (Passing g x) m → At c stage mine m' × (m'.1 ≡ rest m.1)

  -- a member may now work in parallel with its leader
  abbrev pub after_make_parallel : Step (LineSlot Request Reply Log Right) → Sat Request Reply Log Right → ℕ
      → Sat Request Reply Log Right → Type 0
  after_make_parallel st m r m' = m' ≡ m

-- slots that hold nothing, and then t
abbrev pub blanks : {Request Reply Log Right : Type 0} → List ℕ → List (ℕ × LineSlot Request Reply Log Right)
    → List (ℕ × LineSlot Request Reply Log Right)
blanks [] t = t
blanks (k ∷ ks) t = (k, Empty) ∷ blanks ks t
