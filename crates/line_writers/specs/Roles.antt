-- The states that a writer can be in, and what it has in them.
use Rattle.std.specs.Prelude.{◌≡◌, ◌≢◌, ℕ, ◌+◌, ◌-◌, ◌^◌, ◌<◌, ◌≤◌, ◌⊎◌, Bool, true, false, List, [], ◌∷◌, ◌++◌, length}
use Rattle.atomic_table.specs.Seated.{TableId}
use Rattle.line_rule.specs.declared.view.QueuedWriter.{QueuedWriter}
use Rattle.line_rule.specs.declared.view.Handling.{Handling}
use Rattle.line_rule.specs.declared.view.LineHold.{LineHold}
use Rattle.line_rule.specs.declared.view.Lead.{Lead}
use Rattle.line_rule.specs.declared.content.LineSlot.{LineSlot}
use Rattle.line_rule.specs.declared.content.LineSlot.TheVariants.{Empty, Asked, Told, TheLog, TheRight}
use Rattle.line_rule.specs.declared.view.LineStage.{LineStage}
use Rattle.line_rule.specs.declared.view.LineStage.TheVariants.{Idle, Preparing, Waiting, Helping, Fresh, Leading, Stalling, Cutting, Marking, Settling, Collecting}
use Rattle.line_rule.specs.declared.view.Debt.{Debt}
use Rattle.line_rule.specs.declared.view.Squad.{Squad}
use Rattle.line_rule.specs.declared.view.Back.{Back}
use Rattle.line_rule.specs.declared.view.Back.TheVariants.{Joining, Holding, Queued, Serving}
use Rattle.line_rule.specs.declared.view.LineEvent.{LineEvent}
use Rattle.line_rule.specs.Events.{HasCome, HasBuilt}
use Rattle.line_rule.specs.Chain.{newest, pairs, Within, heads, of, all_answers}
use Rattle.line_rule.specs.Grouping.{IsWhole}
use Rattle.line_rule.specs.Members.{asks, pays}
use Rattle.line_rule.specs.Rule.{hold}
use Rattle.line_rule.specs.Plays.{Sat, At, AtWith, SeesTo, squad_with_end, AllBelow, Elected, lead_at_build, in_hand, slots_of, debt, Walks, blanks}
use Rattle.line_writers.specs.declared.writer.Writer.{Writer}
use Rattle.line_writers.specs.declared.writer.Role.{Role}
use Rattle.line_writers.specs.declared.second.PipelinedRole.{PipelinedRole}
use Rattle.line_writers.specs.declared.second.PipelinedRole.TheVariants.{LogLeader, MemLeader, Parallel, Done}
use Rattle.line_writers.specs.declared.writer.Task.{Task}
use Rattle.line_writers.specs.declared.writer.Task.TheVariants.{Awaits, Leads, Helps, Queues, Serves}

module _ {Request : Type 0} where
  abbrev pub bys : List (QueuedWriter Request) → List ℕ
  bys [] = []
  bys (e ∷ es) = e.by ∷ bys es

  abbrev pub lead_with_group : {Reply : Type 0} → QueuedWriter Request → List (Handling Request Reply)
      → List (LineEvent Request Reply) → List (QueuedWriter Request) → List (QueuedWriter Request)
      → Lead Request Reply
  lead_with_group own seen past left group = record {
    own = own;
    walk = left ++ (group ++ own ∷ []);
    group = group;
    taken = group;
    seen = seen;
    past = past;
  }

-- each code fits into a word next to an older writer's number
abbrev pub CodesFit : List (ℕ × ℕ) → Type 0
CodesFit [] = Unit {0}
CodesFit (x ∷ xs) = (x.1 < 2 ^ 56) × CodesFit xs

-- the events of the list that the client knows, the latest first: up to its own coming, where it waits; or up to the
-- building of its group, where it leads one
module _ {Request Reply : Type 0} where
  abbrev pub past_at : LineStage Request Reply → List (LineEvent Request Reply)
  past_at Idle = []
  past_at (Preparing w) = []
  past_at (Waiting q past) = past
  past_at (Helping q) = []
  past_at (Fresh own seen) = []
  past_at (Leading lead) = lead.past
  past_at (Stalling lead t) = lead.past
  past_at (Cutting lead next) = []
  past_at (Marking lead) = []
  past_at (Settling d) = []
  past_at Collecting = []

  abbrev pub past_in : List (LineHold Request Reply) → List (LineEvent Request Reply)
  past_in [] = []
  past_in (h ∷ hs) = past_at h.stage

module _ {Request Reply Log Right : Type 0} where
  -- the client is in the list with q: it waits, and when it came it had the replies to all that was handled for it; or
  -- it leads, and has the log; or it works in parallel with its leader
  abbrev pub IsLinked : (Log → List (Handling Request Reply) → Type 0) → ℕ → Task → Request → List (Request × Reply)
      → Sat Request Reply Log Right → Type 0
  IsLinked stood c Awaits q mine m = (past : List (LineEvent Request Reply)) × At c (Waiting q past) mine m × (m.1 ≡ [])
      × HasCome c q mine past
  IsLinked stood c Leads q mine m = Elected stood c q mine m
  IsLinked stood c Helps q mine m = At c (Helping q) mine m × (m.1 ≡ [])
  IsLinked stood c Queues q mine m = ⊥
  IsLinked stood c Serves q mine m = ⊥

  -- the client leads, as the writer `own`, and `seen` is all that was handled before
  abbrev pub Chosen : ℕ → QueuedWriter Request → List (Handling Request Reply) → List (Request × Reply)
      → Sat Request Reply Log Right → Type 0
  Chosen c own seen mine m = At c (Fresh own seen) mine m × (own.by ≡ c)
      × (m.1 ≡ (c, Asked own.asked) ∷ (0, Empty) ∷ [])

  -- the client is in no list, and has its reply, after those to its earlier requests
  abbrev pub HasReply : (List (Handling Request Reply) → Type 0) → ℕ → Request → List (Request × Reply) → Reply
      → Sat Request Reply Log Right → Type 0
  HasReply kept c q mine p m = At c Idle (mine ++ (q, p) ∷ []) m × (m.1 ≡ [])
      × ((handled : List (Handling Request Reply)) × kept handled × (of c handled ≡ mine ++ (q, p) ∷ []))

  -- the client is in no list, and left the queue with this reply, so nothing more was handled for it
  abbrev pub HasLeft : (Request → Reply → Type 0) → ℕ → Request → List (Request × Reply) → Reply
      → Sat Request Reply Log Right → Type 0
  HasLeft drops c q mine p m = At c Idle mine m × (m.1 ≡ []) × drops q p

  -- one that leads has the log, which covers all that was handled before; one that is done has its reply, or has left
  -- the queue
  abbrev pub Becomes : (Log → List (Handling Request Reply) → Type 0) → (List (Handling Request Reply) → Type 0)
      → (Request → Reply → Type 0) → ℕ → Request → List (Request × Reply)
      → Role Log Reply → Sat Request Reply Log Right → Type 0
  Becomes stood kept drops c q mine (Role.LogLeader l) m = (own : QueuedWriter Request)
      × (seen : List (Handling Request Reply))
      × Chosen c own seen mine m × (own.asked ≡ q) × stood l seen × (of c seen ≡ mine)
  Becomes stood kept drops c q mine (Role.Done p) m = HasReply kept c q mine p m ⊎ HasLeft drops c q mine p m

  -- the same for a list with the second one: there, one that works in parallel with its leader is still in the list
  abbrev pub Turns : (Log → List (Handling Request Reply) → Type 0) → (List (Handling Request Reply) → Type 0)
      → (Request → Reply → Type 0) → ℕ → Task → Request
      → List (Request × Reply) → PipelinedRole Log Right Reply → Sat Request Reply Log Right → Type 0
  Turns stood kept drops c task q mine (LogLeader l) m = (own : QueuedWriter Request)
      × (seen : List (Handling Request Reply)) × Chosen c own seen mine m × (own.asked ≡ q) × stood l seen × (of c seen ≡ mine)
  Turns stood kept drops c task q mine (MemLeader right) m = ⊥
  Turns stood kept drops c task q mine Parallel m = IsLinked stood c task q mine m
  Turns stood kept drops c task q mine (Done p) m = HasReply kept c q mine p m ⊎ HasLeft drops c q mine p m

  -- the leader has read the writers from number `at` down to this end
  abbrev pub HasRead : ℕ → ℕ → ℕ → ℕ → Sat Request Reply Log Right → Type 0
  HasRead end slots c at m = (walk : List (QueuedWriter Request)) × (x : QueuedWriter Request)
      × (post : List (QueuedWriter Request)) × SeesTo end c m walk × (walk ≡ x ∷ post) × (at ≡ x.by)
      × (length walk + 1 < slots) × AllBelow slots walk

  -- x is the oldest writer whose request the leader does not have yet
  abbrev pub NextIs : ℕ → Lead Request Reply → List (Request × Reply) → List (QueuedWriter Request)
      → QueuedWriter Request → Sat Request Reply Log Right → Type 0
  NextIs c lead mine pre x m = At c (Leading lead) mine m × (lead.walk ≡ pre ++ x ∷ in_hand lead)

  -- the leader has its group and all its requests, and the law holds of them; the last event that the leader knows is
  -- the building of this group, from the whole queue, under the bound `max`; `left` are the writers that the group left
  -- in the queue; and since then the leader may have read another queue in front of its group, as where it stalled
  -- writes
  abbrev pub Grouped : (Request → ℕ → Type 0) → ℕ → ℕ → ℕ → QueuedWriter Request → List (QueuedWriter Request)
      → List (QueuedWriter Request) → List (Handling Request Reply)
      → List (Request × Reply) → Sat Request Reply Log Right → Type 0
  Grouped law n max c own group left seen mine m = ((queue : List (QueuedWriter Request))
      × At c (Leading (lead_with_group own seen (past_in m.0) queue group)) mine m)
      × (own.by ≡ c) × (0 < c) × Within n group × IsWhole law max own group left
      × (m.1 ≡ blanks (bys group) ((c, Empty) ∷ (0, Empty) ∷ [])) × HasBuilt max own group left seen (past_in m.0)

  -- the leader has read the queue, and has built its group from it; `left` are the writers that the group left there
  abbrev pub Built : (Request → ℕ → Type 0) → ℕ → ℕ → QueuedWriter Request → List (QueuedWriter Request)
      → List (QueuedWriter Request) → List (Handling Request Reply)
      → List (Request × Reply) → Sat Request Reply Log Right → Type 0
  Built law max c own group left seen mine m = (past : List (LineEvent Request Reply))
      × At c (Leading (lead_at_build own seen past (left ++ (group ++ own ∷ [])) group)) mine m
      × HasBuilt max own group left seen past × IsWhole law max own group left

  -- the leader has only its own request so far, and knows its group
  abbrev pub Gathering : (Request → ℕ → Type 0) → ℕ → ℕ → ℕ → ℕ → Sat Request Reply Log Right → List (ℕ × ℕ)
      → List (ℕ × Request) → Type 0
  Gathering law n max leader c m walk asked = (own : QueuedWriter Request) × (group left : List (QueuedWriter Request))
      × (seen : List (Handling Request Reply)) × (mine : List (Request × Reply))
      × (past : List (LineEvent Request Reply))
      × At c (Leading (lead_at_build own seen past (left ++ (group ++ own ∷ [])) group)) mine m × (own.by ≡ c)
      × (own.code ≡ leader)
      × IsWhole law max own group left × Within n (left ++ group) × (walk ≡ pairs (left ++ group))
      × (asked ≡ (c, own.asked) ∷ []) × (m.1 ≡ (c, Empty) ∷ (0, Empty) ∷ [])
      × HasBuilt max own group left seen past

  -- the log's slot is on top, and after it are the slots of the group with the replies; the log covers what was seen
  -- and the group, which gives no numbers where there is a second list
  abbrev pub Ready : (List (Handling Request Reply) → Type 0)
      → (List (Handling Request Reply) → List (Handling Request Reply) → Type 0) → ℕ
      → Lead Request Reply → List (QueuedWriter Request × Reply) → Reply → Sat Request Reply Log Right → Type 0
  Ready stood flat c lead gs p m = (heads gs ≡ lead.taken)
      × ((y : LineSlot Request Reply Log Right) × (m.1 ≡ (0, y) ∷ slots_of gs ((c, Told p) ∷ [])))
      × stood (lead.seen ++ all_answers lead.own p gs) × flat lead.seen (lead.seen ++ all_answers lead.own p gs)

  -- the log went back, and the members have yet to get their replies; or another writer came after the group, and the
  -- leader has read the list anew
  abbrev pub Leaves : ℕ → Lead Request Reply → List (QueuedWriter Request × Reply) → Reply → List (Request × Reply) → ℕ
      → ℕ → ℕ → Sat Request Reply Log Right → Sat Request Reply Log Right
      → Type 0
  Leaves c lead gs p mine slots old found m m' =
      (found ≡ old → At c (Settling (debt gs lead.own p)) mine m' × (m'.1 ≡ slots_of gs ((c, Told p) ∷ [])))
      × (found ≢ old → Walks slots c lead mine found m m')

module _ {Request Reply Log Right : Type 0} where
  -- the leader has cut its group off: from the writer `next`, or, where `next` is 0, with its mark
  abbrev pub HasStage : ℕ → Lead Request Reply → List (Request × Reply) → Back Request Reply → ℕ
      → Sat Request Reply Log Right → Type 0
  HasStage c lead mine back next m = (next ≡ 0 → AtWith c (Marking lead) mine back m)
      × (next ≢ 0 → (x : QueuedWriter Request) × (x.by ≡ next) × AtWith c (Cutting lead x) mine back m)

  -- the group is in the second list; where it is the only one there, its leader has taken the right
  abbrev pub HasJoined : (Right → List (Handling Request Reply) → Type 0) → ℕ → ℕ → List (Handling Request Reply) → Bool
      → LineStage Request Reply
      → List (Request × Reply) → Squad Request Reply → Sat Request Reply Log Right → Sat Request Reply Log Right
      → Type 0
  HasJoined serves n c to false stage mine g m m' = AtWith c stage mine (Joining (squad_with_end g to)) m'
      × (m'.1 ≡ m.1)
  HasJoined serves n c to true stage mine g m m' = (right : Right) × serves right g.from
      × AtWith c stage mine (Holding (squad_with_end g to)) m' × (m'.1 ≡ (n + 1, TheRight right) ∷ m.1)

  -- the log went on, and the group is in the second list; where it came in as the only one, the right's slot is after
  -- the slots of the group
  abbrev pub HasSent : (Right → List (Handling Request Reply) → Type 0) → ℕ → ℕ → Bool → Debt Request Reply
      → List (Request × Reply) → Squad Request Reply
      → Sat Request Reply Log Right → Type 0
  HasSent serves n c false d mine g m = AtWith c (Settling d) mine (Queued g) m
      × (m.1 ≡ slots_of d.rest ((c, Told d.reply) ∷ []))
  HasSent serves n c true d mine g m = (right : Right) × serves right g.from
      × AtWith c (Settling d) mine (Serving g []) m
      × (m.1 ≡ slots_of d.rest ((c, Told d.reply) ∷ (n + 1, TheRight right) ∷ []))

module _ {Request Reply Log Right : Type 0} (stood : Log → List (Handling Request Reply)
    → Type 0) (flat : List (Handling Request Reply) → List (Handling Request Reply)
    → Type 0) (c : ℕ) where
  -- the leader has its whole group, whose newest member is `newest_member`, with the replies, and the log on top
  abbrev pub MayLeave : ℕ → Sat Request Reply Log Right → Type 0
  MayLeave newest_member m = (lead : Lead Request Reply) × (mine : List (Request × Reply))
      × (gs : List (QueuedWriter Request × Reply)) × (p : Reply) × (l : Log)
      × At c (Leading lead) mine m
      × (newest_member ≡ newest (in_hand lead)) × (lead.taken ≡ lead.group) × Ready (stood l) flat c lead gs p m
      × (m.1 ≡ (0, TheLog l) ∷ slots_of gs ((c, Told p) ∷ []))

  -- the leader has all this (as in MayLeave), and the writer `next` comes right after its group
  abbrev pub MayWake : ℕ → ℕ → Sat Request Reply Log Right → Type 0
  MayWake next code m = (lead : Lead Request Reply) × (mine : List (Request × Reply))
      × (pre : List (QueuedWriter Request)) × (x : QueuedWriter Request)
      × (gs : List (QueuedWriter Request × Reply)) × (p : Reply) × (l : Log) × NextIs c lead mine pre x m
      × (x.by ≡ next) × (x.code ≡ code) × (lead.taken ≡ lead.group) × Ready (stood l) flat c lead gs p m
      × (m.1 ≡ (0, TheLog l) ∷ slots_of gs ((c, Told p) ∷ []))

  -- the leader has what MayLeave says, and the group has `count` members
  abbrev pub MayHandOn : ℕ → ℕ → Sat Request Reply Log Right → Type 0
  MayHandOn newest_member count m = (lead : Lead Request Reply) × (mine : List (Request × Reply))
      × (gs : List (QueuedWriter Request × Reply)) × (p : Reply)
      × (l : Log) × At c (Leading lead) mine m
      × (newest_member ≡ newest (in_hand lead)) × (lead.taken ≡ lead.group) × Ready (stood l) flat c lead gs p m
      × (m.1 ≡ (0, TheLog l) ∷ slots_of gs ((c, Told p) ∷ [])) × (count ≡ length (in_hand lead))

-- the writers of the clients n, n - 1 and so on, none of which has done anything yet
module _ {Request Reply Log Right : Type 0} (table : TableId) where
  abbrev pub IsNew : ℕ → Writer Request Reply Log Right → Type 0
  IsNew c w = (w.client ≡ c) × (w.task ≡ Awaits) × (w.seat.table_id ≡ table) × (w.seat.me ≡ (hold c Idle [] ∷ [], []))

  abbrev pub AreNew : ℕ → List (Writer Request Reply Log Right) → Type 0
  AreNew n [] = Unit {0}
  AreNew n (w ∷ ws) = IsNew n w × AreNew (n - 1) ws

-- the clients of a list of replies, and the slots that these replies fill
abbrev pub firsts : {Reply : Type 0} → List (ℕ × Reply) → List ℕ
firsts [] = []
firsts (r ∷ rs) = r.0 ∷ firsts rs

abbrev pub fills : {Request Reply Log Right : Type 0} → List (ℕ × Reply) → List (ℕ × LineSlot Request Reply Log Right)
fills [] = []
fills (r ∷ rs) = (r.0, Told r.1) ∷ fills rs

-- the client is a member of the group, but not its leader
abbrev pub IsMember : {Request Reply : Type 0} → ℕ → ℕ → List (QueuedWriter Request × Reply) → Type 0
IsMember {Request} {Reply} n k gs = (newer : List (QueuedWriter Request × Reply)) × (y : QueuedWriter Request × Reply)
    × (older : List (QueuedWriter Request × Reply))
    × (gs ≡ newer ++ y ∷ older) × (y.0.by ≡ k) × (0 < k) × (k ≤ n)

-- each of these clients is such a member
abbrev pub AreMembers : {Request Reply : Type 0} → ℕ → List ℕ → List (QueuedWriter Request × Reply) → Type 0
AreMembers n [] gs = Unit {0}
AreMembers n (k ∷ ks) gs = IsMember n k gs × AreMembers n ks gs
