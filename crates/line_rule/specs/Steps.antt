-- What each step makes of the list: an event, two events, or nothing.
use Rattle.std.specs.Prelude.{◌≡◌, ◌≢◌, ℕ, ◌<◌, ◌==◌, List, [], ◌∷◌, ◌++◌, length, slice_index}
use mathlib.Core.Option.{Option, none, some}
use lib.ListN.{get_elem?}
use Rattle.atomic_table.specs.Table.{State, Act, Valid, Step, step, stepped, carried_after}
use prog.Atomic.{either}
use Rattle.line_rule.specs.declared.words.TheConstants.{STALL}
use Rattle.line_rule.specs.declared.view.QueuedWriter.{QueuedWriter}
use Rattle.line_rule.specs.declared.view.LineHold.{LineHold}
use Rattle.line_rule.specs.declared.content.LineSlot.{LineSlot}
use Rattle.line_rule.specs.Chain.{handling, all_answers}
use Rattle.line_rule.specs.Events.{LineEvent, comes, elects, builds, stalls, drops, resumes, exits, completes, Core, Enabled, after, grouped, halted}
use Rattle.line_rule.specs.Laws.{Laws}
use Rattle.line_rule.specs.Rule.{Listed}
use Rattle.line_rule.specs.Plays.{Sat, squad_at_cut, squad_with_end}
use Rattle.line_rule.specs.declared.view.Handling.{Handling}
use Rattle.line_rule.specs.declared.view.Lead.{Lead}
use Rattle.line_rule.specs.declared.view.Back.{Back}
use Rattle.line_rule.specs.declared.view.Squad.{Squad}
use Rattle.line_rule.specs.Standing.{level, ahead}
use Rattle.line_rule.specs.SecondList.{SecondList, second_list_of, IsPut, IsAhead, after_handing_on}

-- the first list, and the second one
abbrev pub Lists : Type 0 → Type 0 → Type 0
Lists Request Reply = Core Request Reply × SecondList Request Reply

-- what a step tells about the seat before it, the number found or stored, and the seat after it
abbrev pub Telling : Type 0 → Type 0 → Type 0 → Type 0 → Type 1
Telling Request Reply Log Right =
    Step (LineSlot Request Reply Log Right) → Sat Request Reply Log Right → ℕ → Sat Request Reply Log Right → Type 0

-- all is as it was
abbrev pub Stays : {A : Type 0} → A → A → Type 0
Stays a b = b ≡ a

-- the event happens if the word held this number, and else nothing moves
abbrev pub HappensWhere : {A : Type 0} → ℕ → (A → A → Type 0) → ℕ → A → A → Type 0
HappensWhere wanted event found a b = (found ≡ wanted → event a b) × (found ≢ wanted → Stays a b)

module _ {Request Reply : Type 0} where
  -- the event may happen, and this is what the first list is after it
  abbrev pub Happens : LineEvent Request Reply → Core Request Reply → Core Request Reply → Type 0
  Happens v a b = Enabled a v × (b ≡ after a v)

  -- the event happens to the first list, and the second list is as it was
  abbrev pub HappensAlone : LineEvent Request Reply → Lists Request Reply → Lists Request Reply → Type 0
  HappensAlone v a b = Happens v a.0 b.0 × (b.1 ≡ a.1)

  -- the writer e, which saw this newest writer, comes; it leads if there was none; and nothing moves if another came
  -- before it
  abbrev pub IsLink : ℕ → QueuedWriter Request → ℕ → Lists Request Reply → Lists Request Reply → Type 0
  IsLink saw e found a b = (found ≡ saw → found ≡ 0 → (linked : Lists Request Reply) × HappensAlone (comes e) a linked
      × HappensAlone (elects e) linked b)
      × (found ≡ saw → found ≢ 0 → HappensAlone (comes e) a b) × (found ≢ saw → Stays a b)

  -- a writer of this client, with this request, leads
  abbrev pub IsElect : ℕ → Request → Lists Request Reply → Lists Request Reply → Type 0
  IsElect c q a b = (e : QueuedWriter Request) × (e.by ≡ c) × (e.asked ≡ q) × HappensAlone (elects e) a b

  -- own builds its group, under this bound
  abbrev pub IsBuild : ℕ → QueuedWriter Request → Lists Request Reply → Lists Request Reply → Type 0
  IsBuild max own a b = (group left : List (QueuedWriter Request)) × HappensAlone (builds max own group left) a b

  -- own, whose group has the log, stalls writes; and ends that
  abbrev pub IsStall : Lead Request Reply → Lists Request Reply → Lists Request Reply → Type 0
  IsStall lead = HappensAlone (stalls lead.own lead.group)

  abbrev pub IsResume : Lead Request Reply → Lists Request Reply → Lists Request Reply → Type 0
  IsResume lead = HappensAlone (resumes lead.own lead.group)

  -- a leader stalls writes
  abbrev pub IsStalled : Lists Request Reply → Type 0
  IsStalled a = (own : QueuedWriter Request) × (group : List (QueuedWriter Request)) × (a.0.1 ≡ halted own group)

  -- nothing moves, and a leader stalls writes if the number found is the marker
  abbrev pub ShowsStall : ℕ → Lists Request Reply → Lists Request Reply → Type 0
  ShowsStall found a b = Stays a b × (found ≡ STALL → IsStalled a)

  -- e leaves the queue, with this reply
  abbrev pub IsDrop : QueuedWriter Request → Reply → Lists Request Reply → Lists Request Reply → Type 0
  IsDrop e p a b = (newer older : List (QueuedWriter Request)) × HappensAlone (drops newer e older p) a b

  -- own's group leaves, with these replies of its other members and this one of its own
  abbrev pub IsExit : QueuedWriter Request → Reply → List (QueuedWriter Request × Reply) → Lists Request Reply
      → Lists Request Reply → Type 0
  IsExit own p gs = HappensAlone (exits (all_answers own p gs))

  -- e's client gets this reply
  abbrev pub IsComplete : QueuedWriter Request → Reply → Lists Request Reply → Lists Request Reply → Type 0
  IsComplete e p = HappensAlone (completes (handling e p))

  -- the client c, whose group has the log, cuts the group off from the first list, to bring it into the second
  abbrev pub IsBoundary : ℕ → Squad Request Reply → Lists Request Reply → Lists Request Reply → Type 0
  IsBoundary c g a b = (g.own.by ≡ c) × (a.0.1 ≡ grouped g.own g.rest) × (a.1.2 c ≡ none) × (b.0 ≡ a.0)
      × (b.1.0 ≡ a.1.0) × (b.1.1 ≡ a.1.1) × IsPut c (some g) a.1.2 b.1.2

  -- the link of the oldest writer after a group is cut: to give the log on, or, with `from` for what was given runs,
  -- to bring the group into the second list
  abbrev pub IsCutAs : Option (List (Handling Request Reply)) → ℕ → Lead Request Reply → Lists Request Reply
      → Lists Request Reply → Type 0
  IsCutAs none c lead = Stays
  IsCutAs (some from) c lead = IsBoundary c (squad_at_cut lead from)

  -- a group that was cut off comes into the second list, as the newest one, while its leader still has the log
  abbrev pub IsSecond : ℕ → Squad Request Reply → List (Handling Request Reply) → Lists Request Reply
      → Lists Request Reply → Type 0
  IsSecond c g to a b = (a.1.2 c ≡ some g) × (a.1.1 ≡ level) × (b.0 ≡ a.0) × (b.1.0 ≡ squad_with_end g to ∷ a.1.0)
      × (b.1.1 ≡ ahead c) × IsPut c none a.1.2 b.1.2

  -- own's group leaves the first list, and the log is given on
  abbrev pub IsNext : Back Request Reply → QueuedWriter Request → Reply → List (QueuedWriter Request × Reply)
      → Lists Request Reply → Lists Request Reply → Type 0
  IsNext back own p gs a b = Happens (exits (all_answers own p gs)) a.0 b.0 × (b.1 ≡ after_handing_on back a.1)
      × IsAhead back own.by a.1.1

  -- the oldest group, which c leads, leaves the second list
  abbrev pub IsServedOut : ℕ → Squad Request Reply → Lists Request Reply → Lists Request Reply → Type 0
  IsServedOut c g a b = (g.own.by ≡ c) × (a.1.0 ≡ b.1.0 ++ g ∷ []) × (b.0 ≡ a.0) × (b.1.1 ≡ a.1.1)
      × (b.1.2 ≡ a.1.2)

module _ {Request Reply Log Right : Type 0} (stands : Laws Request Reply Log Right) (n : ℕ) where
  -- the first list as it is after the events that led to a state, and the second one
  abbrev pub now_of : (s : State (LineSlot Request Reply Log Right) (List (LineHold Request Reply))) → Listed stands n s
      → Lists Request Reply
  now_of s r = ((r.account.queue, r.account.log, r.handled, r.account.owing), second_list_of r.two)

  -- the words and slots keep the rule, and the lists are `now`
  abbrev pub IsNow : Lists Request Reply → State (LineSlot Request Reply Log Right) (List (LineHold Request Reply))
      → Type 0
  IsNow now s = (r : Listed stands n s) × (now_of s r ≡ now)

  -- the words and slots keep the rule, and the event has led to what the lists are
  abbrev pub Becomes : (Lists Request Reply → Lists Request Reply → Type 0) → Lists Request Reply
      → State (LineSlot Request Reply Log Right) (List (LineHold Request Reply)) → Type 0
  Becomes event before s = (now : Lists Request Reply) × event before now × IsNow now s

  -- The seat makes its step on the word i, which becomes f of what it was. Whatever state the list is in, the rule is
  -- kept, the step is the event, and `then` holds of the number that was found and of the seat afterwards.
  abbrev pub StepIs : (ℕ → Lists Request Reply → Lists Request Reply → Type 0) → ℕ → ℕ → Sat Request Reply Log Right → ℕ
      → (ℕ → ℕ)
      → (ℕ → Sat Request Reply Log Right → Type 0) → Type 0
  StepIs event slots id me i f then = (s : State (LineSlot Request Reply Log Right) (List (LineHold Request Reply)))
      (r : Listed stands n s)
      → length s.homes ≡ slots → get_elem? s.views id ≡ some me.0 → slice_index s.words i < 18446744073709551616
      → (w : List (LineHold Request Reply)) × (a : Act (LineSlot Request Reply Log Right)) × Valid s.homes me.1 a
      × Becomes (event (slice_index s.words i)) (now_of s r) (stepped s i (f (slice_index s.words i)) id me.1 w a)
      × then (slice_index s.words i) (w, carried_after me.1 a)

  -- the step is a load of the word i
  abbrev pub LoadIs : (ℕ → Lists Request Reply → Lists Request Reply → Type 0) → ℕ → ℕ → Sat Request Reply Log Right → ℕ
      → Telling Request Reply Log Right → Type 0
  LoadIs event slots id me i then = StepIs event slots id me i (λ x. x) (then (step slots i 0 0 none) me)

  -- the step is a store of this value
  abbrev pub StoreIs : (ℕ → Lists Request Reply → Lists Request Reply → Type 0) → ℕ → ℕ → Sat Request Reply Log Right
      → ℕ → ℕ → Telling Request Reply Log Right → Type 0
  StoreIs event slots id me i value then = StepIs event slots id me i (λ _. value)
      (λ _. then (step slots i value 0 none) me value)

  -- the step is a compare-exchange from `wanted` to this value
  abbrev pub ExchangeIs : (ℕ → Lists Request Reply → Lists Request Reply → Type 0) → ℕ → ℕ → Sat Request Reply Log Right
      → ℕ → ℕ → ℕ → Telling Request Reply Log Right → Type 0
  ExchangeIs event slots id me i wanted value then =
      StepIs event slots id me i (λ x. either (x == wanted) value x) (then (step slots i wanted value none) me)
