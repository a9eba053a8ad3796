-- The rule of the list. Word 0 is the newest writer of the first list, and word 1 that of the second. Client i has word
-- 2 i + 2, its state, and word 2 i + 3, its link. Slot 0 is the log's, slot i is client i's, and the last one is the
-- right's.
use Rattle.std.specs.Prelude.{Bool, true, false, ◌≡◌, ◌≢◌, ℕ, zero, suc, ◌+◌, ◌*◌, ◌<◌, ◌≤◌, ◌⊎◌, List, [], ◌∷◌, ◌++◌, length, slice_index}
use mathlib.Core.Option.{Option, some}
use lib.ListN.{get_elem?}
use Rattle.atomic_table.specs.Table.{State}
use Rattle.line_rule.specs.declared.words.TheConstants.{STALL, STATE_DONE, STATE_IN_LIST, STATE_LEADS_LOG, STATE_LEADS_TABLE, STATE_PARALLEL}
use Rattle.line_rule.specs.declared.view.QueuedWriter.{QueuedWriter}
use Rattle.line_rule.specs.declared.view.Handling.{Handling}
use Rattle.line_rule.specs.declared.view.LineHold.{LineHold}
use Rattle.line_rule.specs.declared.view.Squad.{Squad}
use Rattle.line_rule.specs.declared.view.Stall.{Stall}
use Rattle.line_rule.specs.declared.view.Stall.TheVariants.{Aimed, Stopped, Holds as Held, Owes}
use Rattle.line_rule.specs.declared.view.Back.{Back}
use Rattle.line_rule.specs.declared.view.Back.TheVariants.{Away}
use Rattle.line_rule.specs.declared.content.LineSlot.{LineSlot}
use Rattle.line_rule.specs.declared.content.LineSlot.TheVariants.{Empty, Asked, Told, TheLog, TheRight}
use Rattle.line_rule.specs.declared.view.LineStage.{LineStage}
use Rattle.line_rule.specs.declared.view.LineStage.TheVariants.{Idle, Preparing, Waiting, Helping, Fresh, Leading, Stalling, Cutting, Marking, Settling, Collecting}
use Rattle.line_rule.specs.Events.{LineEvent, LogHolder, free, elected, grouped, halted, core_of, Legal, GoesOn}
use Rattle.line_rule.specs.Chain.{state_at, older_at, newest, newest_from, Links, LinksFrom, Distinct, Within, EndsWith, of, heads}
use Rattle.line_rule.specs.Standing.{Phase, idle, preparing, linked, chosen, leads, taken, completed, held, dropped, dismissed, collecting, Pause, calm, aimed, stopped, holding, owing, Names, pause_in, Mode, open_, waits, led, built, cut, marked, base_of, pause_of, Holds, InFront, Place, away, parted, queued, called, serves, served, Turn, still, calls, held_by, passes, ahead, Two, line_of, flat, handed_on, In, Apart, InStep, KnowsBack}
use Rattle.line_rule.specs.Made.{AreMade}
use Rattle.line_rule.specs.Laws.{Laws}
-- named here too, since those who make the steps cite them together with the definitions of the rule
pub use Rattle.line_rule.specs.Laws.{Unnumbered, given_runs, last_run, logs_from, logs_picked, serves_picked, kept_picked, drops_picked, asks_for, asks_picked}

module _ {Request Reply : Type 0} where
  -- by the client's phase the writer e is in the list
  abbrev pub InChain : QueuedWriter Request → Phase Request Reply → Type 0
  InChain e idle = ⊥
  InChain e (preparing w) = ⊥
  InChain e (linked f) = f ≡ e
  InChain e (chosen f) = f ≡ e
  InChain e (leads f) = f ≡ e
  InChain e (taken c f) = f ≡ e
  InChain e (completed q p) = ⊥
  InChain e (held c f) = f ≡ e
  InChain e (dropped c f p) = ⊥
  InChain e (dismissed q p) = ⊥
  InChain e collecting = ⊥

  abbrev pub Stand : (ℕ → Phase Request Reply) → List (QueuedWriter Request) → Type 0
  Stand phase [] = Unit {0}
  Stand phase (e ∷ es) = InChain e (phase e.by) × Stand phase es

  -- the client's entry is one of a group that has left the first list for the second
  abbrev pub InSecond : (ℕ → Place Request Reply) → ℕ → Phase Request Reply → Type 0
  InSecond place k idle = ⊥
  InSecond place k (preparing w) = ⊥
  InSecond place k (linked e) = ⊥
  InSecond place k (chosen e) = ⊥
  InSecond place k (leads e) = place k ≢ away
  InSecond place k (taken c e) = place c ≢ away
  InSecond place k (completed q p) = ⊥
  InSecond place k (held c e) = ⊥
  InSecond place k (dropped c e p) = ⊥
  InSecond place k (dismissed q p) = ⊥
  InSecond place k collecting = ⊥

  abbrev pub AllWith : (ℕ → Phase Request Reply) → ℕ → List (QueuedWriter Request) → Type 0
  AllWith phase c [] = Unit {0}
  AllWith phase c (e ∷ es) = (phase e.by ≡ taken c e) × AllWith phase c es

  -- the client leads the group, and its members are with it
  abbrev pub IsLed : (ℕ → Phase Request Reply) → ℕ → Squad Request Reply → Type 0
  IsLed phase c g = (g.own.by ≡ c) × (phase c ≡ leads g.own) × AllWith phase c g.rest

  -- the members of each group are with its leader
  abbrev pub AllGroups : (ℕ → Phase Request Reply) → (ℕ → Place Request Reply) → List (Squad Request Reply) → Type 0
  AllGroups phase place [] = Unit {0}
  AllGroups phase place (g ∷ gs) = (phase g.own.by ≡ leads g.own) × In g (place g.own.by)
      × AllWith phase g.own.by g.rest × AllGroups phase place gs

  -- the client has put its request q in, doesn't lead, and hasn't taken the reply yet
  abbrev pub Waits : Request → Phase Request Reply → Type 0
  Waits q idle = ⊥
  Waits q (preparing w) = ⊥
  Waits q (linked e) = e.asked ≡ q
  Waits q (chosen e) = e.asked ≡ q
  Waits q (leads e) = ⊥
  Waits q (taken c e) = e.asked ≡ q
  Waits q (completed r p) = r ≡ q
  Waits q (held c e) = e.asked ≡ q
  Waits q (dropped c e p) = e.asked ≡ q
  Waits q (dismissed r p) = r ≡ q
  Waits q collecting = ⊥

  -- of what was handled for a client and not yet taken out by it, what it hasn't been told; or its reply, where it has
  -- left the queue
  abbrev pub due_untold : Phase Request Reply → List (Request × Reply) → List (Request × Reply)
  due_untold idle due = due
  due_untold (preparing w) due = due
  due_untold (linked e) due = due
  due_untold (chosen e) due = due
  due_untold (leads e) due = due
  due_untold (taken c e) due = due
  due_untold (completed q p) due = []
  due_untold (held c e) due = due
  due_untold (dropped c e p) due = (e.asked, p) ∷ []
  due_untold (dismissed q p) due = []
  due_untold collecting due = due

  abbrev pub AllLinked : (ℕ → Phase Request Reply) → List (QueuedWriter Request) → Type 0
  AllLinked phase [] = Unit {0}
  AllLinked phase (e ∷ es) = (phase e.by ≡ linked e) × AllLinked phase es

  -- they wait in the list, except the one whose request the leader c has, while it stalls writes
  module _ (phase : ℕ → Phase Request Reply) (due : ℕ → List (Request × Reply)) (c : ℕ) (queue : List (QueuedWriter Request)) where
    abbrev pub AllQueued : Pause Request → Type 0
    AllQueued calm = AllLinked phase queue
    AllQueued (aimed w) = AllLinked phase queue
    AllQueued (stopped w) = AllLinked phase queue
    AllQueued (holding w x) = (newer older : List (QueuedWriter Request)) × (queue ≡ newer ++ x ∷ older)
        × AllLinked phase newer × AllLinked phase older × (phase x.by ≡ held c x) × (due x.by ≡ [])
    AllQueued (owing w x) = AllLinked phase queue

  -- the leader c has their requests, and has handled none of them
  abbrev pub AllTaken : (ℕ → Phase Request Reply) → (ℕ → List (Request × Reply)) → ℕ → List (QueuedWriter Request)
      → Type 0
  AllTaken phase due c [] = Unit {0}
  AllTaken phase due c (e ∷ es) = (phase e.by ≡ taken c e) × (due e.by ≡ []) × AllTaken phase due c es

  -- c has handled their requests, and they haven't got their replies yet
  abbrev pub AllOwed : (ℕ → Phase Request Reply) → (ℕ → List (Request × Reply)) → ℕ
      → List (QueuedWriter Request × Reply) → Type 0
  AllOwed phase due c [] = Unit {0}
  AllOwed phase due c (g ∷ gs) = (phase g.0.by ≡ taken c g.0) × (due g.0.by ≡ (g.0.asked, g.1) ∷ [])
      × AllOwed phase due c gs

  -- the writer to which a leader that stalls writes owes a reply
  abbrev pub OwesTo : (ℕ → Phase Request Reply) → ℕ → Stall Request Reply → Type 0
  OwesTo phase c (Aimed w) = Unit {0}
  OwesTo phase c (Stopped w) = Unit {0}
  OwesTo phase c (Held w x) = Unit {0}
  OwesTo phase c (Owes w x p) = phase x.by ≡ dropped c x p

  module _ (line hand : List (QueuedWriter Request)) (handled : List (Handling Request Reply)) (mode : Mode Request)
      (phase : ℕ → Phase Request Reply) (due : ℕ
      → List (Request × Reply)) (c : ℕ) where
    abbrev pub Knows : LineStage Request Reply → Type 0
    Knows Idle = phase c ≡ idle
    Knows (Preparing w) = phase c ≡ preparing w
    Knows (Waiting q past) = Waits q (phase c)
    Knows (Helping q) = Waits q (phase c) × ((p : Reply) × (due c ≡ (q, p) ∷ []))
    Knows (Fresh own seen) = (mode ≡ led c) × (phase c ≡ leads own) × (seen ≡ handled)
    Knows (Leading lead) = (mode ≡ built c lead.group calm) × (phase c ≡ leads lead.own) × EndsWith line lead.walk
        × (lead.seen ≡ handled) × (lead.taken ≡ hand)
    Knows (Stalling lead t) = (mode ≡ built c lead.group (pause_in t)) × (phase c ≡ leads lead.own)
        × EndsWith line lead.walk × (lead.seen ≡ handled) × (lead.taken ≡ hand) × OwesTo phase c t
    Knows (Cutting lead e) = (mode ≡ cut c e.by) × (phase c ≡ leads lead.own) × (phase e.by ≡ linked e)
        × (lead.seen ≡ handled) × (lead.taken ≡ hand)
    Knows (Marking lead) = (mode ≡ marked c) × (phase c ≡ leads lead.own) × EndsWith line lead.walk
        × (lead.seen ≡ handled) × (lead.taken ≡ hand)
    Knows (Settling debt) = AllOwed phase due c debt.rest × (phase c ≡ leads debt.own)
        × (due c ≡ (debt.own.asked, debt.reply) ∷ []) × Distinct (heads debt.rest)
    Knows Collecting = phase c ≡ collecting

  -- What a client knows of the events that led here. So events are only added: nobody can replace the past that
  -- somebody knows.
  abbrev pub Recalls : List (LineEvent Request Reply) → LineStage Request Reply → Type 0
  Recalls events Idle = Unit {0}
  Recalls events (Preparing w) = Unit {0}
  Recalls events (Waiting q past) = GoesOn events past
  Recalls events (Helping q) = Unit {0}
  Recalls events (Fresh own seen) = Unit {0}
  Recalls events (Leading lead) = GoesOn events lead.past
  Recalls events (Stalling lead t) = GoesOn events lead.past
  Recalls events (Cutting lead e) = Unit {0}
  Recalls events (Marking lead) = Unit {0}
  Recalls events (Settling debt) = Unit {0}
  Recalls events Collecting = Unit {0}

  module _ (n : ℕ) (line hand : List (QueuedWriter Request)) (handled : List (Handling Request Reply))
      (mode : Mode Request) (phase : ℕ
      → Phase Request Reply) (due told : ℕ
      → List (Request × Reply)) (two : Two Request Reply) (events : List (LineEvent Request Reply)) (seat : ℕ → ℕ)
      (j : ℕ) where
    abbrev pub Fits : LineHold Request Reply → Type 0
    Fits h = (seat h.client ≡ j) × (0 < h.client) × (h.client ≤ n) × (h.mine ≡ told h.client)
        × Knows line hand handled mode phase due h.client h.stage × KnowsBack two h.client h.back
        × Recalls events h.stage

    abbrev pub AllFit : List (LineHold Request Reply) → Type 0
    AllFit [] = Unit {0}
    AllFit (h ∷ hs) = Fits h × AllFit hs

  -- what is known of a client at a stage, with no group in the second list or on its way there; `hold_at` is the same
  -- of one whose group is at `b`; `newcomers` are n clients that have done nothing
  abbrev pub hold : ℕ → LineStage Request Reply → List (Request × Reply) → LineHold Request Reply
  hold c st m = record { client = c; stage = st; mine = m; back = Away }

  abbrev pub hold_at : ℕ → LineStage Request Reply → List (Request × Reply) → Back Request Reply
      → LineHold Request Reply
  hold_at c st m b = record { client = c; stage = st; mine = m; back = b }

  abbrev pub newcomers : ℕ → List (LineHold Request Reply)
  newcomers zero = []
  newcomers (suc n) = hold (suc n) Idle [] ∷ newcomers n

module _ {Request Reply : Type 0} where
  -- a leader that has cut its group off has the log for it, and its members' requests in hand
  abbrev pub HasCut : LogHolder Request → List (QueuedWriter Request) → (ℕ → Phase Request Reply) → Mode Request
      → Type 0
  HasCut log hand phase open_ = Unit {0}
  HasCut log hand phase (waits c) = Unit {0}
  HasCut log hand phase (led c) = Unit {0}
  HasCut log hand phase (built c g t) = Unit {0}
  HasCut log hand phase (cut c w) = (own : QueuedWriter Request) × (own.by ≡ c) × (phase c ≡ leads own)
      × (log ≡ grouped own hand)
  HasCut log hand phase (marked c) = (own : QueuedWriter Request) × (own.by ≡ c) × (phase c ≡ leads own)
      × (log ≡ grouped own hand)

-- who has the log, where its leader stalls writes or doesn't
abbrev pub held_in : {Request : Type 0} → Pause Request → QueuedWriter Request → List (QueuedWriter Request)
    → LogHolder Request
held_in calm own g = grouped own g
held_in (aimed w) own g = grouped own g
held_in (stopped w) own g = halted own g
held_in (holding w x) own g = halted own g
held_in (owing w x) own g = halted own g

-- some legal events led here, and what the words show is the state after them
module _ {Request : Type 0} (line queue : List (QueuedWriter Request)) (log : LogHolder Request) where
  abbrev pub Shows : Mode Request → Type 0
  Shows open_ = (line ≡ queue) × (log ≡ free)
  Shows (waits c) = (line ≡ queue) × (log ≡ free)
  Shows (led c) = (line ≡ queue) × (log ≡ elected c)
  Shows (built c g t) = (x : (own : QueuedWriter Request) × (line ≡ queue ++ (g ++ own ∷ [])))
      × (log ≡ held_in t x.0 g)
  Shows (cut c w) = (line ≡ queue)
      × ((own : QueuedWriter Request) × (g : List (QueuedWriter Request)) × (log ≡ grouped own g))
  Shows (marked c) = (line ≡ queue)
      × ((own : QueuedWriter Request) × (g : List (QueuedWriter Request)) × (log ≡ grouped own g))

pub record Account {Request Reply : Type 0} (bound : ℕ) (line : List (QueuedWriter Request))
    (handled : List (Handling Request Reply))
    (mode : Mode Request) : Type 0 where
  pub events : List (LineEvent Request Reply)
  pub queue : List (QueuedWriter Request)
  pub log : LogHolder Request
  pub owing : List (Handling Request Reply)
  pub legal : Legal bound events
  pub ran : core_of events ≡ (queue, log, handled, owing)
  pub shows : Shows line queue log mode

module _ {Request Reply Log Right : Type 0} (stands : Laws Request Reply Log Right) where
  module _ (words : List ℕ) (homes : List (Option (LineSlot Request Reply Log Right))) (i : ℕ)
      (due : List (Request × Reply)) where
    abbrev pub InPhase : Phase Request Reply → Type 0
    InPhase idle = (get_elem? homes i ≡ some (some Empty)) × (due ≡ [])
    InPhase (preparing w) = (slice_index words (state_at i) ≡ STATE_IN_LIST) × (slice_index words (older_at i) ≡ w)
        × (due ≡ [])
    InPhase (linked e) = (e.by ≡ i) × (slice_index words (state_at i) ≡ STATE_IN_LIST)
        × (get_elem? homes i ≡ some (some (Asked e.asked))) × (due ≡ [])
    InPhase (chosen e) = (e.by ≡ i) × (slice_index words (state_at i) ≡ STATE_LEADS_LOG)
        × (get_elem? homes i ≡ some (some (Asked e.asked))) × (due ≡ [])
    InPhase (leads e) = e.by ≡ i
    InPhase (taken c e) = (e.by ≡ i) × (slice_index words (state_at i) ≢ STATE_LEADS_LOG)
        × (slice_index words (state_at i) ≢ STATE_DONE)
        × (slice_index words (state_at i) ≡ STATE_PARALLEL → (stands.piped ≡ true)
        × ((p : Reply) × (due ≡ (e.asked, p) ∷ [])))
    InPhase (completed q p) = (slice_index words (state_at i) ≡ STATE_DONE) × (get_elem? homes i ≡ some (some (Told p)))
        × (due ≡ (q, p) ∷ [])
    InPhase (held c e) = (e.by ≡ i) × (slice_index words (state_at i) ≡ STATE_IN_LIST) × (due ≡ [])
    InPhase (dropped c e p) = (e.by ≡ i) × (slice_index words (state_at i) ≡ STATE_IN_LIST) × (due ≡ [])
        × stands.drops e.asked p
    InPhase (dismissed q p) = (slice_index words (state_at i) ≡ STATE_DONE) × (get_elem? homes i ≡ some (some (Told p)))
        × (due ≡ []) × stands.drops q p
    InPhase collecting = due ≡ []

  abbrev pub LogHome : List (Option (LineSlot Request Reply Log Right)) → List (Handling Request Reply) → Type 0
  LogHome homes handled = (l : Log) × (get_elem? homes 0 ≡ some (some (TheLog l))) × stands.logs l handled

  -- the right is at home, in the last slot, and covers these
  abbrev pub RightHome : ℕ → List (Option (LineSlot Request Reply Log Right)) → List (Handling Request Reply) → Type 0
  RightHome n homes hs = (r : Right) × (get_elem? homes (n + 1) ≡ some (some (TheRight r))) × stands.rights r hs

  -- in a list with a second one, what the right covers and what the log covers go together, by the groups between
  -- them; a list without a second one has no groups, and the right covers what it did at opening
  abbrev pub Level : Bool → Two Request Reply → List (Handling Request Reply) → Type 0
  Level true two last = InStep two.done two.groups last two.lead
  Level false two last = (two.groups ≡ []) × (two.done ≡ stands.opened)

  module _ (n : ℕ) (words : List ℕ) (homes : List (Option (LineSlot Request Reply Log Right))) (phase : ℕ
      → Phase Request Reply) where
    abbrev pub InTurn : Two Request Reply → Turn → Type 0
    InTurn two still = (two.groups ≡ []) × RightHome n homes two.done
    InTurn two (calls c) = ((newer : List (Squad Request Reply)) × (g : Squad Request Reply)
        × (two.groups ≡ newer ++ g ∷ [])
        × (two.place c ≡ called g) × (g.own.by ≡ c) × (slice_index words (state_at c) ≡ STATE_LEADS_TABLE))
        × RightHome n homes two.done
    InTurn two (held_by c) = (newer : List (Squad Request Reply)) × (g : Squad Request Reply)
        × (two.groups ≡ newer ++ g ∷ [])
        × (two.place c ≡ serves g) × (g.own.by ≡ c)
    InTurn two (passes c w) = (newer : List (Squad Request Reply)) × (g : Squad Request Reply)
        × (two.groups ≡ newer ++ g ∷ [])
        × (g.own.by ≡ w)

    -- the group g is cut off from the first list
    abbrev pub Parts : ℕ → Squad Request Reply → ℕ → Type 0
    Parts c g b = (g.own.by ≡ c) × (phase c ≡ leads g.own) × AllWith phase c g.rest × LinksFrom b words (line_of g)
        × Distinct (line_of g) × Within n (line_of g)

    -- what the words and slots show of the second list
    pub record Second (mode : Mode Request) (last : List (Handling Request Reply)) (two : Two Request Reply) : Type 0
      where
        pub newest_is : slice_index words 1 ≡ newest (flat two.groups)
        pub links : Links words (flat two.groups)
        pub distinct : Distinct (flat two.groups)
        pub within : Within n (flat two.groups)
        pub members : AllGroups phase two.place two.groups
        pub parts : (c : ℕ) (g : Squad Request Reply) (b : ℕ) → two.place c ≡ parted g b → Parts c g b
        pub outgoing : (c : ℕ) (g : Squad Request Reply) → two.place c ≡ served g → IsLed phase c g
        pub turn_is : InTurn two two.turn
        pub in_front : (c : ℕ) → InFront c mode → two.place c ≡ away
        pub quiet : (c : ℕ) → Holds c mode → Apart (two.place c) → slice_index words (state_at c) ≢ STATE_LEADS_TABLE
        pub quiet_queued : (c : ℕ) (g : Squad Request Reply) → two.place c ≡ queued g
            → slice_index words (state_at c) ≢ STATE_LEADS_TABLE
        pub called_turn : (c : ℕ) (g : Squad Request Reply) → two.place c ≡ called g → two.turn ≡ calls c
        pub ahead_holds : (c : ℕ) → two.lead ≡ ahead c → Holds c mode
        pub in_level : Level stands.piped two last
        pub made : AreMade stands.given (handed_on two.groups two.lead)

  module _ (n : ℕ) (homes : List (Option (LineSlot Request Reply Log Right))) (line hand : List (QueuedWriter Request))
      (handled : List (Handling Request Reply)) (phase : ℕ → Phase Request Reply) (due : ℕ
      → List (Request × Reply)) where
    abbrev pub InMode : Mode Request → Type 0
    InMode open_ = (line ≡ []) × (hand ≡ []) × LogHome homes handled
    InMode (waits c) = ((queue : List (QueuedWriter Request)) × (e : QueuedWriter Request) × (line ≡ queue ++ e ∷ [])
        × AllLinked phase queue
        × (phase c ≡ chosen e) × (e.by ≡ c)) × (hand ≡ []) × LogHome homes handled
    InMode (led c) = ((queue : List (QueuedWriter Request)) × (own : QueuedWriter Request) × (line ≡ queue ++ own ∷ [])
        × AllLinked phase queue
        × (phase c ≡ leads own) × (own.by ≡ c)) × (hand ≡ []) × (due c ≡ [])
    InMode (built c g t) = ((queue : List (QueuedWriter Request)) × (own : QueuedWriter Request)
        × (line ≡ queue ++ (hand ++ own ∷ []))
        × AllQueued phase due c queue t × (phase c ≡ leads own) × (own.by ≡ c))
        × AllTaken phase due c hand × (due c ≡ [])
    InMode (cut c w) = ((queue : List (QueuedWriter Request)) × (e : QueuedWriter Request) × (line ≡ queue ++ e ∷ [])
        × AllLinked phase queue
        × (phase w ≡ linked e) × (e.by ≡ w)) × AllTaken phase due c hand × (due c ≡ []) × Distinct hand
    InMode (marked c) = AllLinked phase line
        × ((own : QueuedWriter Request) × (phase c ≡ leads own) × (own.by ≡ c) × (0 < c) × (c ≤ n))
        × AllTaken phase due c hand
        × (due c ≡ []) × Distinct hand

  pub record Listed (n : ℕ) (s : State (LineSlot Request Reply Log Right) (List (LineHold Request Reply))) : Type 0
    where
      -- the walk from the newest writer, and the requests in hand, without the leader's own: newest first
      pub line : List (QueuedWriter Request)
      pub hand : List (QueuedWriter Request)
      pub handled : List (Handling Request Reply)
      pub mode : Mode Request
      pub phase : ℕ → Phase Request Reply
      -- what was handled for a client and it hasn't taken out yet, and what it has
      pub due : ℕ → List (Request × Reply)
      pub told : ℕ → List (Request × Reply)
      pub two : Two Request Reply
      pub seat : ℕ → ℕ
      pub few : n < STALL
      pub nobody : phase 0 ≡ idle
      pub wide : length s.words ≡ 2 * n + 4
      pub many : length s.homes ≡ n + 2
      pub newest_is : Names s.words (newest_from (base_of mode) line) (pause_of mode)
      pub links : LinksFrom (base_of mode) s.words line
      pub distinct : Distinct line
      pub within : Within n line
      pub stand : Stand phase line
      pub rows : (i : ℕ) → 0 < i → i ≤ n → InPhase s.words s.homes i (due i) (phase i)
      pub log_is : InMode n s.homes line hand handled phase due mode
      pub one_chosen : (i : ℕ) (e : QueuedWriter Request) → phase i ≡ chosen e → mode ≡ waits i
      pub shared_out : (i : ℕ) → of i handled ≡ told i ++ due i
      pub account : Account stands.bound line handled mode
      pub has_cut : HasCut account.log hand phase mode
      pub owing_is : (i : ℕ) → of i account.owing ≡ due_untold (phase i) (due i)
      pub second : Second n s.words s.homes phase mode (stands.given handled) two
      pub kept : stands.kept handled
      pub coded : (i : ℕ) (e : QueuedWriter Request) → InChain e (phase i) → stands.asks e.asked e.code
      pub seats : (j : ℕ) (v : List (LineHold Request Reply)) → get_elem? s.views j ≡ some v
          → AllFit n line hand handled mode phase due told two account.events seat j v

-- what `close` says
module _ {Request Reply : Type 0} where
  abbrev pub Has : LineHold Request Reply → List (LineHold Request Reply) → Type 0
  Has h [] = ⊥
  Has h (x ∷ xs) = (x ≡ h) ⊎ Has h xs

  -- all n clients are in the view, and idle
  abbrev pub AllIdle : ℕ → List (LineHold Request Reply) → Type 0
  AllIdle n v = (i : ℕ) → 0 < i → i ≤ n → (m : List (Request × Reply)) × Has (hold i Idle m) v

  -- in `handled` each client's handlings are those that it was told, in the same order
  abbrev pub Merges : List (Handling Request Reply) → List (LineHold Request Reply) → Type 0
  Merges handled v = (h : LineHold Request Reply) → Has h v → of h.client handled ≡ h.mine
