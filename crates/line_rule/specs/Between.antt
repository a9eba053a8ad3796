-- What the words and slots show between any two steps.
use Rattle.std.specs.Prelude.{◌≡◌, true, false, ℕ, ◌≤◌, List, [], ◌∷◌, ◌++◌, length, slice_index}
use mathlib.Core.Option.{Option, some}
use lib.ListN.{get_elem?}
use Rattle.atomic_table.specs.Table.{State}
use Rattle.line_rule.specs.declared.view.QueuedWriter.{QueuedWriter}
use Rattle.line_rule.specs.declared.view.Handling.{Handling}
use Rattle.line_rule.specs.declared.view.LineHold.{LineHold}
use Rattle.line_rule.specs.declared.content.LineSlot.{LineSlot}
use Rattle.line_rule.specs.declared.view.Squad.{Squad}
use Rattle.line_rule.specs.Chain.{newest_from, Links, LinksFrom, AllAbsent, Distinct, Within}
use Rattle.line_rule.specs.Events.{LineEvent, LogHolder, IsHolder, Legal, core_of}
use Rattle.line_rule.specs.Standing.{Mode, open_, waits, led, built, cut, marked, base_of, pause_of, Names, Holds, Turn, still, calls, held_by, passes, Lead2, ahead, flat, handed_on, InStep}
use Rattle.line_rule.specs.Made.{AreMade}
use Rattle.line_rule.specs.Laws.{Laws}
use Rattle.line_rule.specs.Rule.{LogHome, RightHome, Shows, Recalls}
use Rattle.line_rule.specs.Steps.{Lists}

-- the events go on from those that each of these clients knows
abbrev pub AllRecall : {Request Reply : Type 0} → List (LineEvent Request Reply) → List (LineHold Request Reply)
    → Type 0
AllRecall events [] = Unit {0}
AllRecall events (h ∷ hs) = Recalls events h.stage × AllRecall events hs

-- the client leads the oldest group
abbrev pub IsOldest : {Request Reply : Type 0} → ℕ → List (Squad Request Reply) → Type 0
IsOldest {Request} {Reply} c groups = (newer : List (Squad Request Reply)) × (g : Squad Request Reply)
    × (groups ≡ newer ++ g ∷ []) × (g.own.by ≡ c)

-- the oldest writer of the queue is this client's
abbrev pub HasOldest : {Request : Type 0} → ℕ → List (QueuedWriter Request) → Type 0
HasOldest {Request} c queue = (newer : List (QueuedWriter Request)) × (e : QueuedWriter Request)
    × (queue ≡ newer ++ e ∷ []) × (e.by ≡ c)

-- Nobody is in the queue where the log is free and nobody is woken. The client that is woken to lead, or has just
-- begun to, or is the next to be woken, is the oldest there.
module _ {Request : Type 0} (queue : List (QueuedWriter Request)) where
  abbrev pub IsInTurn : Mode Request → Type 0
  IsInTurn open_ = queue ≡ []
  IsInTurn (waits c) = HasOldest c queue
  IsInTurn (led c) = HasOldest c queue
  IsInTurn (built c group t) = Unit {0}
  IsInTurn (cut c next) = HasOldest next queue
  IsInTurn (marked c) = Unit {0}

-- the log is in its slot where nobody leads, and else the leader has it
module _ {Request Reply Log Right : Type 0} (stands : Laws Request Reply Log Right)
    (homes : List (Option (LineSlot Request Reply Log Right)))
    (handled : List (Handling Request Reply)) where
  abbrev pub LogAtHome : Mode Request → Type 0
  LogAtHome open_ = LogHome stands homes handled
  LogAtHome (waits c) = LogHome stands homes handled
  LogAtHome (led c) = Unit {0}
  LogAtHome (built c group t) = Unit {0}
  LogAtHome (cut c next) = Unit {0}
  LogAtHome (marked c) = Unit {0}

-- Where the right is. It is in its slot, and covers `done`, if there is no group, or if the oldest group's leader is
-- called and has yet to take it. Else that leader has it, or the leader before it, which has left the list and has yet
-- to call.
module _ {Request Reply Log Right : Type 0} (stands : Laws Request Reply Log Right) (n : ℕ)
    (homes : List (Option (LineSlot Request Reply Log Right)))
    (groups : List (Squad Request Reply)) (done : List (Handling Request Reply)) where
  abbrev pub RightAt : Turn → Type 0
  RightAt still = (groups ≡ []) × RightHome stands n homes done
  RightAt (calls c) = IsOldest c groups × RightHome stands n homes done
  RightAt (held_by c) = IsOldest c groups
  RightAt (passes c next) = IsOldest next groups

module _ {Request Reply Log Right : Type 0} (stands : Laws Request Reply Log Right) where
  -- the walk from the newest writer, and the events that led here, the latest first: the state after them is the
  -- queue, where the log is, what was handled, and for what of it the clients haven't got their replies yet
  pub record Between (n : ℕ) (s : State (LineSlot Request Reply Log Right) (List (LineHold Request Reply))) : Type 0
    where
      pub walk : List (QueuedWriter Request)
      pub queue : List (QueuedWriter Request)
      pub log : LogHolder Request
      pub handled : List (Handling Request Reply)
      pub owing : List (Handling Request Reply)
      pub mode : Mode Request
      pub events : List (LineEvent Request Reply)
      -- while writes are stalled, the walk begins at the writer that the word `older_at 0` names
      pub newest : Names s.words (newest_from (base_of mode) walk) (pause_of mode)
      pub links : LinksFrom (base_of mode) s.words walk
      pub short : length walk ≤ n
      pub distinct : Distinct walk
      pub within : Within n walk
      pub legal : Legal stands.bound events
      pub ran : core_of events ≡ (queue, log, handled, owing)
      -- what each client knows of the past is in these events: a writer that waits came in them, a leader built its
      -- group in them
      pub recalled : (id : ℕ) (v : List (LineHold Request Reply)) → get_elem? s.views id ≡ some v → AllRecall events v
      -- the walk is the queue and then the group in hand; once the leader has cut its group off, it is the queue alone
      pub shows : Shows walk queue log mode
      -- the client that has the log in its hands is the one that leads by the events
      pub owner : (c : ℕ) → Holds c mode → IsHolder c log
      pub in_turn : IsInTurn queue mode
      pub home : LogAtHome stands s.homes handled mode
      -- the second list: its groups, newest first, and what the right covers
      pub groups : List (Squad Request Reply)
      pub turn : Turn
      pub lead : Lead2
      pub done : List (Handling Request Reply)
      pub second_newest : slice_index s.words 1 ≡ newest_from 0 (flat groups)
      pub second_links : Links s.words (flat groups)
      pub second_short : length (flat groups) ≤ n
      pub second_distinct : Distinct (flat groups)
      pub second_within : Within n (flat groups)
      -- no client is in both lists
      pub apart_lists : AllAbsent walk (flat groups)
      pub right : RightAt stands n s.homes groups done turn
      -- a group, the newest one, is ahead of the log only while its leader has yet to give the log on
      pub handed : (c : ℕ) → lead ≡ ahead c → Holds c mode
      pub none_second : stands.piped ≡ false → groups ≡ []
      -- each group begins with what the one before it ends with, from what the right covers to all that was given runs
      pub in_order : stands.piped ≡ true → InStep done groups (stands.given handled) lead
      -- and what it adds is what of its own members' handlings was given runs
      pub made : AreMade stands.given (handed_on groups lead)

  -- the lists are these; the second may have one group more, the oldest, which its leader has cut off while it still
  -- has the right
  abbrev pub AreLists : {n : ℕ} {s : State (LineSlot Request Reply Log Right) (List (LineHold Request Reply))}
      → Between n s → Lists Request Reply → Type 0
  AreLists b l = (l.0 ≡ (b.queue, b.log, b.handled, b.owing)) × (l.1.1 ≡ b.lead)
      × ((cut : List (Squad Request Reply)) × (l.1.0 ≡ b.groups ++ cut) × (length cut ≤ 1))
