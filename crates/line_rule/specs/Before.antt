-- What a list is as it is opened, and what a client's seat is and has as it makes a step.
use Rattle.std.specs.Prelude.{◌≡◌, ℕ, ◌+◌, ◌*◌, ◌<◌, ◌≤◌, List, [], ◌∷◌, ◌++◌, length, replicate, slice_index}
use mathlib.Core.Option.{none}
use Rattle.atomic_table.specs.Table.{State}
use Rattle.line_rule.specs.declared.view.QueuedWriter.{QueuedWriter}
use Rattle.line_rule.specs.declared.view.Handling.{Handling}
use Rattle.line_rule.specs.declared.view.LineHold.{LineHold}
use Rattle.line_rule.specs.declared.view.LineStage.{LineStage}
use Rattle.line_rule.specs.declared.view.Lead.{Lead}
use Rattle.line_rule.specs.declared.view.Debt.{Debt}
use Rattle.line_rule.specs.declared.view.LineStage.TheVariants.{Leading, Settling}
use Rattle.line_rule.specs.declared.view.Squad.{Squad}
use Rattle.line_rule.specs.declared.view.Back.{Back}
use Rattle.line_rule.specs.declared.view.Back.TheVariants.{Serving}
use Rattle.line_rule.specs.declared.content.LineSlot.{LineSlot}
use Rattle.line_rule.specs.declared.content.LineSlot.TheVariants.{Empty, Told, TheLog, TheRight}
use Rattle.line_rule.specs.Chain.{heads, all_answers}
use Rattle.line_rule.specs.Events.{free}
use Rattle.line_rule.specs.Laws.{Laws}
use Rattle.line_rule.specs.Standing.{level, line_of}
use Rattle.line_rule.specs.Rule.{hold_at}
use Rattle.line_rule.specs.Plays.{Sat, At, AtWith, HandsOn, IsOwnGroup, IsCut, slots_of}
use Rattle.line_rule.specs.Steps.{Lists}
use Rattle.line_rule.specs.Handing.{Sees}

-- the words, the slots and the seats of a list
abbrev pub ListState : Type 0 → Type 0 → Type 0 → Type 0 → Type 0
ListState Request Reply Log Right = State (LineSlot Request Reply Log Right) (List (LineHold Request Reply))

-- slots with their numbers, as a seat has them
abbrev pub Carried : Type 0 → Type 0 → Type 0 → Type 0 → Type 0
Carried Request Reply Log Right = List (ℕ × LineSlot Request Reply Log Right)

-- words for n clients, of which the two that name a newest writer name none
abbrev pub NameNobody : ℕ → List ℕ → Type 0
NameNobody n words = (length words ≡ 2 * n + 4) × (slice_index words 0 ≡ 0) × (slice_index words 1 ≡ 0)

-- the log, an empty slot for each of n clients, and the right
abbrev pub slots_at_opening : {Request Reply Log Right : Type 0} → ℕ → Log → Right
    → List (LineSlot Request Reply Log Right)
slots_at_opening n l right = TheLog l ∷ (replicate n Empty ++ TheRight right ∷ [])

-- nobody waits, the log is free, nothing was handled, and no group is in the second list, or on the way there
abbrev pub lists_at_opening : {Request Reply : Type 0} → Lists Request Reply
lists_at_opening = (([], free, [], []), ([], level, λ _. none))

-- c is the number of one of n clients
abbrev pub IsClient : ℕ → ℕ → Type 0
IsClient n c = (0 < c) × (c ≤ n)

-- of the writers read, newest first, these are the oldest, and x is the next newer one
abbrev pub IsNextAfter : {Request : Type 0} → List (QueuedWriter Request) → QueuedWriter Request
    → List (QueuedWriter Request) → Type 0
IsNextAfter {Request} these x read = (newer : List (QueuedWriter Request)) × (read ≡ newer ++ x ∷ these)

-- the member is the next one to which a reply must be given, and this is its reply
abbrev pub IsNextOwed : {Request Reply : Type 0} → QueuedWriter Request × Reply → Debt Request Reply → Type 0
IsNextOwed {Request} {Reply} member d = (others : List (QueuedWriter Request × Reply)) × (d.rest ≡ member ∷ others)

-- a reply must still be given to the member
abbrev pub IsOwed : {Request Reply : Type 0} → QueuedWriter Request × Reply → Debt Request Reply → Type 0
IsOwed {Request} {Reply} member d = (newer older : List (QueuedWriter Request × Reply))
    × (d.rest ≡ newer ++ member ∷ older)

module _ {Request Reply Log Right : Type 0} where
  -- the seat is that of the client c, which is at this stage, and whose group isn't in the second list, nor on its way
  -- there
  abbrev pub IsAt : ℕ → LineStage Request Reply → Sat Request Reply Log Right → Type 0
  IsAt c stage me = (mine : List (Request × Reply)) × At c stage mine me

  -- the seat is that of the client c, which is at this stage, and `back` is where its group is with respect to the
  -- second list
  abbrev pub IsAtWith : ℕ → LineStage Request Reply → Back Request Reply → Sat Request Reply Log Right → Type 0
  IsAtWith c stage back me = (mine : List (Request × Reply)) × AtWith c stage mine back me

  -- in this state of the list the seat `id` is that of such a client
  abbrev pub SeesAt : ListState Request Reply Log Right → ℕ → ℕ → LineStage Request Reply → Back Request Reply → Type 0
  SeesAt s id c stage back = (mine : List (Request × Reply)) × Sees s id (hold_at c stage mine back)

  -- the client leads in the first list, and has the request of each member of its group
  abbrev pub HasWholeGroup : ℕ → Lead Request Reply → Sat Request Reply Log Right → Type 0
  HasWholeGroup c lead me = IsAt c (Leading lead) me × (lead.taken ≡ lead.group)

  -- the client is a leader that has cut its group off, and has the log
  abbrev pub HasCut : ℕ → Lead Request Reply → Back Request Reply → Sat Request Reply Log Right → Type 0
  HasCut c lead back me = (stage : LineStage Request Reply) × IsAtWith c stage back me × IsCut lead stage

  -- the client serves its group in the second list, as its leader with the right, and has this debt
  abbrev pub IsServing : ℕ → Debt Request Reply → Squad Request Reply → Sat Request Reply Log Right → Type 0
  IsServing c d g me = (read : List (QueuedWriter Request)) × IsAtWith c (Settling d) (Serving g read) me

  -- the client serves its group like that, and has read the second list, where x is the next newer writer after its
  -- group
  abbrev pub HasReadTo : QueuedWriter Request → ℕ → Debt Request Reply → Squad Request Reply
      → Sat Request Reply Log Right → Type 0
  HasReadTo x c d g me = (read : List (QueuedWriter Request)) × IsAtWith c (Settling d) (Serving g read) me
      × IsNextAfter (line_of g) x read

  -- the first slot that the seat has is slot k, and this is in it
  abbrev pub HasFirst : ℕ → LineSlot Request Reply Log Right → Sat Request Reply Log Right → Type 0
  HasFirst k value me = (more : Carried Request Reply Log Right) × (me.1 ≡ (k, value) ∷ more)

module _ {Request Reply Log Right : Type 0} (law : Laws Request Reply Log Right) where
  -- The leader has handled its group and may give the log on: it has the log, which covers the group's answers too;
  -- then the slot of each member and its own, with the replies in them; and then `more`. Where its group is in the
  -- second list, it is this one.
  abbrev pub HasHandledAnd : Carried Request Reply Log Right → ℕ → Lead Request Reply → Back Request Reply
      → List (QueuedWriter Request × Reply) → Reply → Sat Request Reply Log Right → Type 0
  HasHandledAnd more c lead back gs p me = (l : Log) × (heads gs ≡ lead.taken)
      × (me.1 ≡ (0, TheLog l) ∷ slots_of gs ((c, Told p) ∷ more))
      × law.logs l (lead.seen ++ all_answers lead.own p gs)
      × HandsOn law.piped law.given back lead.seen (lead.seen ++ all_answers lead.own p gs)
      × IsOwnGroup lead.own lead.taken back

  -- the same, whatever other slots it has
  abbrev pub HasHandled : ℕ → Lead Request Reply → Back Request Reply → List (QueuedWriter Request × Reply) → Reply
      → Sat Request Reply Log Right → Type 0
  HasHandled c lead back gs p me = (more : Carried Request Reply Log Right) × HasHandledAnd more c lead back gs p me

  -- the first slot that the seat has is the last of all slots, with the right in it, which covers what was handled
  abbrev pub HasRightFor : ℕ → List (Handling Request Reply) → Sat Request Reply Log Right → Type 0
  HasRightFor slots handled me = (k : ℕ) × (right : Right) × HasFirst k (TheRight right) me × (k + 1 ≡ slots)
      × law.rights right handled
