-- What a leader's view shows of the lists, in each state in which the rule holds.
use Rattle.std.specs.Prelude.{◌≡◌, ℕ, ◌≤◌, List, [], ◌∷◌, ◌++◌, length, slice_index}
use mathlib.Core.Option.{some}
use lib.ListN.{get_elem?}
use Rattle.atomic_table.specs.Table.{State}
use Rattle.line_rule.specs.declared.view.LineHold.{LineHold}
use Rattle.line_rule.specs.declared.view.Squad.{Squad}
use Rattle.line_rule.specs.declared.view.Back.{Back}
use Rattle.line_rule.specs.declared.view.Back.TheVariants.{Away, Parting, Joining, Holding, Queued, Serving, Passing}
use Rattle.line_rule.specs.declared.view.LineStage.{LineStage}
use Rattle.line_rule.specs.declared.view.LineStage.TheVariants.{Idle, Preparing, Waiting, Helping, Fresh, Leading, Stalling, Cutting, Marking, Settling, Collecting}
use Rattle.line_rule.specs.declared.content.LineSlot.{LineSlot}
use Rattle.line_rule.specs.Chain.{Absent, newest, Links}
use Rattle.line_rule.specs.Events.{IsNotWith}
use Rattle.line_rule.specs.Standing.{line_of, flat}
use Rattle.line_rule.specs.Steps.{Lists}

-- the seat is this client's alone, and h is what it knows
abbrev pub Sees : {Request Reply Log Right : Type 0}
    → State (LineSlot Request Reply Log Right) (List (LineHold Request Reply)) → ℕ → LineHold Request Reply → Type 0
Sees s id h = get_elem? s.views id ≡ some (h ∷ [])

module _ {Request Reply : Type 0} where
  -- the leader that the stage names is this client
  abbrev pub IsOwn : ℕ → LineStage Request Reply → Type 0
  IsOwn c Idle = Unit {0}
  IsOwn c (Preparing w) = Unit {0}
  IsOwn c (Waiting q past) = Unit {0}
  IsOwn c (Helping q) = Unit {0}
  IsOwn c (Fresh own seen) = own.by ≡ c
  IsOwn c (Leading lead) = lead.own.by ≡ c
  IsOwn c (Stalling lead t) = lead.own.by ≡ c
  IsOwn c (Cutting lead next) = lead.own.by ≡ c
  IsOwn c (Marking lead) = lead.own.by ≡ c
  IsOwn c (Settling debt) = debt.own.by ≡ c
  IsOwn c Collecting = Unit {0}

  -- the group has come into the second list, and its leader still has the log
  abbrev pub IsJoined : Squad Request Reply → Back Request Reply → Type 0
  IsJoined g Away = ⊥
  IsJoined g (Parting f end) = ⊥
  IsJoined g (Joining f) = f ≡ g
  IsJoined g (Holding f) = f ≡ g
  IsJoined g (Queued f) = ⊥
  IsJoined g (Serving f walk) = ⊥
  IsJoined g (Passing f next) = ⊥

  -- the group's leader has the right
  abbrev pub IsServed : Squad Request Reply → Back Request Reply → Type 0
  IsServed g Away = ⊥
  IsServed g (Parting f end) = ⊥
  IsServed g (Joining f) = ⊥
  IsServed g (Holding f) = f ≡ g
  IsServed g (Queued f) = ⊥
  IsServed g (Serving f walk) = f ≡ g
  IsServed g (Passing f next) = ⊥

  -- the second list is this group and then, along the older links, older ones
  abbrev pub IsNewestGroup : Squad Request Reply → List ℕ → Type 0
  IsNewestGroup g words = (older : List (Squad Request Reply))
      × (slice_index words 1 ≡ newest (line_of g ++ flat older))
      × Links words (line_of g ++ flat older)

  -- the second list is newer groups and then this one
  abbrev pub IsOldestGroup : Squad Request Reply → List ℕ → Type 0
  IsOldestGroup g words = (newer : List (Squad Request Reply))
      × (slice_index words 1 ≡ newest (flat newer ++ line_of g))
      × Links words (flat newer ++ line_of g)

  -- the walk from the newest writer of the second list is its groups, except for an oldest one whose leader has cut it
  -- off and has yet to give the right on
  abbrev pub IsWalked : Lists Request Reply → List ℕ → Type 0
  IsWalked l words = (walked cut : List (Squad Request Reply)) × (l.1.0 ≡ walked ++ cut) × (length cut ≤ 1)
      × (slice_index words 1 ≡ newest (flat walked)) × Links words (flat walked)

  -- the client is neither of the group in hand nor in the second list
  abbrev pub IsInNone : ℕ → Lists Request Reply → Type 0
  IsInNone c l = IsNotWith c l.0.1 × Absent c (flat l.1.0)

  -- nor in the queue
  abbrev pub IsNowhere : ℕ → Lists Request Reply → Type 0
  IsNowhere c l = Absent c l.0.0 × IsInNone c l
