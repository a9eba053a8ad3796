-- The second list as its events show it.
use Rattle.std.specs.Prelude.{◌≡◌, ◌≢◌, ℕ, List, [], ◌∷◌, ◌++◌}
use mathlib.Core.Option.{Option, none, some}
use Rattle.line_rule.specs.declared.view.Squad.{Squad}
use Rattle.line_rule.specs.declared.view.Back.{Back}
use Rattle.line_rule.specs.declared.view.Back.TheVariants.{Away, Parting, Joining, Holding, Queued, Serving, Passing}
use Rattle.line_rule.specs.Standing.{Place, away, parted, queued, called, serves, served, Turn, still, calls, held_by, passes, Lead2, level, ahead, Two}

-- its groups, newest first; the leader, if there is one, whose group is the newest one there while it still has the
-- log; and for each client the group that it has cut off from the first list and that has yet to come into this one
abbrev pub SecondList : Type 0 → Type 0 → Type 0
SecondList Request Reply = List (Squad Request Reply) × Lead2 × (ℕ → Option (Squad Request Reply))

module _ {Request Reply : Type 0} where
  abbrev pub apart_in : Place Request Reply → Option (Squad Request Reply)
  apart_in away = none
  apart_in (parted g b) = some g
  apart_in (queued g) = none
  apart_in (called g) = none
  apart_in (serves g) = none
  apart_in (served g) = none

  abbrev pub served_in : Place Request Reply → List (Squad Request Reply)
  served_in away = []
  served_in (parted g b) = []
  served_in (queued g) = []
  served_in (called g) = []
  served_in (serves g) = []
  served_in (served g) = g ∷ []

  -- the group whose link is cut, and whose leader has yet to give the right on
  abbrev pub last_served : (ℕ → Place Request Reply) → Turn → List (Squad Request Reply)
  last_served place still = []
  last_served place (calls c) = []
  last_served place (held_by c) = []
  last_served place (passes c w) = served_in (place c)

  abbrev pub second_list_of : Two Request Reply → SecondList Request Reply
  second_list_of two = (two.groups ++ last_served two.place two.turn, two.lead, λ k. apart_in (two.place k))

  -- for c it is now g, and for the others it is as it was
  abbrev pub IsPut : ℕ → Option (Squad Request Reply) → (ℕ → Option (Squad Request Reply))
      → (ℕ → Option (Squad Request Reply)) → Type 0
  IsPut c g was now = (now c ≡ g) × ((k : ℕ) → k ≢ c → now k ≡ was k)

  -- c is the one that is ahead if its group is in the second list while it has the log, and else it isn't
  abbrev pub IsAhead : Back Request Reply → ℕ → Lead2 → Type 0
  IsAhead Away c lead = lead ≢ ahead c
  IsAhead (Parting g b) c lead = lead ≢ ahead c
  IsAhead (Joining g) c lead = lead ≡ ahead c
  IsAhead (Holding g) c lead = lead ≡ ahead c
  IsAhead (Queued g) c lead = lead ≢ ahead c
  IsAhead (Serving g walk) c lead = lead ≢ ahead c
  IsAhead (Passing g x) c lead = lead ≢ ahead c

  -- a leader gives the log on: its group, if it is in the second list, is no longer ahead
  abbrev pub after_handing_on : Back Request Reply → SecondList Request Reply → SecondList Request Reply
  after_handing_on Away p = p
  after_handing_on (Parting g b) p = p
  after_handing_on (Joining g) p = (p.0, level, p.2)
  after_handing_on (Holding g) p = (p.0, level, p.2)
  after_handing_on (Queued g) p = p
  after_handing_on (Serving g walk) p = p
  after_handing_on (Passing g x) p = p
