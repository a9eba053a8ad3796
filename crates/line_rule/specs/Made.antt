-- How the groups of the second list were handled.
use Rattle.std.specs.Prelude.{◌≡◌, List, [], ◌∷◌, ◌++◌}
use Rattle.line_rule.specs.declared.view.Handling.{Handling}
use Rattle.line_rule.specs.declared.view.Squad.{Squad}
use Rattle.line_rule.specs.Events.{IsOfGroup}

module _ {Request Reply : Type 0} (given : List (Handling Request Reply) → List (Handling Request Reply)) where
  -- The group was handled at one time. `seen` is what was handled before it, and `made` are the handlings of its own
  -- leader and members, in the order of their links. What was given runs before the group is of `seen`, and what was
  -- given runs with it is of `seen` and `made`.
  pub record IsMade (g : Squad Request Reply) : Type 0 where
    pub seen : List (Handling Request Reply)
    pub made : List (Handling Request Reply)
    pub theirs : IsOfGroup g.own g.rest made
    pub from : g.from ≡ given seen
    pub to : g.to ≡ given (seen ++ made)

  abbrev pub AreMade : List (Squad Request Reply) → Type 0
  AreMade [] = Unit {0}
  AreMade (g ∷ gs) = IsMade g × AreMade gs
