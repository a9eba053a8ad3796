-- What the members of a group ask, and what they are replied, each with the client's number. A group is its leader and
-- its other members, the newest first.
use Rattle.std.specs.Prelude.{ℕ, List, [], ◌∷◌, ◌++◌}
use Rattle.line_rule.specs.declared.view.QueuedWriter.{QueuedWriter}

module _ {Request : Type 0} where
  -- the requests of a group, its leader's first
  abbrev pub asks : QueuedWriter Request → List (QueuedWriter Request) → List (ℕ × Request)
  asks own [] = (own.by, own.asked) ∷ []
  asks own (e ∷ es) = asks own es ++ (e.by, e.asked) ∷ []

  -- the replies to a group, its leader's first
  abbrev pub pays : {Reply : Type 0} → QueuedWriter Request → Reply → List (QueuedWriter Request × Reply)
      → List (ℕ × Reply)
  pays own p [] = (own.by, p) ∷ []
  pays own p (g ∷ gs) = pays own p gs ++ (g.0.by, g.1) ∷ []
