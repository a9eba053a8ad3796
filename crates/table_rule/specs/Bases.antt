-- The versions that a base shows.
use Rattle.std.specs.Prelude.{List, [], ◌∷◌}
use Rattle.table_rule.specs.declared.content.Version.{Version}

-- the view of its one seat; no versions where it has no seat
abbrev pub first_view : List (List Version) → List Version
first_view [] = []
first_view (versions ∷ views) = versions
