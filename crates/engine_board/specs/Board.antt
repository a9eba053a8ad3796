-- Two words that only rise, and what looks at them are known to have in common.
use Rattle.std.specs.Prelude.{◌≡◌, ◌⊎◌, ℕ, ◌<◌, ◌≤◌, max, List, [], ◌∷◌, ◌++◌}
use mathlib.Core.Option.{some}
use lib.ListN.{get_elem?}
use Rattle.atomic_table.specs.Table.{State, Me, Step}
use Rattle.engine_board.specs.declared.rule.Announced.{Announced}
use Rattle.engine_board.specs.declared.rule.Gathered.{Gathered}
use Rattle.engine_board.specs.declared.rule.BoardView.{BoardView}

-- it is one of the list's
abbrev pub In : {A : Type 0} → A → List A → Type 0
In a [] = ⊥
In a (x ∷ xs) = (x ≡ a) ⊎ In a xs

abbrev pub newcomer : BoardView
newcomer = record { raised = 0; marked = 0; announced = []; gathered = [] }

-- what two clients know
abbrev pub both : BoardView → BoardView → BoardView
both v w = record {
  raised = max v.raised w.raised;
  marked = max v.marked w.marked;
  announced = v.announced ++ w.announced;
  gathered = v.gathered ++ w.gathered;
}

-- what the view knows isn't above the words
pub record IsUpTo (mark said : ℕ) (v : BoardView) : Type 0 where
  pub raised : v.raised ≤ said
  pub marked : v.marked ≤ mark
  pub announced : (a : Announced) → In a v.announced → (a.mark ≤ mark) × (a.said ≤ said)
  pub gathered : (g : Gathered) → In g v.gathered → g.mark ≤ mark

-- a look at `said` that came after a mark which the other look didn't find has found what was said before that one
abbrev pub AreMet : List Announced → List Gathered → Type 0
AreMet announced gathered =
    (a : Announced) (g : Gathered) → In a announced → In g gathered → a.mark < g.mark → a.said ≤ g.found

-- the rule
pub record Kept (s : State (Unit {0}) BoardView) : Type 0 where
  pub mark : ℕ
  pub said : ℕ
  pub words : s.words ≡ mark ∷ said ∷ []
  pub each : (i : ℕ) (v : BoardView) → get_elem? s.views i ≡ some v → IsUpTo mark said v
  pub met : (i j : ℕ) (v w : BoardView) → get_elem? s.views i ≡ some v → get_elem? s.views j ≡ some w
      → AreMet v.announced w.gathered

-- What each step shows: the step, the seat before, the word that it found, and the seat after

abbrev pub Seated : Type 0
Seated = Me (Unit {0}) BoardView

abbrev pub HasRaised : Step (Unit {0}) → Seated → ℕ → Seated → Type 0
HasRaised t v found w = w ≡ (record v.0 { raised = max v.0.raised t.first }, v.1)

abbrev pub HasAnnounced : Step (Unit {0}) → Seated → ℕ → Seated → Type 0
HasAnnounced t v found w =
    w ≡ (record v.0 { announced = v.0.announced ++ record { mark = found; said = v.0.raised } ∷ [] }, v.1)

abbrev pub HasMarked : Step (Unit {0}) → Seated → ℕ → Seated → Type 0
HasMarked t v found w = w ≡ (record v.0 { marked = max v.0.marked t.first }, v.1)

abbrev pub HasGathered : Step (Unit {0}) → Seated → ℕ → Seated → Type 0
HasGathered t v found w =
    w ≡ (record v.0 { gathered = v.0.gathered ++ record { mark = v.0.marked; found = found } ∷ [] }, v.1)
