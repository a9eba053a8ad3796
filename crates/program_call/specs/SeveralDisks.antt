-- A call over several disks, of which it uses some.
use Rattle.std.specs.Prelude.{◌≡◌, ℕ, List, ◌∷◌, take, drop}

-- this holds of the first disk before and after, and the others are as they were
abbrev pub OverFirst : {D : Type 0} → List D → List D → (D → D → Type 0) → Type 0
OverFirst (old ∷ olds) (new ∷ news) P = P old new × (news ≡ olds)
OverFirst olds news P = ⊥

-- this holds of so many disks, the first ones, before and after, and the others are as they were
abbrev pub OverFront : {D : Type 0} → ℕ → List D → List D → (List D → List D → Type 0) → Type 0
OverFront used olds news P = P (take used olds) (take used news) × (drop used news ≡ drop used olds)
