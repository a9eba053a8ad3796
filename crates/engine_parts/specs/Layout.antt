-- What a leader has laid out.
use Rattle.std.specs.Prelude.{◌≡◌, ℕ, ◌≤◌, List, [], ◌∷◌, vec_capacity, ⊤}
use Rattle.engine_parts.specs.declared.layout.Layout.{Layout}

-- no numberings, batches or parts are laid out, and there is room for the parts of this number of clients
abbrev pub IsClear : ℕ → Layout → Type 0
IsClear clients layout = (layout.numberings.items ≡ []) × (layout.batches.items ≡ []) × (layout.parts.parts ≡ [])
    × (layout.parts.clients ≡ clients)

-- no numberings or batches are laid out (parts may be), and all lists have room for this number of clients
pub record IsLaid (clients : ℕ) (layout : Layout) : Type 0 where
  pub no_numberings : layout.numberings.items ≡ []
  pub no_batches : layout.batches.items ≡ []
  pub clients_are : layout.parts.clients ≡ clients
  pub numberings : clients ≤ vec_capacity layout.numberings
  pub batches : clients ≤ vec_capacity layout.batches
  pub members : clients ≤ vec_capacity layout.members

-- no numberings, batches or parts are laid out, and all lists have room for this number of clients
pub record IsRoomy (clients : ℕ) (layout : Layout) : Type 0 where
  pub clear : IsClear clients layout
  pub numberings : clients ≤ vec_capacity layout.numberings
  pub batches : clients ≤ vec_capacity layout.batches
  pub members : clients ≤ vec_capacity layout.members

abbrev pub AreRoomy : ℕ → List Layout → Type 0
AreRoomy clients [] = ⊤
AreRoomy clients (x ∷ layouts) = IsRoomy clients x × AreRoomy clients layouts
