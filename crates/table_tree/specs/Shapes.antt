-- What contracts see of the whole tree.
use Rattle.std.specs.Prelude.{◌≡◌, ℕ, ◌+◌, ◌^◌, ◌≤◌, ◌<◌, Bool, true, false, List, [], ◌∷◌, drop, fold, length, Option, Some, None, refl}
use Rattle.std.specs.Coded.{Coded, code_by, coded×, coded_ℕ, coded_list}
use Rattle.table_rule.specs.declared.content.Version.{Version}
use Rattle.table_nodes.specs.Chains.{Chain, versions_of, AreKeyed}
use Rattle.table_nodes.specs.Codes.{chain_code, versions_code}
use Rattle.table_tree.specs.Pages.{Branch, IsDense}
use Rattle.table_tree.specs.Versions.{AreOrdered, IsNew, insert_version}

pub record Shape : Type 0 where
  -- the chains of the keys, in the order of the keys
  pub chains : List Chain
  -- the versions that wait for memory, the oldest insertion first
  pub late : List Version
  -- how many pages lie below one another, without the first
  pub height : ℕ

-- no versions
abbrev pub leaf : Shape
leaf = record { chains = []; late = []; height = 0 }

abbrev pub chains_in : Shape → List Chain
chains_in shape = shape.chains

-- versions in order, with others inserted one by one
abbrev pub with_versions : List Version → List Version → List Version
with_versions versions late = fold insert_version versions late

-- all versions, in order
abbrev pub versions_in : Shape → List Version
versions_in shape = with_versions (versions_of shape.chains) shape.late

-- each of the versions is new as it is inserted
abbrev pub AreNew : List Version → List Version → Type 0
AreNew versions [] = Unit {0}
AreNew versions (v ∷ late) = IsNew v versions × AreNew (insert_version versions v) late

-- a tree that is h pages high below its root has at least 16 ^ h - 1 keys
abbrev pub IsLow : Shape → Type 0
IsLow shape = 16 ^ shape.height ≤ length shape.chains + 1

-- Which versions wait after an insertion, of those that waited with the new one after them. The first two go into the
-- tree if there is memory for the pages that they need, and otherwise one of them or none.
abbrev pub AreLeft : Bool → List Version → List Version → Type 0
AreLeft true waited left = left ≡ drop 2 waited
AreLeft false waited left = (settled : ℕ) × (settled ≤ 1) × (left ≡ drop settled waited)

-- a tree that is one leaf, which has room
abbrev pub IsOpenLeaf : ℕ → List Chain → Type 0
IsOpenLeaf height chains = (height ≡ 0) × ((0 < length chains) × (length chains < 31))

-- what is in the root and below it, and how high that is
abbrev pub chains_below : Option Branch → List Chain
chains_below None = []
chains_below (Some b) = b.chains

abbrev pub height_below : Option Branch → ℕ
height_below None = 0
height_below (Some b) = b.height

abbrev pub HasDense : Option Branch → Type 0
HasDense None = Unit {0}
HasDense (Some b) = IsDense b

-- the versions in the tree are in order, and those that wait are new to them
pub record IsKept (root : Option Branch) (late : List Version) : Type 0 where
  pub ordered : AreOrdered (versions_of (chains_below root))
  pub keyed : AreKeyed (chains_below root)
  pub apart : AreNew (versions_of (chains_below root)) late
  pub dense : HasDense root

abbrev pub branch_code : Coded Branch
branch_code =
    code_by (List Chain × (ℕ × ℕ)) (coded× (coded_list chain_code) (coded× coded_ℕ coded_ℕ))
    (λ (b : Branch). (b.chains, (b.own, b.height))) (λ p. record { chains = p.0; own = p.1.0; height = p.1.1 })
    (λ _. refl)

abbrev pub shape_code : Coded Shape
shape_code =
    code_by (List Chain × (List Version × ℕ)) (coded× (coded_list chain_code) (coded× versions_code coded_ℕ))
    (λ (s : Shape). (s.chains, (s.late, s.height))) (λ p. record { chains = p.0; late = p.1.0; height = p.1.1 })
    (λ _. refl)
