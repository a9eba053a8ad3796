-- Where a key is among entries in the order of their keys.
use Rattle.std.specs.Prelude.{◌≡◌, ℕ, ◌<◌, ◌≤◌, List, take, drop, get_or, length}
use Rattle.std.specs.List.{AllByRecursion}
use Rattle.std.specs.declared.cmp.Ordering.TheVariants.{Less, Equal, Greater}
use Rattle.model_base.specs.declared.key.Key.{Key}
use Rattle.model_base.specs.Map.{key_order}
use Rattle.table_nodes.specs.Chains.{Chain, key_of}

-- the family of a chain's key is between these
abbrev pub IsOfFamilies : ℕ → ℕ → Chain → Type 0
IsOfFamilies lowest greatest chain = (lowest ≤ (key_of chain).family) × ((key_of chain).family ≤ greatest)

-- all chains have keys below this one
abbrev pub AreUnder : Key → List Chain → Type 0
AreUnder key chains = AllByRecursion (λ (c : Chain). key_order key (key_of c) ≡ Greater) chains

-- all chains have keys above this one
abbrev pub AreOver : Key → List Chain → Type 0
AreOver key chains = AllByRecursion (λ (c : Chain). key_order key (key_of c) ≡ Less) chains

-- it is the key of this entry
pub record IsEntry (key : Key) (entries : List Chain) (at : ℕ) : Type 0 where
  pub within : at < length entries
  pub same : (d : Chain) → key_order key (key_of (get_or entries at d)) ≡ Equal

-- it is the key of none, and lies before this one
pub record IsPlace (key : Key) (entries : List Chain) (at : ℕ) : Type 0 where
  pub within : at ≤ length entries
  pub under : AreUnder key (take at entries)
  pub over : AreOver key (drop at entries)
