-- The newest version of a key up to a sequence.
use Rattle.std.specs.Prelude.{ℕ, List, [], ◌∷◌, Option, Some, None, if◌then◌else◌}
use Rattle.std.specs.BTreeMap.{is_at}
use Rattle.model_base.specs.declared.key.Key.{Key}
use Rattle.model_base.specs.Map.{key_order}
use Rattle.table_rule.specs.declared.content.Version.{Version}
use Rattle.table_nodes.specs.Chains.{Chain, key_of, chain_versions}
use Rattle.table_nodes.specs.Newest.{is_seen, first_up_to}
pub use Rattle.table_nodes.specs.Newest.{newest_among}

-- the first version that `is_seen` takes; where of each key the newer come first, that is the newest
abbrev pub newest_version : Key → ℕ → List Version → Option Version
newest_version key at [] = None
newest_version key at (v ∷ versions) = if is_seen key at v then Some v else newest_version key at versions

-- the chain of a key
abbrev pub chain_at : Key → List Chain → Option Chain
chain_at key [] = None
chain_at key (chain ∷ chains) = if is_at (key_order key) (key_of chain) then Some chain else chain_at key chains

-- the newest version of a key's chain up to a sequence
abbrev pub newest_in : ℕ → Option Chain → Option Version
newest_in at None = None
newest_in at (Some chain) = first_up_to at (chain_versions chain)
