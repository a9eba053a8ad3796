-- The rows of a range, from chains in order.
use Rattle.std.specs.Prelude.{ℕ, Bool, not, ◌&&◌, List, [], ◌∷◌, ◌++◌, map, filter, Option, Some, None}
use Rattle.std.specs.Ordering.{is_lt}
use Rattle.model_base.specs.declared.key.Key.{Key}
use Rattle.model_base.specs.Map.{Pairs, Rows, key_order}
use Rattle.table_nodes.specs.Chains.{Chain, key_of, chain_versions}
use Rattle.table_nodes.specs.Newest.{first_up_to, said}
pub use Rattle.table_nodes.specs.Nodes.{at_key}

-- whether a key is from lo on, and below hi
abbrev pub is_between : Key → Key → Key → Bool
is_between lo hi key = not (is_lt (key_order key lo)) && is_lt (key_order key hi)

-- the chains of such keys
abbrev pub between : Key → Key → List Chain → List Chain
between lo hi chains = filter (λ (chain : Chain). is_between lo hi (key_of chain)) chains

-- the pair of a key with its value, if it has one
abbrev pub pair_of : Key → Option (List ℕ) → Pairs
pair_of key None = []
pair_of key (Some value) = (key, value) ∷ []

-- the pairs of chains at a sequence
abbrev pub pairs_at : ℕ → List Chain → Pairs
pairs_at at [] = []
pairs_at at (chain ∷ chains) =
    pair_of (key_of chain) (said (first_up_to at (chain_versions chain))) ++ pairs_at at chains

-- pairs as rows, which leave out their family
abbrev pub rows_in : Pairs → Rows
rows_in pairs = map (λ p. (p.0.bytes, p.1)) pairs
