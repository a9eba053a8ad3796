-- The versions of keys in chains, one chain for each key: first its newest version, then the older ones, the newer
-- first.
use Rattle.std.specs.Prelude.{◌≡◌, ◌<◌, nat_le, List, [], ◌∷◌, ◌++◌, if◌then◌else◌}
use Rattle.std.specs.List.{AllByRecursion}
use Rattle.std.specs.List.Sorted.{IsStrictlySortedBy}
use Rattle.std.specs.Ordering.{match_ordering}
use Rattle.std.specs.declared.cmp.Ordering.{Ordering}
use Rattle.model_base.specs.declared.key.Key.{Key}
use Rattle.model_base.specs.Map.{key_order}
use Rattle.table_rule.specs.declared.content.Version.{Version}

pub record Chain : Type 0 where
  pub newest : Version
  pub older : List Version

abbrev pub key_of : Chain → Key
key_of chain = chain.newest.key

abbrev pub chain_versions : Chain → List Version
chain_versions chain = chain.newest ∷ chain.older

-- the versions of chains, one chain after another
abbrev pub versions_of : List Chain → List Version
versions_of [] = []
versions_of (chain ∷ chains) = chain.newest ∷ (chain.older ++ versions_of chains)

abbrev pub HasOneKey : Chain → Type 0
HasOneKey chain = AllByRecursion (λ (v : Version). v.key ≡ key_of chain) chain.older

-- each version is newer than all later ones
abbrev pub Falls : List Version → Type 0
Falls [] = Unit {0}
Falls (v ∷ versions) = AllByRecursion (λ (w : Version). w.sequence < v.sequence) versions × Falls versions

-- the older versions of each chain, the newer first
abbrev pub AreFalling : List Chain → Type 0
AreFalling chains = AllByRecursion (λ (chain : Chain). Falls chain.older) chains

-- chains in the order of their keys
abbrev pub chain_order : Chain → Chain → Ordering
chain_order chain other = key_order (key_of chain) (key_of other)

abbrev pub AreSorted : List Chain → Type 0
AreSorted chains = IsStrictlySortedBy chain_order chains

-- Each chain has the versions of one key, and no two have the same key.
pub record AreKeyed (chains : List Chain) : Type 0 where
  pub sorted : AreSorted chains
  pub each : AllByRecursion HasOneKey chains

-- a version, inserted after those that are newer
abbrev pub insert_older : List Version → Version → List Version
insert_older [] v = v ∷ []
insert_older (w ∷ older) v = if nat_le w.sequence v.sequence then v ∷ w ∷ older else w ∷ insert_older older v

-- the chain with one more version
abbrev pub with_version : Chain → Version → Chain
with_version chain v =
    if nat_le v.sequence chain.newest.sequence then record chain { older = insert_older chain.older v }
    else record { newest = v; older = chain_versions chain }

abbrev pub alone : Version → Chain
alone v = record { newest = v; older = [] }

-- one more version: in the chain of its key, or at its place as a chain of its own
abbrev pub insert_in_chains : List Chain → Version → List Chain
insert_in_chains [] v = alone v ∷ []
insert_in_chains (chain ∷ chains) v =
    match_ordering (key_order v.key (key_of chain)) (alone v ∷ chain ∷ chains) (with_version chain v ∷ chains)
    (chain ∷ insert_in_chains chains v)
