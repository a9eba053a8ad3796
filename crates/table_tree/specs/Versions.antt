-- The order in which a memtable keeps versions of keys: an older one stays when a newer one comes (RocksDB wiki,
-- "MemTable").
use Rattle.std.specs.Prelude.{◌≢◌, ◌<◌, ℕ, List}
use Rattle.std.specs.List.{AllByRecursion}
use Rattle.std.specs.List.Sorted.{IsStrictlySortedBy}
use Rattle.std.specs.Ordering.{nat_cmp, ordering_then}
use Rattle.std.specs.declared.cmp.Ordering.{Ordering}
use Rattle.std.specs.declared.cmp.Ordering.TheVariants.{Equal}
use Rattle.std.specs.BTreeSet.{insert_key}
use Rattle.model_base.specs.Map.{key_order}
use Rattle.table_rule.specs.declared.content.Version.{Version}

-- by key, and of one key the newer first
abbrev pub version_order : Version → Version → Ordering
version_order v w = ordering_then (key_order v.key w.key) (nat_cmp w.sequence v.sequence)

-- in this order, and no two of one key and one sequence
abbrev pub AreOrdered : List Version → Type 0
AreOrdered versions = IsStrictlySortedBy version_order versions

-- none of the versions has this one's key and sequence
abbrev pub IsNew : Version → List Version → Type 0
IsNew v versions = AllByRecursion (λ w. version_order v w ≢ Equal) versions

-- the versions with one more, at its place in the order
abbrev pub insert_version : List Version → Version → List Version
insert_version versions v = insert_key version_order versions v

-- all sequences are below this one
abbrev pub AreBelow : ℕ → List Version → Type 0
AreBelow sequence versions = AllByRecursion (λ (v : Version). v.sequence < sequence) versions
