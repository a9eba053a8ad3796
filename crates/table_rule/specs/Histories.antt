-- Versions, groups and histories as plain lists. A published group is a write group whose batches have been put into
-- the memtable (RocksDB wiki, "MemTable").
use Rattle.std.specs.Prelude.{◌≡◌, ◌≢◌, ◌⊎◌, ◌↔◌, ℕ, suc, ◌+◌, ◌%◌, ◌<◌, ◌≤◌, Option, Some, None, List, [], ◌∷◌, ◌++◌, ◌==◌, if◌then◌else◌, length, map, filter}
use Rattle.std.specs.Int.{w32, to_le_bytes}
use Rattle.model_base.specs.Batch.{Record}
use Rattle.model_base.specs.Batch as model
use Rattle.model_base.specs.Checksum.{crc32c}
use Rattle.model_base.specs.declared.key.Key.{Key}
use Rattle.model_base.specs.Map.{Pairs, after_records, value_at}
use Rattle.table_rule.specs.declared.content.Version.{Version}
use Rattle.table_rule.specs.declared.content.MemberVersions.{MemberVersions}

-- a is one of them
abbrev pub In : {A : Type 0} → A → List A → Type 0
In a [] = ⊥
In a (x ∷ xs) = (x ≡ a) ⊎ In a xs

-- ys begins with xs
abbrev pub Begins : {A : Type 0} → List A → List A → Type 0
Begins {A = A} xs ys = (more : List A) × (ys ≡ xs ++ more)

-- the versions of a group, and of a list of groups
abbrev pub versions_in : List MemberVersions → List Version
versions_in [] = []
versions_in (p ∷ ps) = p.versions ++ versions_in ps

abbrev pub versions_of : List (List MemberVersions) → List Version
versions_of [] = []
versions_of (g ∷ gs) = versions_in g ++ versions_of gs

-- their sequences are one run without a hole, which begins right after `last`
abbrev pub Runs : ℕ → List Version → Type 0
Runs last [] = Unit {0}
Runs last (v ∷ vs) = (v.sequence ≡ suc last) × Runs (suc last) vs

-- the last sequence of a history above `start`
abbrev pub last_of : ℕ → List (List MemberVersions) → ℕ
last_of start gs = start + length (versions_of gs)

-- no part is this member's
abbrev pub Apart : ℕ → List MemberVersions → Type 0
Apart m [] = Unit {0}
Apart m (p ∷ ps) = (p.member ≢ m) × Apart m ps

-- the members are numbers from 1 to n, each once
abbrev pub Members : ℕ → List MemberVersions → Type 0
Members n [] = Unit {0}
Members n (p ∷ ps) = (0 < p.member) × (p.member ≤ n) × Apart p.member ps × Members n ps

-- each of the groups has a version
abbrev pub AreSome : List (List MemberVersions) → Type 0
AreSome [] = Unit {0}
AreSome (g ∷ gs) = (0 < length (versions_in g)) × AreSome gs

-- the groups that were published above `start`, the oldest first
abbrev pub IsHistory : ℕ → List (List MemberVersions) → Type 0
IsHistory start gs = Runs start (versions_of gs) × AreSome gs

-- The bytes that say in which shard a key is: its own, and in another family than the default one those of the family's
-- number before them.
abbrev pub shard_bytes : Key → List ℕ
shard_bytes key = (if key.family == 0 then [] else to_le_bytes w32 key.family) ++ key.bytes

-- the shard of a key, and of a version
abbrev pub shard_of_key : ℕ → Key → ℕ
shard_of_key shards key = crc32c (shard_bytes key) % shards

abbrev pub shard_of : ℕ → Version → ℕ
shard_of shards v = shard_of_key shards v.key

-- the versions of one shard
abbrev pub of_shard : ℕ → ℕ → List Version → List Version
of_shard shards j vs = filter (λ v. shard_of shards v == j) vs

-- the record that does to a map what the version does
abbrev pub record_writing : Key → Option (List ℕ) → Record
record_writing key (Some v) = model.value (Some key.family) key.bytes v
record_writing key None = model.deletion (Some key.family) key.bytes

abbrev pub record_of : Version → Record
record_of v = record_writing v.key v.value

abbrev pub map_of : List Version → Pairs
map_of vs = after_records [] (map record_of vs)

-- the versions of a map's pairs, each a value at the sequence n
abbrev pub versions_at : ℕ → Pairs → List Version
versions_at n pairs = map (λ p. record { key = p.0; value = Some p.1; sequence = n }) pairs

-- all versions that there are after a history over a base
abbrev pub standing : List Version → List (List MemberVersions) → List Version
standing base gs = base ++ versions_of gs

-- the map after a history over a base, and the value of a key there
abbrev pub map_after : List Version → List (List MemberVersions) → Pairs
map_after base gs = map_of (standing base gs)

abbrev pub value_in : List Version → Key → List (List MemberVersions) → Option (List ℕ)
value_in base key gs = value_at (map_after base gs) key

-- no sequence is below one that comes before it
abbrev pub AreRising : List Version → Type 0
AreRising [] = Unit {0}
AreRising (v ∷ vs) = ((w : Version) → In w vs → v.sequence ≤ w.sequence) × AreRising vs

-- A table that is opened at the sequence `start` may have these versions in its trees.
pub record IsBase (start : ℕ) (base : List Version) : Type 0 where
  pub rising : AreRising base
  pub below : (v : Version) → In v base → v.sequence ≤ start

-- `order` has those of the versions whose sequences are at most `at`, in an order in which they may have come.
pub record IsOrderUpTo (at : ℕ) (vs order : List Version) : Type 0 where
  pub same : (v : Version) → In v order ↔ (In v vs × (v.sequence ≤ at))
  pub rising : AreRising order

-- The published history is the list of all that was handled, cut into groups. Each thing handled made some versions,
-- or none where it was refused.
module _ {H : Type 0} (made : H → List Version) where
  abbrev pub made_by : List H → List Version
  made_by [] = []
  made_by (h ∷ hs) = made h ++ made_by hs

  abbrev pub Images : List H → List (List MemberVersions) → Type 0
  Images hs [] = made_by hs ≡ []
  Images hs (g ∷ gs) = (front : List H) × (rest : List H) × (hs ≡ front ++ rest) × (made_by front ≡ versions_in g)
      × Images rest gs
