-- The newest version of a key up to a sequence.
use Rattle.std.specs.Prelude.{ℕ, Bool, nat_le, nat_lt, ◌&&◌, List, [], ◌∷◌, fold, Option, Some, None, if◌then◌else◌}
use Rattle.std.specs.BTreeMap.{is_at}
use Rattle.model_base.specs.declared.key.Key.{Key}
use Rattle.model_base.specs.Map.{key_order}
use Rattle.table_rule.specs.declared.content.Version.{Version}

-- the first version that isn't above the sequence, where all versions are of one key and the newer come first
abbrev pub first_up_to : ℕ → List Version → Option Version
first_up_to at [] = None
first_up_to at (v ∷ versions) = if nat_le v.sequence at then Some v else first_up_to at versions

-- what a version that was found says of its key: none is like a deletion
abbrev pub said : Option Version → Option (List ℕ)
said None = None
said (Some v) = v.value

-- whether a version is of the key, and not above the sequence
abbrev pub is_seen : Key → ℕ → Version → Bool
is_seen key at v = is_at (key_order key) v.key && nat_le v.sequence at

-- the newer of two versions, where there are two
abbrev pub newer_of : Option Version → Version → Option Version
newer_of None v = Some v
newer_of (Some w) v = if nat_lt w.sequence v.sequence then Some v else Some w

-- one more version is looked at
abbrev pub newest_with : Key → ℕ → Option Version → Version → Option Version
newest_with key at found v = if is_seen key at v then newer_of found v else found

-- the newest of a version that was found and of others
abbrev pub newest_among : Key → ℕ → Option Version → List Version → Option Version
newest_among key at found versions = fold (newest_with key at) found versions
