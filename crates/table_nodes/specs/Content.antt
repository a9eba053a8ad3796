-- What a version says, by its bytes in place or on the heap.
use Rattle.std.specs.Prelude.{ℕ, ◌≤◌, Bool, List, length, take, drop, Option, Some, None, if◌then◌else◌}
use Rattle.model_base.specs.declared.key.Key.{Key}
use Rattle.table_nodes.specs.declared.content.Place.{Place}
use Rattle.table_nodes.specs.declared.content.Place.TheVariants.{Short, Long}

-- a key, and the value that it gets, if it gets one
pub record KeyValue : Type 0 where
  pub key : Key
  pub value : Option (List ℕ)

-- bytes of which the first are a key's, and the others those of its value, if it has one
abbrev pub parted : ℕ → ℕ → Bool → List ℕ → KeyValue
parted family key_len has_value bytes = record {
  key = record { family = family; bytes = take key_len bytes };
  value = if has_value then Some (drop key_len bytes) else None;
}

abbrev pub content_of : Place → KeyValue
content_of (Short has_value key_len len family bytes) = parted family key_len has_value (take len bytes)
content_of (Long has_value family key_len bytes) = parted family key_len has_value bytes.items

-- the key's bytes are among those that are there, and in place are at most as many as fit there
abbrev pub HasBytes : Place → Type 0
HasBytes (Short has_value key_len len family bytes) = (key_len ≤ len) × (len ≤ 32)
HasBytes (Long has_value family key_len bytes) = key_len ≤ length bytes.items
