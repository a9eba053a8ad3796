-- The bytes of commands, as the table at the head of `src/lib.rt` has them.
use Rattle.std.specs.Prelude.{ℕ, List, [], ◌∷◌, ◌++◌, length, flat_map, Some, None}
use Rattle.std.specs.Int.{w32, w64, to_le_bytes}
use Rattle.model_base.specs.OptionBits.{option_bits}
use Rattle.model_base.specs.declared.key.Key.{Key}
use Rattle.model_base.specs.Map.{key_at}
use Rattle.model_base.specs.Batch.{value, deletion, single_deletion, log_data}
use Rattle.model_base.specs.Calls.{Command, add, clear, commit, get, many, scan, updates, stop, unstop, slow, unslow}

-- a word after its length
abbrev pub bytes_of_word : List ℕ → List ℕ
bytes_of_word bytes = to_le_bytes w32 (length bytes) ++ bytes

-- a key after its family's number
abbrev pub bytes_of_key : Key → List ℕ
bytes_of_key key = to_le_bytes w32 key.family ++ bytes_of_word key.bytes

abbrev pub bytes_of_keys : List Key → List ℕ
bytes_of_keys keys = flat_map bytes_of_key keys

-- a tag, and what comes after it
abbrev pub bytes_of : Command → List ℕ
bytes_of (add (value None key v)) = 1 ∷ (bytes_of_word key ++ bytes_of_word v)
bytes_of (add (deletion None key)) = 2 ∷ bytes_of_word key
bytes_of (add (single_deletion None key)) = 3 ∷ bytes_of_word key
bytes_of (add (value (Some family) key v)) = 14 ∷ (bytes_of_key (key_at family key) ++ bytes_of_word v)
bytes_of (add (deletion (Some family) key)) = 15 ∷ bytes_of_key (key_at family key)
bytes_of (add (single_deletion (Some family) key)) = 16 ∷ bytes_of_key (key_at family key)
bytes_of (add (log_data text)) = 4 ∷ bytes_of_word text
bytes_of clear = 5 ∷ []
bytes_of (commit options) = 6 ∷ option_bits options ∷ []
bytes_of (get key) = 7 ∷ bytes_of_key key
bytes_of (many keys) = 8 ∷ (to_le_bytes w32 (length keys) ++ bytes_of_keys keys)
bytes_of (scan family lo hi) = 9 ∷ (bytes_of_key (key_at family lo) ++ bytes_of_word hi)
bytes_of (updates s) = 17 ∷ to_le_bytes w64 s
bytes_of stop = 10 ∷ []
bytes_of unstop = 11 ∷ []
bytes_of (slow rate) = 12 ∷ to_le_bytes w64 rate
bytes_of unslow = 13 ∷ []

-- commands one after another
abbrev pub body : List Command → List ℕ
body commands = flat_map bytes_of commands
