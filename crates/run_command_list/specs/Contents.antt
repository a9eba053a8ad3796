-- When bytes are those of commands, or of keys.
use Rattle.std.specs.Prelude.{◌≡◌, ℕ, ◌<◌, ◌^◌, Bool, true, false, List, [], ◌∷◌, length, count_by, Some, None}
use Rattle.std.specs.List.{AllByRecursion}
use Rattle.model_base.specs.declared.key.Key.{Key}
use Rattle.model_base.specs.Map.{key_at}
use Rattle.model_base.specs.Batch.{value, deletion, single_deletion, log_data}
use Rattle.model_base.specs.Calls.{Command, add, clear, commit, get, many, scan, updates, stop, unstop, slow, unslow}
use Rattle.run_command_list.specs.Layout.{bytes_of_keys, body}

-- the words that stand without a family's number before them
abbrev pub words_of : Command → List (List ℕ)
words_of (add (value None key v)) = key ∷ v ∷ []
words_of (add (value (Some family) key v)) = v ∷ []
words_of (add (deletion None key)) = key ∷ []
words_of (add (deletion (Some family) key)) = []
words_of (add (single_deletion None key)) = key ∷ []
words_of (add (single_deletion (Some family) key)) = []
words_of (add (log_data text)) = text ∷ []
words_of clear = []
words_of (commit options) = []
words_of (get key) = []
words_of (many keys) = []
words_of (scan family lo hi) = hi ∷ []
words_of (updates n) = []
words_of stop = []
words_of unstop = []
words_of (slow rate) = []
words_of unslow = []

-- the keys that stand after their families' numbers
abbrev pub keys_of : Command → List Key
keys_of (add (value (Some family) key v)) = key_at family key ∷ []
keys_of (add (deletion (Some family) key)) = key_at family key ∷ []
keys_of (add (single_deletion (Some family) key)) = key_at family key ∷ []
keys_of (get key) = key ∷ []
keys_of (many keys) = keys
keys_of (scan family lo hi) = key_at family lo ∷ []
keys_of other = []

-- the rate, or the sequence, that stands in eight bytes
abbrev pub rate_of : Command → ℕ
rate_of (slow rate) = rate
rate_of (updates s) = s
rate_of other = 0

abbrev pub is_commit : Command → Bool
is_commit (commit options) = true
is_commit other = false

abbrev pub commits_in : List Command → ℕ
commits_in commands = count_by is_commit commands

-- the length of each word fits in four bytes
abbrev pub AreShort : List (List ℕ) → Type 0
AreShort ws = AllByRecursion (λ w. length w < 2 ^ 32) ws

-- the family's number and the length of the key fit in four bytes each
abbrev pub IsSmall : Key → Type 0
IsSmall key = (key.family < 2 ^ 32) × (length key.bytes < 2 ^ 32)

abbrev pub AreSmall : List Key → Type 0
AreSmall keys = AllByRecursion IsSmall keys

-- a command whose lengths and numbers fit in the bytes of its layout
pub record Fits (c : Command) : Type 0 where
  pub words : AreShort (words_of c)
  pub keys : AreSmall (keys_of c)
  pub count : length (keys_of c) < 2 ^ 32
  pub rate : rate_of c < 2 ^ 64

-- The bytes are those of `count` keys. No other keys have these bytes.
pub record AreKeys (bytes : List ℕ) (count : ℕ) : Type 0 where
  pub keys : List Key
  pub small : AreSmall keys
  pub counted : count ≡ length keys
  pub spelled : bytes ≡ bytes_of_keys keys

-- The bytes are those of commands. No other commands have these bytes.
pub record AreCommands (bytes : List ℕ) : Type 0 where
  pub commands : List Command
  pub fit : AllByRecursion Fits commands
  pub spelled : bytes ≡ body commands

-- The bytes are those of `len` commands, of which `commits` are commits.
pub record IsList (bytes : List ℕ) (len commits : ℕ) : Type 0 where
  pub are : AreCommands bytes
  pub len_is : len ≡ length are.commands
  pub commits_is : commits ≡ commits_in are.commands
