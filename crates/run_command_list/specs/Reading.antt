-- What is read at the front of bytes, with the bytes after it.
use Rattle.std.specs.Prelude.{ℕ, zero, suc, List, [], ◌∷◌, length, take, drop, Option, Some, None, option_and_then, nat_lt, ◌==◌, if◌then◌else◌}
use Rattle.std.specs.Int.{w32, w64, from_le_bytes}
use Rattle.model_base.specs.OptionBits.{options_of_bits}
use Rattle.model_base.specs.declared.key.Key.{Key}
use Rattle.model_base.specs.Map.{key_at}
use Rattle.model_base.specs.Batch.{value, deletion, single_deletion, log_data}
use Rattle.model_base.specs.Calls.{Command, add, clear, commit, get, many, scan, updates, stop, unstop, slow, unslow}

infixl 10 ◌>>=◌
abbrev pub ◌>>=◌ : {A B : Type 0} → Option A → (A → Option B) → Option B
o >>= f = option_and_then f o

abbrev pub Read : Type 0 → Type 0
Read A = Option (A × List ℕ)

unfoldable pub read_byte : List ℕ → Read ℕ
read_byte [] = None
read_byte (b ∷ bytes) = Some (b, bytes)

-- a number in four bytes, and one in eight
unfoldable pub read_fixed32 : List ℕ → Read ℕ
read_fixed32 bytes =
    if nat_lt (length bytes) 4 then None else Some (from_le_bytes w32 (take 4 bytes), drop 4 bytes)

unfoldable pub read_fixed64 : List ℕ → Read ℕ
read_fixed64 bytes =
    if nat_lt (length bytes) 8 then None else Some (from_le_bytes w64 (take 8 bytes), drop 8 bytes)

abbrev pub read_front : ℕ → List ℕ → Read (List ℕ)
read_front n bytes = if nat_lt (length bytes) n then None else Some (take n bytes, drop n bytes)

unfoldable pub read_word : List ℕ → Read (List ℕ)
read_word bytes = do
  p ← read_fixed32 bytes
  read_front p.0 p.1

-- a family's number, and a key of it
unfoldable pub read_key : List ℕ → Read Key
read_key bytes = do
  p ← read_fixed32 bytes
  q ← read_word p.1
  Some (key_at p.0 q.0, q.1)

-- this many keys
unfoldable pub read_keys : ℕ → List ℕ → Read (List Key)
read_keys zero bytes = Some ([], bytes)
read_keys (suc n) bytes = do
  p ← read_key bytes
  q ← read_keys n p.1
  Some (p.0 ∷ q.0, q.1)

-- what comes after the tag of a command
unfoldable pub one_word : (List ℕ → Command) → List ℕ → Read Command
one_word made bytes = do
  p ← read_word bytes
  Some (made p.0, p.1)

unfoldable pub two_words : (List ℕ → List ℕ → Command) → List ℕ → Read Command
two_words made bytes = do
  p ← read_word bytes
  q ← read_word p.1
  Some (made p.0 q.0, q.1)

unfoldable pub one_key : (Key → Command) → List ℕ → Read Command
one_key made bytes = do
  p ← read_key bytes
  Some (made p.0, p.1)

unfoldable pub key_and_word : (Key → List ℕ → Command) → List ℕ → Read Command
key_and_word made bytes = do
  p ← read_key bytes
  q ← read_word p.1
  Some (made p.0 q.0, q.1)

unfoldable pub some_flags : List ℕ → Read Command
some_flags bytes = do
  p ← read_byte bytes
  Some (commit (options_of_bits p.0), p.1)

unfoldable pub many_keys : List ℕ → Read Command
many_keys bytes = do
  p ← read_fixed32 bytes
  q ← read_keys p.0 p.1
  Some (many q.0, q.1)

unfoldable pub some_rate : List ℕ → Read Command
some_rate bytes = do
  p ← read_fixed64 bytes
  Some (slow p.0, p.1)

unfoldable pub some_sequence : List ℕ → Read Command
some_sequence bytes = do
  p ← read_fixed64 bytes
  Some (updates p.0, p.1)

-- a command, from the bytes after its tag
abbrev pub read_behind : ℕ → List ℕ → Read Command
read_behind tag bytes =
    if tag == 1 then two_words (λ k v. add (value None k v)) bytes
    else if tag == 2 then one_word (λ k. add (deletion None k)) bytes
    else if tag == 3 then one_word (λ k. add (single_deletion None k)) bytes
    else if tag == 4 then one_word (λ t. add (log_data t)) bytes
    else if tag == 5 then Some (clear, bytes)
    else if tag == 6 then some_flags bytes
    else if tag == 7 then one_key get bytes
    else if tag == 8 then many_keys bytes
    else if tag == 9 then key_and_word (λ k hi. scan k.family k.bytes hi) bytes
    else if tag == 10 then Some (stop, bytes)
    else if tag == 11 then Some (unstop, bytes)
    else if tag == 12 then some_rate bytes
    else if tag == 13 then Some (unslow, bytes)
    else if tag == 14 then key_and_word (λ k v. add (value (Some k.family) k.bytes v)) bytes
    else if tag == 15 then one_key (λ k. add (deletion (Some k.family) k.bytes)) bytes
    else if tag == 16 then one_key (λ k. add (single_deletion (Some k.family) k.bytes)) bytes
    else if tag == 17 then some_sequence bytes
    else None

unfoldable pub read_command : List ℕ → Read Command
read_command bytes = do
  p ← read_byte bytes
  read_behind p.0 p.1
