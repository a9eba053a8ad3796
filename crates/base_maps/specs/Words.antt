-- The bytes of pairs, each as its key after its length and its value after its length, and what is read of them.
use Rattle.std.proofs.Common.{◌≡◌, ℕ, ◌<◌, ◌^◌, List, ◌++◌, length, take, drop, refl, arith, append_assoc, length-append}
use Rattle.std.specs.Prelude.{flat_map, Option, Some, None, option_and_then, nat_lt, if◌then◌else◌}
use Rattle.std.proofs.Math.Seq.{take-append_seam, drop-append_seam}
use Rattle.std.proofs.lemmas.Bool.{le-ltb}
use Rattle.std.proofs.lemmas.Nat.{from_le_bytes-to_le_bytes_4}
use Rattle.std.specs.Int.{w32, to_le_bytes, from_le_bytes}
use Rattle.model_base.specs.Map.{Rows}

-- a word after its length
abbrev pub bytes_of_word : List ℕ → List ℕ
bytes_of_word word = to_le_bytes w32 (length word) ++ word

-- a key, and then its value
abbrev pub bytes_of_pair : List ℕ × List ℕ → List ℕ
bytes_of_pair p = bytes_of_word p.0 ++ bytes_of_word p.1

-- pairs one after another
abbrev pub bytes_of_pairs : Rows → List ℕ
bytes_of_pairs rows = flat_map bytes_of_pair rows

-- the lengths of a key and of its value fit in four bytes each
abbrev pub IsShort : List ℕ × List ℕ → Type 0
IsShort p = (length p.0 < 2 ^ 32) × (length p.1 < 2 ^ 32)

infixl 10 ◌>>=◌
abbrev pub ◌>>=◌ : {A B : Type 0} → Option A → (A → Option B) → Option B
o >>= f = option_and_then f o

-- what is read at the front of bytes, with the bytes after it
abbrev pub Read : Type 0 → Type 0
Read A = Option (A × List ℕ)

unfoldable pub read_len : List ℕ → Read ℕ
read_len bytes =
    if nat_lt (length bytes) 4 then None else Some (from_le_bytes w32 (take 4 bytes), drop 4 bytes)

abbrev pub read_front : ℕ → List ℕ → Read (List ℕ)
read_front n bytes = if nat_lt (length bytes) n then None else Some (take n bytes, drop n bytes)

unfoldable pub read_word : List ℕ → Read (List ℕ)
read_word bytes = do
  p ← read_len bytes
  read_front p.0 p.1

unfoldable pub read_pair : List ℕ → Read (List ℕ × List ℕ)
read_pair bytes = do
  p ← read_word bytes
  q ← read_word p.1
  Some ((p.0, q.0), q.1)

-- ---- what is put at the front of bytes is read back from there

pub len_back : (n : ℕ) (x : List ℕ) → n < 2 ^ 32 → read_len (to_le_bytes w32 n ++ x) ≡ Some (n, x)
unfolding read_len
len_back n x fits =
    rw (
      le-ltb (length (to_le_bytes w32 n ++ x)) 4 (omega (arith, length-append (to_le_bytes w32 n) x)),
      from_le_bytes-to_le_bytes_4 n fits,
    ) refl

pub front_back : (w x : List ℕ) → read_front (length w) (w ++ x) ≡ Some (w, x)
front_back w x =
    rw (
      le-ltb (length (w ++ x)) (length w) (omega (arith, length-append w x)),
      take-append_seam w x,
      drop-append_seam w x,
    ) refl

pub word_back : (w x : List ℕ) → length w < 2 ^ 32 → read_word (bytes_of_word w ++ x) ≡ Some (w, x)
unfolding read_word
word_back w x short =
    rw (append_assoc (to_le_bytes w32 (length w)) w x, len_back (length w) (w ++ x) short) (front_back w x)

pub pair_back : (p : List ℕ × List ℕ) (x : List ℕ) → IsShort p → read_pair (bytes_of_pair p ++ x) ≡ Some (p, x)
unfolding read_pair
pair_back p x short =
    rw (
      append_assoc (bytes_of_word p.0) (bytes_of_word p.1) x,
      word_back p.0 (bytes_of_word p.1 ++ x) short.0,
      word_back p.1 x short.1,
    ) refl
