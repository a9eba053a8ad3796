-- What is put at the front of bytes is read back from there.
use Rattle.std.proofs.Common.{◌≡◌, ℕ, ◌<◌, ◌^◌, Bool, true, false, List, [], ◌∷◌, ◌++◌, length, refl, ap, arith, append_assoc, length-append}
use Rattle.std.specs.Prelude.{Some, None}
use Rattle.std.proofs.Math.Seq.{take-append_seam, drop-append_seam}
use Rattle.std.proofs.lemmas.Bool.{le-ltb}
use Rattle.std.proofs.lemmas.Nat.{from_le_bytes-to_le_bytes_4, from_le_bytes-to_le_bytes_8}
use Rattle.std.specs.Int.{w32, w64, to_le_bytes}
use Rattle.model_base.specs.declared.write.WriteOptions.{WriteOptions}
use Rattle.model_base.specs.declared.key.Key.{Key}
use Rattle.model_base.specs.Map.{key_at}
use Rattle.model_base.specs.Batch.{value, deletion, single_deletion, log_data}
use Rattle.model_base.specs.Calls.{Command, add, clear, commit, get, many, scan, updates, stop, unstop, slow, unslow}
use Rattle.model_base.specs.OptionBits.{option_bits, options_of_bits}
use Rattle.run_command_list.specs.Layout.{bytes_of_word, bytes_of_key, bytes_of_keys, bytes_of}
use Rattle.run_command_list.specs.Contents.{IsSmall, AreSmall, Fits}
use Rattle.run_command_list.specs.Reading.{read_byte, read_fixed32, read_fixed64, read_front, read_word, read_key, read_keys, one_word, two_words, one_key, key_and_word, some_flags, many_keys, some_rate, some_sequence, read_command}

pub fixed32_back : (n : ℕ) (x : List ℕ) → n < 2 ^ 32 → read_fixed32 (to_le_bytes w32 n ++ x) ≡ Some (n, x)
unfolding read_fixed32
fixed32_back n x fits =
    rw (
      le-ltb (length (to_le_bytes w32 n ++ x)) 4 (omega (arith, length-append (to_le_bytes w32 n) x)),
      from_le_bytes-to_le_bytes_4 n fits,
    ) refl

pub fixed64_back : (n : ℕ) (x : List ℕ) → n < 2 ^ 64 → read_fixed64 (to_le_bytes w64 n ++ x) ≡ Some (n, x)
unfolding read_fixed64
fixed64_back n x fits =
    rw (
      le-ltb (length (to_le_bytes w64 n ++ x)) 8 (omega (arith, length-append (to_le_bytes w64 n) x)),
      from_le_bytes-to_le_bytes_8 n fits,
    ) refl

pub front_back : (w x : List ℕ) → read_front (length w) (w ++ x) ≡ Some (w, x)
front_back w x =
    rw (
      le-ltb (length (w ++ x)) (length w) (omega (arith, length-append w x)),
      take-append_seam w x,
      drop-append_seam w x,
    ) refl

pub word_back : (w x : List ℕ) → length w < 2 ^ 32 → read_word (bytes_of_word w ++ x) ≡ Some (w, x)
unfolding read_word
word_back w x short =
    rw (append_assoc (to_le_bytes w32 (length w)) w x, fixed32_back (length w) (w ++ x) short) (front_back w x)

pub key_back : (key : Key) (x : List ℕ) → IsSmall key → read_key (bytes_of_key key ++ x) ≡ Some (key, x)
unfolding read_key
key_back key x small =
    rw (
      append_assoc (to_le_bytes w32 key.family) (bytes_of_word key.bytes) x,
      fixed32_back key.family (bytes_of_word key.bytes ++ x) small.0,
      word_back key.bytes x small.1,
    ) refl

pub keys_back : (ks : List Key) (x : List ℕ) → AreSmall ks
    → read_keys (length ks) (bytes_of_keys ks ++ x) ≡ Some (ks, x)
unfolding read_keys
keys_back [] x small = refl
keys_back (k ∷ ks) x small =
    rw (
      append_assoc (bytes_of_key k) (bytes_of_keys ks) x,
      key_back k (bytes_of_keys ks ++ x) small.0,
      keys_back ks x small.1,
    ) refl

pub flags_back : (o : WriteOptions) → options_of_bits (option_bits o) ≡ o
flags_back o = go o.sync o.no_log o.no_slowdown where
  go : (a b c : Bool) → options_of_bits (option_bits (record { sync = a; no_log = b; no_slowdown = c }))
      ≡ record { sync = a; no_log = b; no_slowdown = c }
  go true true true = refl
  go true true false = refl
  go true false true = refl
  go true false false = refl
  go false true true = refl
  go false true false = refl
  go false false true = refl
  go false false false = refl

one_back : (made : List ℕ → Command) (w x : List ℕ) → length w < 2 ^ 32
    → one_word made (bytes_of_word w ++ x) ≡ Some (made w, x)
unfolding one_word
one_back made w x short = rw (word_back w x short) refl

two_back : (made : List ℕ → List ℕ → Command) (v w x : List ℕ) → length v < 2 ^ 32 → length w < 2 ^ 32
    → two_words made ((bytes_of_word v ++ bytes_of_word w) ++ x) ≡ Some (made v w, x)
unfolding two_words
two_back made v w x short_v short_w =
    rw (
      append_assoc (bytes_of_word v) (bytes_of_word w) x,
      word_back v (bytes_of_word w ++ x) short_v,
      word_back w x short_w,
    ) refl

one_key_back : (made : Key → Command) (k : Key) (x : List ℕ) → IsSmall k
    → one_key made (bytes_of_key k ++ x) ≡ Some (made k, x)
unfolding one_key
one_key_back made k x small = rw (key_back k x small) refl

key_and_word_back : (made : Key → List ℕ → Command) (k : Key) (w x : List ℕ) → IsSmall k → length w < 2 ^ 32
    → key_and_word made ((bytes_of_key k ++ bytes_of_word w) ++ x) ≡ Some (made k w, x)
unfolding key_and_word
key_and_word_back made k w x small short =
    rw (
      append_assoc (bytes_of_key k) (bytes_of_word w) x,
      key_back k (bytes_of_word w ++ x) small,
      word_back w x short,
    ) refl

many_back : (ks : List Key) (x : List ℕ) → length ks < 2 ^ 32 → AreSmall ks
    → many_keys ((to_le_bytes w32 (length ks) ++ bytes_of_keys ks) ++ x) ≡ Some (many ks, x)
unfolding many_keys
many_back ks x few small =
    rw (
      append_assoc (to_le_bytes w32 (length ks)) (bytes_of_keys ks) x,
      fixed32_back (length ks) (bytes_of_keys ks ++ x) few,
      keys_back ks x small,
    ) refl

rate_back : (rate : ℕ) (x : List ℕ) → rate < 2 ^ 64 → some_rate (to_le_bytes w64 rate ++ x) ≡ Some (slow rate, x)
unfolding some_rate
rate_back rate x fits = rw (fixed64_back rate x fits) refl

sequence_back : (s : ℕ) (x : List ℕ) → s < 2 ^ 64 → some_sequence (to_le_bytes w64 s ++ x) ≡ Some (updates s, x)
unfolding some_sequence
sequence_back s x fits = rw (fixed64_back s x fits) refl

options_back : (o : WriteOptions) (x : List ℕ) → some_flags (option_bits o ∷ x) ≡ Some (commit o, x)
unfolding some_flags read_byte
options_back o x = ap (λ (p : WriteOptions). Some (commit p, x)) (flags_back o)

-- A command that fits is read back.
pub command_back : (c : Command) (x : List ℕ) → Fits c → read_command (bytes_of c ++ x) ≡ Some (c, x)
unfolding read_command read_byte
command_back (add (value None key v)) x fits =
    two_back (λ k v. add (value None k v)) key v x fits.words.0 fits.words.1.0
command_back (add (value (Some f) key v)) x fits =
    key_and_word_back (λ k v. add (value (Some k.family) k.bytes v)) (key_at f key) v x fits.keys.0 fits.words.0
command_back (add (deletion None key)) x fits = one_back (λ k. add (deletion None k)) key x fits.words.0
command_back (add (deletion (Some f) key)) x fits =
    one_key_back (λ k. add (deletion (Some k.family) k.bytes)) (key_at f key) x fits.keys.0
command_back (add (single_deletion None key)) x fits =
    one_back (λ k. add (single_deletion None k)) key x fits.words.0
command_back (add (single_deletion (Some f) key)) x fits =
    one_key_back (λ k. add (single_deletion (Some k.family) k.bytes)) (key_at f key) x fits.keys.0
command_back (add (log_data text)) x fits = one_back (λ t. add (log_data t)) text x fits.words.0
command_back clear x fits = refl
command_back (commit o) x fits = options_back o x
command_back (get key) x fits = one_key_back get key x fits.keys.0
command_back (many keys) x fits = many_back keys x fits.count fits.keys
command_back (scan f lo hi) x fits =
    key_and_word_back (λ k hi. scan k.family k.bytes hi) (key_at f lo) hi x fits.keys.0 fits.words.0
command_back (updates s) x fits = sequence_back s x fits.rate
command_back stop x fits = refl
command_back unstop x fits = refl
command_back (slow rate) x fits = rate_back rate x fits.rate
command_back unslow x fits = refl
