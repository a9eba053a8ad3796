-- What the steps of reading read.
use Rattle.std.proofs.Common.{◌≡◌, ℕ, zero, suc, ◌+◌, ◌-◌, ◌<◌, ◌≤◌, List, [], ◌∷◌, ◌++◌, length, take, drop, refl, sym, ap, ◌∙◌, arith, append_assoc, append-nil, length-append}
use Rattle.std.specs.Prelude.{Some, None}
use Rattle.std.specs.Int.{w32, w64, to_le_bytes, from_le_bytes}
use Rattle.std.proofs.Math.Seq.{take-append_seam}
use Rattle.std.proofs.lemmas.Bool.{lt-ltb, le-ltb}
use Rattle.std.proofs.lemmas.Grind.{flat_map-append}
use Rattle.std.proofs.lemmas.List.{take-append-drop}
use Rattle.model_base.specs.declared.key.Key.{Key}
use Rattle.model_base.specs.Map.{key_at}
use Rattle.run_command_list.specs.Layout.{bytes_of_word, bytes_of_key, bytes_of_keys}
use Rattle.run_command_list.specs.Contents.{IsSmall, AreSmall}
use Rattle.run_command_list.specs.Reading.{Read, read_byte, read_fixed32, read_fixed64, read_word, read_key, read_keys}
use Rattle.run_command_list.specs.ReadBack.{key_back, keys_back}

pub no_byte : (bytes : List ℕ) → length bytes ≡ 0 → ◌≡◌ {A = Read ℕ} None (read_byte bytes)
unfolding read_byte
no_byte [] none = refl
no_byte (b ∷ bytes) none = absurd (omega (arith, none))

pub a_byte : (bytes : List ℕ) (b : ℕ) (rest : List ℕ) → bytes ≡ b ∷ rest → ◌≡◌ {A = Read ℕ} (Some (b, rest)) (read_byte bytes)
unfolding read_byte
a_byte bytes b rest is = rw is refl

pub no_fixed32 : (bytes : List ℕ) → length bytes < 4 → ◌≡◌ {A = Read ℕ} None (read_fixed32 bytes)
unfolding read_fixed32
no_fixed32 bytes few = rw (lt-ltb (length bytes) 4 few) refl

pub a_fixed32 : (bytes : List ℕ) (n : ℕ) (rest : List ℕ) → 4 ≤ length bytes → n ≡ from_le_bytes w32 (take 4 (drop 0 bytes)) → rest ≡ drop 4 bytes → ◌≡◌ {A = Read ℕ} (Some (n, rest)) (read_fixed32 bytes)
unfolding read_fixed32
a_fixed32 bytes n rest enough is_n is_rest = rw (le-ltb (length bytes) 4 enough, is_n, is_rest) refl

pub no_fixed64 : (bytes : List ℕ) → length bytes < 8 → ◌≡◌ {A = Read ℕ} None (read_fixed64 bytes)
unfolding read_fixed64
no_fixed64 bytes few = rw (lt-ltb (length bytes) 8 few) refl

pub a_fixed64 : (bytes : List ℕ) (n : ℕ) (rest : List ℕ) → 8 ≤ length bytes → n ≡ from_le_bytes w64 (take 8 (drop 0 bytes)) → rest ≡ drop 8 bytes → ◌≡◌ {A = Read ℕ} (Some (n, rest)) (read_fixed64 bytes)
unfolding read_fixed64
a_fixed64 bytes n rest enough is_n is_rest = rw (le-ltb (length bytes) 8 enough, is_n, is_rest) refl

-- the number and what comes after it are the bytes
pub fixed32_spelled : (bytes : List ℕ) (n : ℕ) (rest : List ℕ) → to_le_bytes w32 n ≡ take 4 (drop 0 bytes) → rest ≡ drop 4 bytes → bytes ≡ to_le_bytes w32 n ++ rest
fixed32_spelled bytes n rest is_n is_rest = sym (ap (λ (l : List ℕ). l ++ rest) is_n ∙ ap (λ (l : List ℕ). take 4 bytes ++ l) is_rest ∙ take-append-drop 4 bytes)

pub no_length : (bytes : List ℕ) → ◌≡◌ {A = Read ℕ} None (read_fixed32 bytes) → ◌≡◌ {A = Read (List ℕ)} None (read_word bytes)
unfolding read_word
no_length bytes none = rw (← none) refl

pub word_cut : (bytes : List ℕ) (n : ℕ) (behind : List ℕ) → ◌≡◌ {A = Read ℕ} (Some (n, behind)) (read_fixed32 bytes) → length behind < n → ◌≡◌ {A = Read (List ℕ)} None (read_word bytes)
unfolding read_word
word_cut bytes n behind len cut = rw (← len, lt-ltb (length behind) n cut) refl

pub a_word : (bytes : List ℕ) (n : ℕ) (behind w rest : List ℕ) → ◌≡◌ {A = Read ℕ} (Some (n, behind)) (read_fixed32 bytes) → n ≤ length behind → w ≡ take n behind → rest ≡ drop n behind → ◌≡◌ {A = Read (List ℕ)} (Some (w, rest)) (read_word bytes)
unfolding read_word
a_word bytes n behind w rest len enough is_w is_rest = rw (← len, le-ltb (length behind) n enough, is_w, is_rest) refl

pub word_spelled : (bytes : List ℕ) (n : ℕ) (behind w rest : List ℕ) → bytes ≡ to_le_bytes w32 n ++ behind → length w ≡ n → w ≡ take n behind → rest ≡ drop n behind → bytes ≡ bytes_of_word w ++ rest
word_spelled bytes n behind w rest len is_n is_w is_rest =
    let parts : behind ≡ w ++ rest = sym (ap (λ (l : List ℕ). l ++ rest) is_w ∙ ap (λ (l : List ℕ). take n behind ++ l) is_rest ∙ take-append-drop n behind) in
    len ∙ ap (λ (l : List ℕ). to_le_bytes w32 n ++ l) parts ∙ ap (λ (k : ℕ). to_le_bytes w32 k ++ (w ++ rest)) (sym is_n) ∙ sym (append_assoc (to_le_bytes w32 (length w)) w rest)

pub no_family : (bytes : List ℕ) → ◌≡◌ {A = Read ℕ} None (read_fixed32 bytes) → ◌≡◌ {A = Read Key} None (read_key bytes)
unfolding read_key
no_family bytes none = rw (← none) refl

pub key_cut : (bytes : List ℕ) (family : ℕ) (behind : List ℕ) → ◌≡◌ {A = Read ℕ} (Some (family, behind)) (read_fixed32 bytes) → ◌≡◌ {A = Read (List ℕ)} None (read_word behind) → ◌≡◌ {A = Read Key} None (read_key bytes)
unfolding read_key
key_cut bytes family behind number none = rw (← number, ← none) refl

pub a_key : (bytes : List ℕ) (family : ℕ) (behind w rest : List ℕ) → ◌≡◌ {A = Read ℕ} (Some (family, behind)) (read_fixed32 bytes) → ◌≡◌ {A = Read (List ℕ)} (Some (w, rest)) (read_word behind) → ◌≡◌ {A = Read Key} (Some (key_at family w, rest)) (read_key bytes)
unfolding read_key
a_key bytes family behind w rest number word = rw (← number, ← word) refl

pub key_spelled : (bytes : List ℕ) (family : ℕ) (behind w rest : List ℕ) → bytes ≡ to_le_bytes w32 family ++ behind → behind ≡ bytes_of_word w ++ rest → bytes ≡ bytes_of_key (key_at family w) ++ rest
key_spelled bytes family behind w rest number word =
    number ∙ ap (λ (l : List ℕ). to_le_bytes w32 family ++ l) word ∙ sym (append_assoc (to_le_bytes w32 family) (bytes_of_word w) rest)

-- `found` keys, and then the rest
pub record Walked (bytes rest : List ℕ) (found : ℕ) : Type 0 where
  pub keys : List Key
  pub small : AreSmall keys
  pub counted : found ≡ length keys
  pub spelled : bytes ≡ bytes_of_keys keys ++ rest

pub all_small : (keys : List Key) (k : Key) → AreSmall keys → IsSmall k → AreSmall (keys ++ k ∷ [])
all_small [] k small one = (one, tt)
all_small (v ∷ keys) k small one = (small.0, all_small keys k small.1 one)

pub keys_added : (keys : List Key) (k : Key) → bytes_of_keys (keys ++ k ∷ []) ≡ bytes_of_keys keys ++ bytes_of_key k
keys_added keys k = flat_map-append bytes_of_key keys (k ∷ []) ∙ ap (λ (l : List ℕ). bytes_of_keys keys ++ l) (append-nil (bytes_of_key k))

pub walked_none : (bytes : List ℕ) → Walked bytes bytes 0
walked_none bytes = record { keys = []; small = tt; counted = refl; spelled = refl }

pub walked_more : (bytes rest : List ℕ) (found : ℕ) (k : Key) (behind : List ℕ) → Walked bytes rest found → IsSmall k → rest ≡ bytes_of_key k ++ behind → Walked bytes behind (found + 1)
walked_more bytes rest found k behind walked small first = record {
  keys = walked.keys ++ k ∷ [];
  small = all_small walked.keys k walked.small small;
  counted = omega (arith, walked.counted, length-append walked.keys (k ∷ []));
  spelled = walked.spelled ∙ ap (λ (l : List ℕ). bytes_of_keys walked.keys ++ l) first ∙ sym (append_assoc (bytes_of_keys walked.keys) (bytes_of_key k) behind)
      ∙ ap (λ (l : List ℕ). l ++ behind) (sym (keys_added walked.keys k));
}

-- where a key breaks off before as many as were asked for, nothing is read
pub keys_cut : (keys : List Key) (rest : List ℕ) (n : ℕ) → AreSmall keys → length keys < n → ◌≡◌ {A = Read Key} None (read_key rest) → ◌≡◌ {A = Read (List Key)} None (read_keys n (bytes_of_keys keys ++ rest))
unfolding read_keys
keys_cut keys rest zero small fewer none = absurd (omega (arith, fewer))
keys_cut [] rest (suc n) small fewer none = rw (← none) refl
keys_cut (k ∷ keys) rest (suc n) small fewer none =
    rw (append_assoc (bytes_of_key k) (bytes_of_keys keys) rest, key_back k (bytes_of_keys keys ++ rest) small.0, ← keys_cut keys rest n small.1 (omega (arith, fewer)) none) refl

pub walked_cut : (bytes rest : List ℕ) (found n : ℕ) → Walked bytes rest found → found < n → ◌≡◌ {A = Read Key} None (read_key rest) → ◌≡◌ {A = Read (List Key)} None (read_keys n bytes)
walked_cut bytes rest found n walked fewer none =
    keys_cut walked.keys rest n walked.small (omega (arith, fewer, walked.counted)) none ∙ ap (λ (l : List ℕ). read_keys n l) (sym walked.spelled)

pub walked_all : (bytes rest : List ℕ) (n : ℕ) (walked : Walked bytes rest n) → ◌≡◌ {A = Read (List Key)} (Some (walked.keys, rest)) (read_keys n bytes)
walked_all bytes rest n walked =
    sym (ap (λ (k : ℕ). read_keys k bytes) walked.counted ∙ ap (λ (l : List ℕ). read_keys (length walked.keys) l) walked.spelled ∙ keys_back walked.keys rest walked.small)

pub walked_front : (bytes rest front : List ℕ) (n : ℕ) (walked : Walked bytes rest n) → front ≡ take (length bytes - length rest) bytes → front ≡ bytes_of_keys walked.keys
walked_front bytes rest front n walked is =
    let ws = bytes_of_keys walked.keys in
    let len : length bytes - length rest ≡ length ws = omega (arith, ap length walked.spelled, length-append ws rest) in
    is ∙ ap (λ (k : ℕ). take k bytes) len ∙ ap (λ (l : List ℕ). take (length ws) l) walked.spelled ∙ take-append_seam ws rest

pub walked_fewer : (bytes rest : List ℕ) (n : ℕ) → Walked bytes rest n → length rest ≤ length bytes
walked_fewer bytes rest n walked = omega (arith, ap length walked.spelled, length-append (bytes_of_keys walked.keys) rest)

-- as many keys as were asked for
pub walked_as_many : (bytes rest : List ℕ) (found n : ℕ) → Walked bytes rest found → found ≤ n → n ≤ found → Walked bytes rest n
walked_as_many bytes rest found n walked most least = record {
  keys = walked.keys;
  small = walked.small;
  counted = omega (arith, walked.counted, most, least);
  spelled = walked.spelled;
}
