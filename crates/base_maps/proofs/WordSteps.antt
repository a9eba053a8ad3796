-- What the steps of reading a pair read.
use Rattle.std.proofs.Common.{◌≡◌, ℕ, ◌<◌, ◌≤◌, List, length, take, drop, refl}
use Rattle.std.specs.Prelude.{Some, None}
use Rattle.std.specs.Int.{w32, from_le_bytes}
use Rattle.std.proofs.lemmas.Bool.{lt-ltb, le-ltb}
use Rattle.base_maps.specs.Words.{Read, read_len, read_word}

pub no_len : (bytes : List ℕ) → length bytes < 4 → ◌≡◌ {A = Read ℕ} None (read_len bytes)
unfolding read_len
no_len bytes few = rw (lt-ltb (length bytes) 4 few) refl

pub a_len : (bytes : List ℕ) (n : ℕ) (rest : List ℕ) → 4 ≤ length bytes → n ≡ from_le_bytes w32 (take 4 (drop 0 bytes)) → rest ≡ drop 4 bytes → ◌≡◌ {A = Read ℕ} (Some (n, rest)) (read_len bytes)
unfolding read_len
a_len bytes n rest enough is_n is_rest = rw (le-ltb (length bytes) 4 enough, is_n, is_rest) refl

pub no_word : (bytes : List ℕ) → ◌≡◌ {A = Read ℕ} None (read_len bytes) → ◌≡◌ {A = Read (List ℕ)} None (read_word bytes)
unfolding read_word
no_word bytes none = rw (← none) refl

pub word_cut : (bytes : List ℕ) (n : ℕ) (behind : List ℕ) → ◌≡◌ {A = Read ℕ} (Some (n, behind)) (read_len bytes) → length behind < n → ◌≡◌ {A = Read (List ℕ)} None (read_word bytes)
unfolding read_word
word_cut bytes n behind len cut = rw (← len, lt-ltb (length behind) n cut) refl

pub a_word : (bytes : List ℕ) (n : ℕ) (behind w rest : List ℕ) → ◌≡◌ {A = Read ℕ} (Some (n, behind)) (read_len bytes) → n ≤ length behind → w ≡ take n behind → rest ≡ drop n behind
    → ◌≡◌ {A = Read (List ℕ)} (Some (w, rest)) (read_word bytes)
unfolding read_word
a_word bytes n behind w rest len enough is_w is_rest = rw (← len, le-ltb (length behind) n enough, is_w, is_rest) refl
