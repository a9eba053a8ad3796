-- Four look-ups in tables shift a word, and a chunk of four words is taken in at once. A sum is an exclusive or.
use Rattle.std.proofs.Common.{◌≡◌, ℕ, zero, suc, ◌+◌, ◌*◌, ◌/◌, ◌%◌, ◌^◌, ◌<◌, List, [], ◌∷◌, length, map, take, drop, get_or, fold, refl, sym, ap, ap₂, ◌∙◌, arith, add_comm, take-append-drop}
use Rattle.std.specs.Simd.{first_chunks}
use lib.Lanes.{number_l, digits_l}
use Rattle.std.proofs.lemmas.Simd.{get_or_wider}
use Rattle.std.proofs.lemmas.List.{drop-drop}
use Rattle.std.proofs.lemmas.List.Sums.{fold-append}
use Rattle.std.specs.Int.{w32, from_le_bytes}
use Rattle.std.specs.Int.Bits.{bit_and, bit_xor}
use Rattle.std.proofs.lemmas.Nat.{xor_comm, and_mask}
use lib.Bits.{xor_assoc}
use Rattle.base_bytes.specs.Register.{shift, take_in_byte}
use Rattle.base_bytes.proofs.Crc.Register.{shift-xor}
use Rattle.base_bytes.proofs.Crc.Tables.{word_of, AreBytes, shift-shift, shift-byte, fold_take_in_byte-shift, IsTable}

-- the sum of four look-ups, one table for each byte of the word
abbrev pub looked_up : List ℕ → List ℕ → List ℕ → List ℕ → ℕ → ℕ
looked_up a b c d w = bit_xor (bit_xor (bit_xor (get_or a (bit_and w 255) 0) (get_or b (bit_and (w / 256) 255) 0)) (get_or c (bit_and (w / 65536) 255) 0)) (get_or d (w / 16777216) 0)

-- Four tables, each for one byte less than the one before it, shift a word.
pub by_tables : (k : ℕ) (a b c d : List ℕ) → IsTable (k + 4) a → IsTable (k + 3) b → IsTable (k + 2) c → IsTable (k + 1) d → (w : ℕ) → w < 2 ^ 32 → looked_up a b c d w ≡ shift (8 * (k + 4)) w
by_tables k a b c d is_a is_b is_c is_d w small =
    let w1 = w / 256 in
    let w2 = w / 256 / 256 in
    let w3 = w / 256 / 256 / 256 in
    let at_a : get_or a (bit_and w 255) 0 ≡ shift (8 * (k + 4)) (w % 2 ^ 8) = ap (λ i. get_or a i 0) (and_mask w 8) ∙ is_a (w % 256) (omega arith) in
    let at_b : get_or b (bit_and (w / 256) 255) 0 ≡ shift (8 * (k + 3)) (w1 % 2 ^ 8) = ap (λ i. get_or b i 0) (and_mask (w / 256) 8) ∙ is_b (w1 % 256) (omega arith) in
    let second : w / 65536 ≡ w2 = omega arith in
    let third : w / 16777216 ≡ w3 = omega arith in
    let at_c : get_or c (bit_and (w / 65536) 255) 0 ≡ shift (8 * (k + 2)) (w2 % 2 ^ 8) = ap (λ i. get_or c i 0) (and_mask (w / 65536) 8 ∙ ap (λ i. i % 256) second) ∙ is_c (w2 % 256) (omega arith) in
    let at_d : get_or d (w / 16777216) 0 ≡ shift (8 * (k + 1)) w3 = ap (λ i. get_or d i 0) third ∙ is_d w3 (omega (arith, small)) in
    let apart : shift (8 * (k + 4)) w ≡ bit_xor (shift (8 * (k + 4)) (w % 2 ^ 8)) (bit_xor (shift (8 * (k + 3)) (w1 % 2 ^ 8)) (bit_xor (shift (8 * (k + 2)) (w2 % 2 ^ 8)) (shift (8 * (k + 1)) w3))) =
    shift-byte (8 * (k + 4)) (8 * (k + 3)) w (omega arith)
    ∙ ap (bit_xor (shift (8 * (k + 4)) (w % 2 ^ 8))) (shift-byte (8 * (k + 3)) (8 * (k + 2)) w1 (omega arith)
    ∙ ap (bit_xor (shift (8 * (k + 3)) (w1 % 2 ^ 8))) (shift-byte (8 * (k + 2)) (8 * (k + 1)) w2 (omega arith))) in
    ap₂ bit_xor (ap₂ bit_xor (ap₂ bit_xor at_a at_b) at_c) at_d
    ∙ xor_assoc (bit_xor (shift (8 * (k + 4)) (w % 2 ^ 8)) (shift (8 * (k + 3)) (w1 % 2 ^ 8))) (shift (8 * (k + 2)) (w2 % 2 ^ 8)) (shift (8 * (k + 1)) w3)
    ∙ xor_assoc (shift (8 * (k + 4)) (w % 2 ^ 8)) (shift (8 * (k + 3)) (w1 % 2 ^ 8)) (bit_xor (shift (8 * (k + 2)) (w2 % 2 ^ 8)) (shift (8 * (k + 1)) w3))
    ∙ sym apart

-- four bytes are taken in as a word
take_in_four : (r a b c d : ℕ) → AreBytes (a ∷ b ∷ c ∷ d ∷ []) → fold take_in_byte r (a ∷ b ∷ c ∷ d ∷ []) ≡ shift 32 (bit_xor r (from_le_bytes w32 (a ∷ b ∷ c ∷ d ∷ [])))
take_in_four r a b c d are =
    fold_take_in_byte-shift (a ∷ b ∷ c ∷ d ∷ []) r are ∙ ap (λ w. shift 32 (bit_xor r w)) (let same : word_of (a ∷ b ∷ c ∷ d ∷ []) ≡ from_le_bytes w32 (a ∷ b ∷ c ∷ d ∷ []) = omega arith in same)

-- a word added to a shifted register, and the sum shifted by 32, is the register shifted by 32 more plus the shifted
-- word
shift_more : (k r w : ℕ) → shift 32 (bit_xor (shift k r) w) ≡ bit_xor (shift (k + 32) r) (shift 32 w)
shift_more k r w = shift-xor 32 (shift k r) w ∙ ap (λ m. bit_xor m (shift 32 w)) (shift-shift 32 k r)

-- taking in four words, one after another, is adding the words each shifted to the end of the chunk
take_in_words : (r w x y z : ℕ) → shift 32 (bit_xor (shift 32 (bit_xor (shift 32 (bit_xor (shift 32 (bit_xor r w)) x)) y)) z)
    ≡ bit_xor (bit_xor (bit_xor (shift 96 x) (shift 64 y)) (shift 32 z)) (shift 128 (bit_xor r w))
take_in_words r w x y z =
    let s = bit_xor r w in
    let two : shift 32 (bit_xor (shift 32 s) x) ≡ bit_xor (shift 64 s) (shift 32 x) = shift_more 32 s x in
    let three : shift 32 (bit_xor (bit_xor (shift 64 s) (shift 32 x)) y) ≡ bit_xor (bit_xor (shift 96 s) (shift 64 x)) (shift 32 y) =
    shift-xor 32 (bit_xor (shift 64 s) (shift 32 x)) y ∙ ap (λ m. bit_xor m (shift 32 y)) (shift-xor 32 (shift 64 s) (shift 32 x) ∙ ap₂ bit_xor (shift-shift 32 64 s) (shift-shift 32 32 x)) in
    let four : shift 32 (bit_xor (bit_xor (bit_xor (shift 96 s) (shift 64 x)) (shift 32 y)) z) ≡ bit_xor (bit_xor (bit_xor (shift 128 s) (shift 96 x)) (shift 64 y)) (shift 32 z) =
    shift-xor 32 (bit_xor (bit_xor (shift 96 s) (shift 64 x)) (shift 32 y)) z
    ∙ ap (λ m. bit_xor m (shift 32 z)) (shift-xor 32 (bit_xor (shift 96 s) (shift 64 x)) (shift 32 y)
    ∙ ap₂ bit_xor (shift-xor 32 (shift 96 s) (shift 64 x) ∙ ap₂ bit_xor (shift-shift 32 96 s) (shift-shift 32 64 x)) (shift-shift 32 32 y)) in
    ap (λ m. shift 32 (bit_xor (shift 32 (bit_xor m y)) z)) two
    ∙ ap (λ m. shift 32 (bit_xor m z)) three
    ∙ four
    ∙ ap (λ m. bit_xor m (shift 32 z)) (xor_assoc (shift 128 s) (shift 96 x) (shift 64 y))
    ∙ xor_assoc (shift 128 s) (bit_xor (shift 96 x) (shift 64 y)) (shift 32 z)
    ∙ xor_comm (shift 128 s) (bit_xor (bit_xor (shift 96 x) (shift 64 y)) (shift 32 z))

-- the first four words of the bytes, four bytes each
abbrev pub words_in : List ℕ → List ℕ
words_in bytes = map (from_le_bytes w32) (first_chunks 4 4 bytes)

-- the word at the place i
abbrev pub word_in : List ℕ → ℕ → ℕ
word_in bytes i = get_or (words_in bytes) i 0

-- four digits to the base 256 are the number that the four bytes spell
number_l-word : (a b c d : ℕ) → number_l 256 (a ∷ b ∷ c ∷ d ∷ []) ≡ from_le_bytes w32 (a ∷ b ∷ c ∷ d ∷ [])
number_l-word a b c d = omega arith

-- The digits to the base 2 ^ 32 of the number of 16 bytes are the four words of the bytes.
pub digits-words_in : (bytes : List ℕ) → length bytes ≡ 16 → AreBytes bytes
    → digits_l 4294967296 4 (number_l 256 bytes) ≡ words_in bytes
digits-words_in (a ∷ b ∷ c ∷ d ∷ e ∷ f ∷ g ∷ h ∷ i ∷ j ∷ k ∷ l ∷ m ∷ n ∷ o ∷ p ∷ []) long are =
    let bytes : List ℕ = a ∷ b ∷ c ∷ d ∷ e ∷ f ∷ g ∷ h ∷ i ∷ j ∷ k ∷ l ∷ m ∷ n ∷ o ∷ p ∷ [] in
    let one = get_or_wider 256 4 4294967296 4 bytes 0 refl are (omega arith) ∙ number_l-word a b c d in
    let two = get_or_wider 256 4 4294967296 4 bytes 1 refl are (omega arith) ∙ number_l-word e f g h in
    let three = get_or_wider 256 4 4294967296 4 bytes 2 refl are (omega arith) ∙ number_l-word i j k l in
    let four = get_or_wider 256 4 4294967296 4 bytes 3 refl are (omega arith) ∙ number_l-word m n o p in
    ap₂ (λ (x : ℕ) (xs : List ℕ). x ∷ xs) one
    (ap₂ (λ (x : ℕ) (xs : List ℕ). x ∷ xs) two (ap₂ (λ (x : ℕ) (xs : List ℕ). x ∷ xs) three (ap (λ (x : ℕ). x ∷ []) four)))
digits-words_in bytes long are = absurd (omega (arith, long))

-- Sixteen bytes are taken in as four words.
pub take_in_sixteen : (r : ℕ) (bytes : List ℕ) → length bytes ≡ 16 → AreBytes bytes
    → bit_xor (bit_xor (bit_xor (shift 96 (word_in bytes 1)) (shift 64 (word_in bytes 2))) (shift 32 (word_in bytes 3))) (shift 128 (bit_xor r (word_in bytes 0))) ≡ fold take_in_byte r bytes
take_in_sixteen r (a ∷ b ∷ c ∷ d ∷ e ∷ f ∷ g ∷ h ∷ i ∷ j ∷ k ∷ l ∷ m ∷ n ∷ o ∷ p ∷ []) long are =
    let bytes : List ℕ = a ∷ b ∷ c ∷ d ∷ e ∷ f ∷ g ∷ h ∷ i ∷ j ∷ k ∷ l ∷ m ∷ n ∷ o ∷ p ∷ [] in
    let one = take_in_four r a b c d (are.0, (are.1.0, (are.1.1.0, (are.1.1.1.0, tt)))) in
    let later = are.1.1.1.1 in
    let two = take_in_four (shift 32 (bit_xor r (word_in bytes 0))) e f g h (later.0, (later.1.0, (later.1.1.0, (later.1.1.1.0, tt)))) in
    let behind = later.1.1.1.1 in
    let three = take_in_four (shift 32 (bit_xor (shift 32 (bit_xor r (word_in bytes 0))) (word_in bytes 1))) i j k l (behind.0, (behind.1.0, (behind.1.1.0, (behind.1.1.1.0, tt)))) in
    let last = behind.1.1.1.1 in
    let four = take_in_four (shift 32 (bit_xor (shift 32 (bit_xor (shift 32 (bit_xor r (word_in bytes 0))) (word_in bytes 1))) (word_in bytes 2))) m n o p last in
    sym (take_in_words r (word_in bytes 0) (word_in bytes 1) (word_in bytes 2) (word_in bytes 3))
    ∙ sym (ap (λ x. fold take_in_byte x (e ∷ f ∷ g ∷ h ∷ i ∷ j ∷ k ∷ l ∷ m ∷ n ∷ o ∷ p ∷ [])) one
    ∙ ap (λ x. fold take_in_byte x (i ∷ j ∷ k ∷ l ∷ m ∷ n ∷ o ∷ p ∷ [])) two
    ∙ ap (λ x. fold take_in_byte x (m ∷ n ∷ o ∷ p ∷ [])) three
    ∙ four)
take_in_sixteen r bytes long are = absurd (omega (arith, long))

-- Taking in chunk after chunk, and then the bytes that follow them, is taking in all bytes.
pub fold_chunks : (k r : ℕ) (bytes : List ℕ) → fold take_in_byte (fold (fold take_in_byte) r (first_chunks 16 k bytes)) (drop (k * 16) bytes) ≡ fold take_in_byte r bytes
fold_chunks zero r bytes = ap (λ n. fold take_in_byte r (drop n bytes)) (let none : zero * 16 ≡ 0 = omega arith in none)
fold_chunks (suc k) r bytes =
    let n : suc k * 16 ≡ k * 16 + 16 = omega arith in
    ap (λ i. fold take_in_byte (fold (fold take_in_byte) (fold take_in_byte r (take 16 bytes)) (first_chunks 16 k (drop 16 bytes))) (drop i bytes)) n
    ∙ ap (fold take_in_byte (fold (fold take_in_byte) (fold take_in_byte r (take 16 bytes)) (first_chunks 16 k (drop 16 bytes)))) (sym (drop-drop (k * 16) 16 bytes ∙ ap (λ i. drop i bytes) (add_comm 16 (k * 16))))
    ∙ fold_chunks k (fold take_in_byte r (take 16 bytes)) (drop 16 bytes)
    ∙ sym (fold-append take_in_byte r (take 16 bytes) (drop 16 bytes))
    ∙ ap (fold take_in_byte r) (take-append-drop 16 bytes)

-- If the number at each place is below 256, all are bytes.
pub are_bytes : (bytes : List ℕ) → ((i : ℕ) → get_or bytes i 0 < 256) → AreBytes bytes
are_bytes [] small = tt
are_bytes (b ∷ bytes) small = (small 0, are_bytes bytes (λ i. small (suc i)))
