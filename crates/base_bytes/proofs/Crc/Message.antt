-- The checksum of the definition is the inverted register after it has taken in all bytes, beginning with 32 ones.
use Rattle.std.proofs.Common.{◌≡◌, ℕ, ◌+◌, ◌^◌, ◌≤◌, Bool, true, false, not, List, [], ◌∷◌, ◌++◌, map, length, take, drop, fold, flat_map, replicate, refl, sym, ap, ◌∙◌, arith, length-append, length-take, take-append-drop, w32}
use Rattle.std.specs.Int.{bit_not}
use Rattle.std.proofs.lemmas.List.Sums.{fold-append}
use Rattle.model_base.specs.Checksum.{low_bits, remainder, dividend, crc32c}
use Rattle.base_bytes.specs.Register.{step, shift, take_in, take_in_byte}
use Rattle.base_bytes.proofs.Crc.Register.{fold_step-turned, shift-fold_step, fold_step-zeros}
use Rattle.base_bytes.proofs.Crc.Division.{Mirrors-remainder, number_of_bits-not}

-- taking in the bits of bytes is taking in byte after byte
fold_take_in-bits : (bytes : List ℕ) (n : ℕ) → fold take_in n (flat_map (low_bits 8) bytes) ≡ fold take_in_byte n bytes
unfolding take_in_byte
fold_take_in-bits [] n = refl
fold_take_in-bits (byte ∷ bytes) n =
    fold-append take_in n (low_bits 8 byte) (flat_map (low_bits 8) bytes) ∙ fold_take_in-bits bytes (fold take_in n (low_bits 8 byte))

-- a list with each bit set to one is a list of ones
map-true : (bits : List Bool) → map (λ _. true) bits ≡ replicate (length bits) true
map-true [] = refl
map-true (b ∷ bits) = ap (λ bs. true ∷ bs) (map-true bits)

-- dividing bits from this register on gives what dividing them from 0 on, with the first 32 inverted, gives
abbrev first : ℕ
first = 0x641f6454

-- 32 ones take this register to 0
first-ones : fold step first (replicate 32 true) ≡ 0
unfolding step
first-ones = refl

-- and 32 zeros take it to 32 ones
shift-first : shift 32 first ≡ 0xffffffff
unfolding shift step
shift-first = refl

-- inverting the first 32 coefficients has the effect of beginning with that register
fold_step-turned_front : (bits : List Bool) → 32 ≤ length bits
    → fold step 0 (map not (take 32 bits) ++ drop 32 bits) ≡ fold step first bits
fold_step-turned_front bits long =
    let front : length (take 32 bits) ≡ 32 = omega (arith, length-take 32 bits) in
    let none = ap (λ k. fold step first (replicate k true)) front ∙ first-ones in
    let turned = fold_step-turned (take 32 bits) first 0 (ap (fold step first) (map-true (take 32 bits)) ∙ none) in
    fold-append step 0 (map not (take 32 bits)) (drop 32 bits)
    ∙ ap (λ n. fold step n (drop 32 bits)) (sym turned)
    ∙ sym (fold-append step first (take 32 bits) (drop 32 bits))
    ∙ ap (fold step first) (take-append-drop 32 bits)

-- dividing the dividend is taking in the bytes, beginning with 32 ones
fold_step-dividend : (bytes : List ℕ) → fold step 0 (dividend bytes) ≡ fold take_in_byte 0xffffffff bytes
fold_step-dividend bytes =
    let bits = flat_map (low_bits 8) bytes in
    let zeros = replicate 32 false in
    fold_step-turned_front (bits ++ zeros) (omega (arith, length-append bits zeros))
    ∙ fold-append step first bits zeros
    ∙ fold_step-zeros 32 (fold step first bits)
    ∙ shift-fold_step bits first
    ∙ ap (λ n. fold take_in n bits) shift-first
    ∙ fold_take_in-bits bytes 0xffffffff

-- the checksum is how much the register is below 32 ones
crc32c-turned : (bytes : List ℕ) → crc32c bytes + fold take_in_byte 0xffffffff bytes + 1 ≡ 2 ^ 32
crc32c-turned bytes =
    let m = Mirrors-remainder (dividend bytes) in
    let turned = number_of_bits-not (remainder (dividend bytes)) ∙ ap (λ k. 2 ^ k) m.long in
    omega (arith, m.same, fold_step-dividend bytes)

-- the checksum is the inverted register after the bytes
crc32c-fold : (bytes : List ℕ) → crc32c bytes ≡ bit_not w32 (fold take_in_byte 0xffffffff bytes)
crc32c-fold bytes = omega (arith, crc32c-turned bytes)

-- the register after the bytes is the inverted checksum
fold_take_in_byte-crc32c : (bytes : List ℕ) → fold take_in_byte 0xffffffff bytes ≡ bit_not w32 (crc32c bytes)
fold_take_in_byte-crc32c bytes = omega (arith, crc32c-turned bytes)

-- the checksum of bytes that follow others is computed from the checksum of those others
pub crc32c-append : (front bytes : List ℕ)
    → crc32c (front ++ bytes) ≡ bit_not w32 (fold take_in_byte (bit_not w32 (crc32c front)) bytes)
crc32c-append front bytes =
    crc32c-fold (front ++ bytes)
    ∙ ap (bit_not w32) (fold-append take_in_byte 0xffffffff front bytes)
    ∙ ap (λ n. bit_not w32 (fold take_in_byte n bytes)) (fold_take_in_byte-crc32c front)
