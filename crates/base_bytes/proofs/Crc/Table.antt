-- One look-up in the table takes in a byte.
use Rattle.std.proofs.Common.{◌≡◌, ℕ, zero, suc, ◌+◌, ◌*◌, ◌/◌, ◌%◌, ◌^◌, ◌<◌, Bool, false, ◌==◌, List, ◌∷◌, map, length, get_or, fold, take, refl, sym, ap, ap₂, ◌∙◌, arith, pow-suc, pow_pos, mul-one, div-one, shr-shr, add_comm, mod-lt}
use Rattle.std.specs.List.{range_with_len}
use Rattle.std.specs.Int.Bits.{bit_and, bit_xor, xor_zero_r}
use Rattle.std.proofs.lemmas.Nat.{xor_comm, xor_shr, and_mask, shr_split}
use Rattle.std.proofs.lemmas.List.FromFn.{get_or-map-range_with_len}
use Rattle.std.proofs.lemmas.List.Sums.{fold_more}
use lib.Bits.{xor_assoc, xor_shifted, shifted_half, shifted_even}
use Rattle.model_base.specs.Checksum.{low_bits}
use Rattle.base_bytes.specs.declared.tables.TheConstants.{TABLE_0}
use Rattle.base_bytes.specs.Register.{low_divisor, lowest, step, shift, take_in, take_in_byte}
use Rattle.base_bytes.proofs.Crc.Register.{step-xor, shift-xor}

-- the bits of n from place a + 1 on are those of n / 2 from place a on
bits_of_half : (n k a : ℕ)
    → map (λ i. n / 2 ^ i % 2 == 1) (range_with_len (a + 1) k) ≡ map (λ i. n / 2 / 2 ^ i % 2 == 1) (range_with_len a k)
bits_of_half n zero a = refl
bits_of_half n (suc k) a =
    let place : n / 2 ^ (a + 1) ≡ n / 2 / 2 ^ a = ap (λ i. n / 2 ^ i) (add_comm a 1) ∙ sym (shr-shr n 1 a) in
    ap₂ (λ (m : ℕ) (bits : List Bool). (m % 2 == 1) ∷ bits) place (bits_of_half n k (a + 1))

-- the low bits of n are its lowest bit, and then those of n / 2
low_bits-suc : (k n : ℕ) → low_bits (suc k) n ≡ (n % 2 == 1) ∷ low_bits k (n / 2)
low_bits-suc k n =
    ap₂ (λ (m : ℕ) (bits : List Bool). (m % 2 == 1) ∷ bits) (div-one n) (bits_of_half n k 0)

-- a digit is its own lowest bit
digit-lowest : (d : ℕ) → d < 2 → lowest (d == 1) ≡ d
digit-lowest zero h = refl
digit-lowest (suc zero) h = refl
digit-lowest (suc (suc d)) h = absurd (omega arith)

-- a step of n is a step of its lowest bit, plus n / 2
step-digit : (n : ℕ) → step n false ≡ bit_xor (step (n % 2) false) (n / 2)
unfolding step
step-digit n =
    let half : n % 2 / 2 ≡ 0 = omega arith in
    let digit : n % 2 % 2 ≡ n % 2 = omega arith in
    let low = ap₂ (λ h d. bit_xor (bit_xor h (d * low_divisor)) 0) half digit in
    cc (xor_zero_r (bit_xor (n / 2) (n % 2 * low_divisor)), xor_zero_r (n % 2 * low_divisor), xor_comm (n / 2) (n % 2 * low_divisor))

-- a step of the register plus n is a step that takes in the lowest bit of n, plus n / 2
step-half : (r n : ℕ) → step (bit_xor r n) false ≡ bit_xor (take_in r (n % 2 == 1)) (n / 2)
unfolding take_in
step-half r n =
    let digit = ap (λ d. step (bit_xor r d) false) (digit-lowest (n % 2) (omega arith)) ∙ step-xor r (n % 2) false false in
    step-xor r n false false ∙ ap (bit_xor (step r false)) (step-digit n)
    ∙ sym (xor_assoc (step r false) (step (n % 2) false) (n / 2))
    ∙ ap (λ m. bit_xor m (n / 2)) (sym digit)

-- taking in k bits is adding their number and shifting k times
pub shift-low_bits : (k r n : ℕ) → n < 2 ^ k → shift k (bit_xor r n) ≡ fold take_in r (low_bits k n)
unfolding shift
shift-low_bits zero r n small =
    let none : n ≡ 0 = omega arith in
    ap (bit_xor r) none ∙ xor_zero_r r
shift-low_bits (suc k) r n small =
    ap (shift k) (step-half r n)
    ∙ shift-low_bits k (take_in r (n % 2 == 1)) (n / 2) (omega (arith, pow-suc 2 k))
    ∙ ap (fold take_in r) (sym (low_bits-suc k n))

-- a step takes off one of the zeros at the low end
step-shifted : (k a : ℕ) → step (a * 2 ^ suc k) false ≡ a * 2 ^ k
unfolding step
step-shifted k a =
    ap₂ (λ h d. bit_xor (bit_xor h (d * low_divisor)) 0) (shifted_half a k) (shifted_even a k)
    ∙ xor_zero_r (bit_xor (a * 2 ^ k) 0) ∙ xor_zero_r (a * 2 ^ k)

-- a shift by k takes off k of them
pub shift-shifted : (k a : ℕ) → shift k (a * 2 ^ k) ≡ a
unfolding shift
shift-shifted zero a = mul-one a
shift-shifted (suc k) a = ap (shift k) (step-shifted k a) ∙ shift-shifted k a

-- so a shift by k is that of the low k bits, plus the other bits moved down by k
pub shift-split : (k n : ℕ) → shift k n ≡ bit_xor (shift k (n % 2 ^ k)) (n / 2 ^ k)
shift-split k n =
    let low = mod-lt n (pow_pos k) in
    ap (shift k) (sym (shr_split n k) ∙ sym (xor_shifted (n / 2 ^ k) k (n % 2 ^ k) low))
    ∙ shift-xor k (n / 2 ^ k * 2 ^ k) (n % 2 ^ k)
    ∙ ap (λ m. bit_xor m (shift k (n % 2 ^ k))) (shift-shifted k (n / 2 ^ k))
    ∙ xor_comm (n / 2 ^ k) (shift k (n % 2 ^ k))

-- the table has what a shift by 8 makes of each byte
table-shift : map (shift 8) (range_with_len 0 256) ≡ TABLE_0
unfolding shift step
table-shift = refl

-- so an entry is its index shifted by 8
pub table-at : (i : ℕ) → i < 256 → get_or TABLE_0 i 0 ≡ shift 8 i
table-at i small =
    ap (λ table. get_or table i 0) (sym table-shift) ∙ get_or-map-range_with_len (shift 8) 0 256 i i 0 small (omega arith)

-- the code takes in a byte by one look-up
take_in_byte-table : (r byte : ℕ) → byte < 2 ^ 8
    → take_in_byte r byte ≡ bit_xor (get_or TABLE_0 (bit_and (bit_xor r byte) 255) 0) (r / 256)
unfolding take_in_byte
take_in_byte-table r byte small =
    let none : byte / 256 ≡ 0 = omega arith in
    let high : bit_xor r byte / 256 ≡ r / 256 = xor_shr r byte 8 ∙ ap (bit_xor (r / 256)) none ∙ xor_zero_r (r / 256) in
    let low = and_mask (bit_xor r byte) 8 in
    sym (shift-low_bits 8 r byte small)
    ∙ shift-split 8 (bit_xor r byte)
    ∙ ap₂ bit_xor (sym (table-at (bit_xor r byte % 256) (omega arith)) ∙ ap (λ i. get_or TABLE_0 i 0) (sym low)) high

-- the loop's step: the register after one byte more
pub take_in_byte-more : (first register : ℕ) (bytes : List ℕ) (i byte : ℕ)
    → i < length bytes → byte ≡ get_or bytes i 0 → byte < 2 ^ 8
    → register ≡ fold take_in_byte first (take i bytes)
    → bit_xor (get_or TABLE_0 (bit_and (bit_xor register byte) 255) 0) (register / 256) ≡ fold take_in_byte first (take (i + 1) bytes)
take_in_byte-more first register bytes i byte inside at small before =
    sym (take_in_byte-table register byte small)
    ∙ ap₂ take_in_byte before at
    ∙ sym (fold_more take_in_byte first bytes i 0 inside)
