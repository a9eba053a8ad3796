-- Slicing: several bytes are taken in at once, by one look-up in a table for each of them.
use Rattle.std.proofs.Common.{◌≡◌, ℕ, zero, suc, false, ◌+◌, ◌*◌, ◌/◌, ◌%◌, ◌^◌, ◌<◌, List, [], ◌∷◌, length, map, get_or, fold, refl, sym, ap, ap₂, ◌∙◌, arith}
use Rattle.std.specs.List.{AllByRecursion}
use Rattle.std.specs.Int.Bits.{bit_xor, xor_zero_r}
use Rattle.std.proofs.lemmas.List.{get_or-map}
use Rattle.std.proofs.lemmas.Nat.{xor_comm}
use lib.Bits.{xor_assoc, xor_shifted}
use Rattle.base_bytes.specs.declared.tables.TheConstants.{TABLE_0, TABLE_1, TABLE_2, TABLE_3, TABLE_4, TABLE_5, TABLE_6, TABLE_7}
use Rattle.base_bytes.specs.declared.crc_tables_8_to_15.TheConstants.{TABLE_8, TABLE_9, TABLE_10, TABLE_11, TABLE_12, TABLE_13, TABLE_14, TABLE_15}
use Rattle.base_bytes.specs.Register.{step, shift, take_in_byte}
use Rattle.base_bytes.proofs.Crc.Register.{shift-xor}
use Rattle.base_bytes.proofs.Crc.Table.{shift-low_bits, shift-shifted, shift-split, table-at}

-- the number whose bytes these are, the low one first
abbrev pub word_of : List ℕ → ℕ
word_of [] = 0
word_of (b ∷ bytes) = word_of bytes * 2 ^ 8 + b

abbrev pub AreBytes : List ℕ → Type 0
AreBytes bytes = AllByRecursion (λ b. b < 256) bytes

-- two shifts, one after the other, are one shift
pub shift-shift : (j k n : ℕ) → shift j (shift k n) ≡ shift (k + j) n
unfolding shift
shift-shift j zero n = let same : j ≡ 0 + j = omega arith in ap (λ m. shift m n) same
shift-shift j (suc k) n =
    let same : suc (k + j) ≡ suc k + j = omega arith in
    shift-shift j k (step n false) ∙ ap (λ m. shift m n) same

-- taking in one byte is shifting the register plus the byte by 8
pub take_in_byte-shift : (r b : ℕ) → b < 2 ^ 8 → take_in_byte r b ≡ shift 8 (bit_xor r b)
unfolding take_in_byte
take_in_byte-shift r b small = sym (shift-low_bits 8 r b small)

-- taking in bytes is shifting the register plus their number, by 8 for each byte
pub fold_take_in_byte-shift : (bytes : List ℕ) (r : ℕ) → AreBytes bytes
    → fold take_in_byte r bytes ≡ shift (8 * length bytes) (bit_xor r (word_of bytes))
unfolding shift
fold_take_in_byte-shift [] r all = sym (xor_zero_r r)
fold_take_in_byte-shift (b ∷ bytes) r all =
    let k = 8 * length bytes in
    let w = word_of bytes in
    let longer : 8 + k ≡ 8 * length (b ∷ bytes) = omega arith in
    fold_take_in_byte-shift bytes (take_in_byte r b) all.1
    ∙ ap (shift k) (ap₂ bit_xor (take_in_byte-shift r b all.0) (sym (shift-shifted 8 w)) ∙ sym (shift-xor 8 (bit_xor r b) (w * 2 ^ 8)))
    ∙ shift-shift k 8 (bit_xor (bit_xor r b) (w * 2 ^ 8))
    ∙ ap (λ m. shift m (bit_xor (bit_xor r b) (w * 2 ^ 8))) longer
    ∙ ap (shift (8 * length (b ∷ bytes))) (xor_assoc r b (w * 2 ^ 8) ∙ ap (bit_xor r) (xor_comm b (w * 2 ^ 8) ∙ xor_shifted w 8 b all.0))

-- a shift by 8 or more is that of the low byte, plus the other bytes shifted by 8 less
pub shift-byte : (i j n : ℕ) → i ≡ 8 + j → shift i n ≡ bit_xor (shift i (n % 2 ^ 8)) (shift j (n / 2 ^ 8))
shift-byte i j n same =
    ap (λ m. shift m n) same ∙ sym (shift-shift j 8 n) ∙ ap (shift j) (shift-split 8 n) ∙ shift-xor j (shift 8 (n % 2 ^ 8)) (n / 2 ^ 8)
    ∙ ap (λ m. bit_xor m (shift j (n / 2 ^ 8))) (shift-shift j 8 (n % 2 ^ 8) ∙ ap (λ m. shift m (n % 2 ^ 8)) (sym same))

-- the table has what a shift by k bytes makes of each byte
abbrev pub IsTable : ℕ → List ℕ → Type 0
IsTable k table = (i : ℕ) → i < 256 → get_or table i 0 ≡ shift (8 * k) i

-- the next table has what a shift by one more byte makes of it
next_table : (k : ℕ) (table next : List ℕ) → length table ≡ 256 → map (shift 8) table ≡ next → IsTable k table → IsTable (suc k) next
next_table k table next long e is i small =
    ap (λ (t : List ℕ). get_or t i 0) (sym e)
    ∙ get_or-map (shift 8) table i 0 0 (omega (arith, long))
    ∙ ap (shift 8) (is i small)
    ∙ shift-shift 8 (8 * k) i
    ∙ ap (λ m. shift m i) (omega arith)

pub table_0 : IsTable 1 TABLE_0
table_0 = table-at

made_1 : map (shift 8) TABLE_0 ≡ TABLE_1
unfolding shift step
made_1 = refl

pub table_1 : IsTable 2 TABLE_1
table_1 = next_table 1 TABLE_0 TABLE_1 refl made_1 table_0

made_2 : map (shift 8) TABLE_1 ≡ TABLE_2
unfolding shift step
made_2 = refl

pub table_2 : IsTable 3 TABLE_2
table_2 = next_table 2 TABLE_1 TABLE_2 refl made_2 table_1

made_3 : map (shift 8) TABLE_2 ≡ TABLE_3
unfolding shift step
made_3 = refl

pub table_3 : IsTable 4 TABLE_3
table_3 = next_table 3 TABLE_2 TABLE_3 refl made_3 table_2

made_4 : map (shift 8) TABLE_3 ≡ TABLE_4
unfolding shift step
made_4 = refl

pub table_4 : IsTable 5 TABLE_4
table_4 = next_table 4 TABLE_3 TABLE_4 refl made_4 table_3

made_5 : map (shift 8) TABLE_4 ≡ TABLE_5
unfolding shift step
made_5 = refl

pub table_5 : IsTable 6 TABLE_5
table_5 = next_table 5 TABLE_4 TABLE_5 refl made_5 table_4

made_6 : map (shift 8) TABLE_5 ≡ TABLE_6
unfolding shift step
made_6 = refl

pub table_6 : IsTable 7 TABLE_6
table_6 = next_table 6 TABLE_5 TABLE_6 refl made_6 table_5

made_7 : map (shift 8) TABLE_6 ≡ TABLE_7
unfolding shift step
made_7 = refl

pub table_7 : IsTable 8 TABLE_7
table_7 = next_table 7 TABLE_6 TABLE_7 refl made_7 table_6

made_8 : map (shift 8) TABLE_7 ≡ TABLE_8
unfolding shift step
made_8 = refl

pub table_8 : IsTable 9 TABLE_8
table_8 = next_table 8 TABLE_7 TABLE_8 refl made_8 table_7

made_9 : map (shift 8) TABLE_8 ≡ TABLE_9
unfolding shift step
made_9 = refl

pub table_9 : IsTable 10 TABLE_9
table_9 = next_table 9 TABLE_8 TABLE_9 refl made_9 table_8

made_10 : map (shift 8) TABLE_9 ≡ TABLE_10
unfolding shift step
made_10 = refl

pub table_10 : IsTable 11 TABLE_10
table_10 = next_table 10 TABLE_9 TABLE_10 refl made_10 table_9

made_11 : map (shift 8) TABLE_10 ≡ TABLE_11
unfolding shift step
made_11 = refl

pub table_11 : IsTable 12 TABLE_11
table_11 = next_table 11 TABLE_10 TABLE_11 refl made_11 table_10

made_12 : map (shift 8) TABLE_11 ≡ TABLE_12
unfolding shift step
made_12 = refl

pub table_12 : IsTable 13 TABLE_12
table_12 = next_table 12 TABLE_11 TABLE_12 refl made_12 table_11

made_13 : map (shift 8) TABLE_12 ≡ TABLE_13
unfolding shift step
made_13 = refl

pub table_13 : IsTable 14 TABLE_13
table_13 = next_table 13 TABLE_12 TABLE_13 refl made_13 table_12

made_14 : map (shift 8) TABLE_13 ≡ TABLE_14
unfolding shift step
made_14 = refl

pub table_14 : IsTable 15 TABLE_14
table_14 = next_table 14 TABLE_13 TABLE_14 refl made_14 table_13

made_15 : map (shift 8) TABLE_14 ≡ TABLE_15
unfolding shift step
made_15 = refl

pub table_15 : IsTable 16 TABLE_15
table_15 = next_table 15 TABLE_14 TABLE_15 refl made_15 table_14
