-- What is seen at the start of some bytes, case by case.
use Rattle.std.proofs.Common.{◌≡◌, ℕ, ◌+◌, ◌<◌, ◌≤◌, true, false, List, length, take, drop, not, bytes_eq, Option, Some, None, nat_lt, ◌==◌, cond, refl, ap, ◌∙◌, arith}
use Rattle.std.proofs.lemmas.Bool.{lt-ltb, le-ltb, ne_eqb}
use Rattle.std.specs.Int.{w32, to_le_bytes}
use Rattle.model_base.specs.declared.log.Damage.TheVariants.{ShortHeader, Zeros, BadLength, BadTrailer, OldLog}
use Rattle.model_base.specs.Log.{Kind, kind_code, header_len}
use Rattle.model_base.specs.Reading.{nothing, damage, seen_within, seen_of_kind, seen_of_kind_numbered, are_zeros, length_field, type_field, number_field, kind_of_code}
use Rattle.log_block.specs.Fragments.{decided, by_checksum}
use Rattle.log_block.proofs.Types.{own_code}

seen_is : (number : Option ℕ) (space : ℕ) (bytes : List ℕ) → seen_within number space bytes ≡ cond (nat_lt space (header_len number)) (cond (are_zeros bytes) nothing (damage BadTrailer))
    (cond (length bytes == 0) nothing (cond (nat_lt (length bytes) (header_len number)) (damage ShortHeader) (cond (are_zeros (take (header_len number) bytes)) (damage Zeros) (decided number bytes))))
unfolding seen_within
seen_is None space bytes = refl
seen_is (Some n) space bytes = refl

-- the trailer of a block is zeros
pub seen_zeros : (number : Option ℕ) (space : ℕ) (bytes : List ℕ) → space < header_len number → are_zeros bytes ≡ true → seen_within number space bytes ≡ nothing
seen_zeros number space bytes few zeros =
    let e : nat_lt space (header_len number) ≡ true = lt-ltb space (header_len number) few in
    seen_is number space bytes ∙ rw (e, zeros) refl

-- the trailer of a block has other bytes
pub seen_trailer : (number : Option ℕ) (space : ℕ) (bytes : List ℕ) → space < header_len number → are_zeros bytes ≡ false → seen_within number space bytes ≡ damage BadTrailer
seen_trailer number space bytes few others =
    let e : nat_lt space (header_len number) ≡ true = lt-ltb space (header_len number) few in
    seen_is number space bytes ∙ rw (e, others) refl

-- there are no bytes
pub seen_none : (number : Option ℕ) (space : ℕ) (bytes : List ℕ) → header_len number ≤ space → length bytes ≡ 0 → seen_within number space bytes ≡ nothing
seen_none number space bytes many none =
    let e : nat_lt space (header_len number) ≡ false = le-ltb space (header_len number) many in
    seen_is number space bytes ∙ rw (e, none) refl

-- there are some bytes, but too few for a header
pub seen_short : (number : Option ℕ) (space : ℕ) (bytes : List ℕ) → header_len number ≤ space → 0 < length bytes → length bytes < header_len number → seen_within number space bytes ≡ damage ShortHeader
seen_short number space bytes many some few =
    let e : nat_lt space (header_len number) ≡ false = le-ltb space (header_len number) many in
    let f = ne_eqb (length bytes) 0 (λ none. omega arith) in
    let g : nat_lt (length bytes) (header_len number) ≡ true = lt-ltb (length bytes) (header_len number) few in
    seen_is number space bytes ∙ rw (e, f, g) refl

-- there is a header: it is zeros, or else its fields decide
pub seen_there : (number : Option ℕ) (space : ℕ) (bytes : List ℕ) → header_len number ≤ space → 0 < length bytes → header_len number ≤ length bytes
    → seen_within number space bytes ≡ cond (are_zeros (take (header_len number) bytes)) (damage Zeros) (decided number bytes)
seen_there number space bytes many some there =
    let e : nat_lt space (header_len number) ≡ false = le-ltb space (header_len number) many in
    let f = ne_eqb (length bytes) 0 (λ none. omega arith) in
    let g : nat_lt (length bytes) (header_len number) ≡ false = le-ltb (length bytes) (header_len number) there in
    seen_is number space bytes ∙ rw (e, f, g) refl

-- in a log without a number, a header with a right type whose whole part is there: its checksum decides
pub plain_by_checksum : (bytes : List ℕ) (kind : Kind) → 7 + length_field bytes ≤ length bytes → type_field bytes ≡ kind_code None kind → decided None bytes ≡ by_checksum None kind bytes
plain_by_checksum bytes kind there code_is =
    let e : nat_lt (length bytes) (7 + length_field bytes) ≡ false = le-ltb (length bytes) (7 + length_field bytes) there in
    ap (λ b. cond b (damage BadLength) (seen_of_kind bytes (kind_of_code None (type_field bytes)))) e
    ∙ ap (seen_of_kind bytes) (ap (kind_of_code None) code_is ∙ own_code None kind)

-- and in a log with a number, if the header has this number too
pub numbered_by_checksum : (n : ℕ) (bytes : List ℕ) (kind : Kind) → not (bytes_eq (take 4 (drop 7 bytes)) (to_le_bytes w32 n)) ≡ false → 11 + length_field bytes ≤ length bytes → type_field bytes ≡ kind_code (Some n) kind
    → decided (Some n) bytes ≡ by_checksum (Some n) kind bytes
numbered_by_checksum n bytes kind own there code_is =
    let e : nat_lt (length bytes) (11 + length_field bytes) ≡ false = le-ltb (length bytes) (11 + length_field bytes) there in
    ap (seen_of_kind_numbered n bytes) (ap (kind_of_code (Some n)) code_is ∙ own_code (Some n) kind)
    ∙ (ap (λ b. cond b (damage (OldLog (number_field bytes))) (cond (nat_lt (length bytes) (11 + length_field bytes)) (damage BadLength) (by_checksum (Some n) kind bytes))) own
    ∙ ap (λ b. cond b (damage BadLength) (by_checksum (Some n) kind bytes)) e)
