-- The fields of a header, as the numbers that are read there.
use Rattle.std.proofs.Common.{◌≡◌, ℕ, ◌-◌, List, length, take, drop, arith, length-drop}
use Rattle.std.proofs.lemmas.List.{take_all}
use Rattle.byteorder.specs.Endian.{little_number}
use Rattle.model_base.specs.Reading.{checksum_field, length_field}

-- taking all bytes that are left from a place on takes what follows the place
pub rest_is : (block : List ℕ) (at : ℕ) → take (length block - at) (drop at block) ≡ drop at block
rest_is block at = take_all (length block - at) (drop at block) (omega (arith, length-drop at block))

-- the length field is the number in the two bytes after the checksum
pub length_read : (bytes : List ℕ) → little_number 2 (take 2 (drop 4 bytes)) ≡ length_field bytes
length_read bytes = omega arith

-- the checksum field is the number in the first four bytes
pub checksum_read : (bytes : List ℕ) → little_number 4 (take 4 bytes) ≡ checksum_field bytes
checksum_read bytes = omega arith
