-- The register in which a CRC-32C is computed: the remainder of the long division as a number, whose lowest bit is the
-- coefficient of the highest power.
use Rattle.std.specs.Prelude.{ℕ, zero, suc, ◌*◌, ◌/◌, ◌%◌, Bool, true, false, fold}
use Rattle.std.specs.Int.Bits.{bit_xor}
use Rattle.model_base.specs.Checksum.{low_bits}

-- the divisor without its leading coefficient
abbrev pub low_divisor : ℕ
low_divisor = 0x82F63B78

-- the bit as the lowest bit of a number
abbrev pub lowest : Bool → ℕ
lowest true = 1
lowest false = 0

-- the bit as the highest of 32 bits
abbrev pub highest : Bool → ℕ
highest true = 0x80000000
highest false = 0

-- one step of the division: the register without its leading coefficient, less the divisor if that coefficient is 1,
-- and with b as its next coefficient, at the low power
unfoldable pub step : ℕ → Bool → ℕ
step n b = bit_xor (bit_xor (n / 2) (n % 2 * low_divisor)) (highest b)

-- k steps whose next coefficients are all 0
unfoldable pub shift : ℕ → ℕ → ℕ
shift zero n = n
shift (suc k) n = shift k (step n false)

-- a step that takes in the bit at the high power
unfoldable pub take_in : ℕ → Bool → ℕ
take_in n b = step (bit_xor n (lowest b)) false

-- the register after the bits of a byte, the low one first
unfoldable pub take_in_byte : ℕ → ℕ → ℕ
take_in_byte n byte = fold take_in n (low_bits 8 byte)
