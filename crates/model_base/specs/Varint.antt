-- A varint32, as `PutVarint32` of RocksDB's util/coding.cc writes it and `GetVarint32` reads it, but only in its
-- shortest spelling.
use Rattle.std.specs.Prelude.{◌≡◌, ℕ, zero, suc, ◌+◌, ◌*◌, ◌/◌, ◌%◌, ◌^◌, ◌<◌, ◌≤◌, List, [], ◌∷◌, length, take, slice_get, Some, nat_lt, if◌then◌else◌}
use Rattle.std.specs.List.{AllByRecursion}
use Rattle.model_base.specs.declared.coding.CodeError.{CodeError}
use Rattle.model_base.specs.declared.coding.CodeError.TheVariants.{Short, NotShortest, TooLong}

-- A byte below 128 spells itself. The byte 128 + a, with a below 128, and then a spelling of a number `high` above 0
-- spell a + 128 * high. So a number has one spelling.
abbrev pub IsVarint : List ℕ → ℕ → Type 0
IsVarint [] n = ⊥
IsVarint (b ∷ []) n = (b < 128) × (n ≡ b)
IsVarint (b ∷ c ∷ bs) n = (128 ≤ b) × (b < 256) × (high : ℕ) × (0 < high) × (n + 128 ≡ b + 128 * high)
    × IsVarint (c ∷ bs) high

-- the first `used` of these bytes spell n, a number of 32 bits
pub record BeginsVarint (bytes : List ℕ) (n used : ℕ) : Type 0 where
  pub spelled : IsVarint (take used bytes) n
  pub within : used ≤ length bytes
  pub fits : n < 2 ^ 32

-- the spelling of n as a list, cut off after k bytes
unfoldable pub varint_within : ℕ → ℕ → List ℕ
varint_within zero n = []
varint_within (suc k) n = if nat_lt n 128 then n ∷ [] else (128 + n % 128) ∷ varint_within k (n / 128)

-- the spelling of a number below 2 ^ 32, which has five bytes at most
abbrev pub varint : ℕ → List ℕ
varint n = varint_within 5 n

-- each of the first k bytes says that another follows
abbrev pub GoesOn : ℕ → List ℕ → Type 0
GoesOn k bytes = (k ≤ length bytes) × AllByRecursion (λ b. 128 ≤ b) (take k bytes)

-- why these bytes don't begin with a varint32: they end before its last byte; or its fifth byte is above 15; or its
-- last byte is 0 and isn't its first
abbrev pub IsCodeError : List ℕ → CodeError → Type 0
IsCodeError bytes Short = (length bytes < 5) × GoesOn (length bytes) bytes
IsCodeError bytes TooLong = GoesOn 4 bytes × (b : ℕ) × (slice_get bytes 4 ≡ Some b) × (15 < b)
IsCodeError bytes NotShortest = (k : ℕ) × (1 ≤ k) × (k ≤ 4) × GoesOn k bytes × (slice_get bytes k ≡ Some 0)
