-- How long a log's header and its longest part are, in each format.
use Rattle.std.proofs.Common.{◌≡◌, ℕ, ◌+◌, ◌-◌, ◌%◌, ◌<◌, ◌≤◌, Option, Some, None, cond, nat_lt, refl, ap}
use Rattle.std.proofs.Math.Dec.{lit<, lit≤}
use Rattle.model_base.specs.Log.{header_len, part_len, trailer}

-- a header and the longest part fill a block
pub with_header : (number : Option ℕ) → header_len number + part_len number ≡ 32768
with_header None = refl
with_header (Some n) = refl

pub header_small : (number : Option ℕ) → header_len number ≤ 11
header_small None = lit≤ tt
header_small (Some n) = lit≤ tt

pub some_part : (number : Option ℕ) → 0 < part_len number
some_part None = lit< tt
some_part (Some n) = lit< tt

-- there are no zeros at the start of a block
pub starts_block : (number : Option ℕ) (offset : ℕ) → offset % 32768 ≡ 0 → trailer number offset ≡ 0
starts_block None offset e = ap (λ (r : ℕ). cond (nat_lt (32768 - r) 7) (32768 - r) 0) e
starts_block (Some n) offset e = ap (λ (r : ℕ). cond (nat_lt (32768 - r) 11) (32768 - r) 0) e
