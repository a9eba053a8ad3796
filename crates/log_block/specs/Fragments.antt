-- What the reader of a block answers, compared with what the definition sees there.
use Rattle.std.specs.Prelude.{◌≡◌, ℕ, ◌+◌, ◌≤◌, List, length, slice_range, Option, Some, None, nat_lt, ◌==◌, if◌then◌else◌}
use Rattle.model_base.specs.declared.log.Damage.TheVariants.{BadLength, BadChecksum}
use Rattle.model_base.specs.Checksum.{crc32c, masked}
use Rattle.model_base.specs.Log.{Kind, kind_code, header_len, plain_log}
use Rattle.model_base.specs.Reading as reading
use Rattle.log_block.specs.Headers.{summed}
use Rattle.log_block.specs.declared.fragments.Seen.{Seen}
use Rattle.log_block.specs.declared.fragments.Seen.TheVariants.{Fragment, End, Damage}

-- A fragment with this type is seen at this place of the block. Its part comes right after its header, from `start` to
-- `end`.
pub record IsFragmentAt (number : Option ℕ) (block : List ℕ) (at kind start end : ℕ) (seen : reading.Seen)
    : Type 0 where
  pub of_kind : Kind
  pub code : kind ≡ kind_code number of_kind
  pub behind_header : start ≡ at + header_len number
  pub ordered : start ≤ end
  pub in_block : end ≤ length block
  pub is_seen : seen ≡ reading.fragment (record { kind = of_kind; part = slice_range block start end })

-- the answer is what is seen at this place of the block, in a log of this format
abbrev pub Tells : Option ℕ → List ℕ → ℕ → Seen → reading.Seen → Type 0
Tells number block at (Fragment kind start end) seen = IsFragmentAt number block at kind start end seen
Tells number block at End seen = seen ≡ reading.nothing
Tells number block at (Damage d) seen = seen ≡ reading.damage d

-- what is seen in bytes that begin with a header that isn't zeros, by the fields of the header
abbrev pub decided : Option ℕ → List ℕ → reading.Seen
decided None bytes = if nat_lt (length bytes) (7 + reading.length_field bytes) then reading.damage BadLength
    else reading.seen_of_kind bytes (reading.kind_of_code plain_log (reading.type_field bytes))
decided (Some n) bytes =
    reading.seen_of_kind_numbered n bytes (reading.kind_of_code (Some n) (reading.type_field bytes))

-- the fragment of this kind if the checksum in its header is right, else `BadChecksum`
abbrev pub by_checksum : Option ℕ → Kind → List ℕ → reading.Seen
by_checksum number kind bytes = let part = reading.part_field number bytes in
    if reading.checksum_field bytes == masked (crc32c (summed number (reading.type_field bytes) part))
    then reading.fragment (record { kind = kind; part = part }) else reading.damage BadChecksum
