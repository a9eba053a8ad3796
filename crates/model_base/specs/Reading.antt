-- What a reader sees at a place of a log, and why reading ends there.
use Rattle.std.specs.Prelude.{◌≡◌, ℕ, ◌+◌, ◌-◌, ◌≤◌, not, Bool, List, [], ◌∷◌, ◌++◌, length, take, drop, slice_index, Option, Some, None, nat_lt, bytes_eq, ◌==◌, if◌then◌else◌, ⊤}
use Rattle.std.specs.List.{AllByRecursion, list_all}
use Rattle.std.specs.Int.{w16, w32, to_le_bytes, from_le_bytes}
use Rattle.model_base.specs.declared.log.Damage.{Damage}
use Rattle.model_base.specs.declared.log.Damage.TheVariants.{ShortHeader, Zeros, BadLength, BadType, BadChecksum, BadTrailer, OldLog}
use Rattle.model_base.specs.declared.log.EndReason.{EndReason}
use Rattle.model_base.specs.declared.log.EndReason.TheVariants as ends
use Rattle.model_base.specs.Checksum.{crc32c, masked}
use Rattle.model_base.specs.Log.{Kind, full, first, middle, last, Fragment, AreOneRecord, kinds_of, record_of, header_len, room, next_place, fragments_text, FitFrom, plain_log}

-- what a reader sees: a fragment, the end of what there is, or damage
pub data Seen : Type 0 where
  fragment : Fragment → Seen
  nothing : Seen
  damage : Damage → Seen

abbrev pub are_zeros : List ℕ → Bool
are_zeros bytes = list_all (λ b. b == 0) bytes

-- the fields of a header at the front of these bytes
abbrev pub checksum_field : List ℕ → ℕ
checksum_field bytes = from_le_bytes w32 (take 4 bytes)

abbrev pub length_field : List ℕ → ℕ
length_field bytes = from_le_bytes w16 (take 2 (drop 4 bytes))

abbrev pub type_field : List ℕ → ℕ
type_field bytes = slice_index bytes 6

abbrev pub number_field : List ℕ → ℕ
number_field bytes = from_le_bytes w32 (take 4 (drop 7 bytes))

abbrev pub part_field : Option ℕ → List ℕ → List ℕ
part_field number bytes = take (length_field bytes) (drop (header_len number) bytes)

abbrev pub kind_of_code : Option ℕ → ℕ → Option Kind
kind_of_code (Some n) code = if code == 5 then Some full else (if code == 6 then Some first
    else (if code == 7 then Some middle else (if code == 8 then Some last else None)))
kind_of_code None code = if code == 1 then Some full else (if code == 2 then Some first
    else (if code == 3 then Some middle else (if code == 4 then Some last else None)))

-- in a plain log, the fragment of this kind at the front of these bytes, if its checksum is right
abbrev pub seen_of_kind : List ℕ → Option Kind → Seen
seen_of_kind bytes None = damage (BadType (type_field bytes))
seen_of_kind bytes (Some k) = if checksum_field bytes == masked (crc32c (type_field bytes ∷ part_field plain_log bytes))
    then fragment (record { kind = k; part = part_field plain_log bytes }) else damage BadChecksum

-- the same in a log with a number; a fragment with another log's number is `OldLog` before its length is looked at
abbrev pub seen_of_kind_numbered : ℕ → List ℕ → Option Kind → Seen
seen_of_kind_numbered n bytes None = damage (BadType (type_field bytes))
seen_of_kind_numbered n bytes (Some k) =
    if not (bytes_eq (take 4 (drop 7 bytes)) (to_le_bytes w32 n)) then damage (OldLog (number_field bytes))
    else if nat_lt (length bytes) (11 + length_field bytes) then damage BadLength
    else if checksum_field bytes == masked (crc32c (type_field bytes ∷ to_le_bytes w32 n ++ part_field (Some n) bytes))
    then fragment (record { kind = k; part = part_field (Some n) bytes }) else damage BadChecksum

-- what a reader sees at the front of these bytes, where the block has `space` bytes left up to its end
unfoldable pub seen_within : Option ℕ → ℕ → List ℕ → Seen
seen_within None space bytes =
    if nat_lt space 7 then (if are_zeros bytes then nothing else damage BadTrailer)
    else if length bytes == 0 then nothing
    else if nat_lt (length bytes) 7 then damage ShortHeader
    else if are_zeros (take 7 bytes) then damage Zeros
    else if nat_lt (length bytes) (7 + length_field bytes) then damage BadLength
    else seen_of_kind bytes (kind_of_code plain_log (type_field bytes))
seen_within (Some n) space bytes =
    if nat_lt space 11 then (if are_zeros bytes then nothing else damage BadTrailer)
    else if length bytes == 0 then nothing
    else if nat_lt (length bytes) 11 then damage ShortHeader
    else if are_zeros (take 11 bytes) then damage Zeros
    else seen_of_kind_numbered n bytes (kind_of_code (Some n) (type_field bytes))

-- what it sees at this place of a block; `block` are the bytes that the file has of it
abbrev pub seen_in_block : Option ℕ → List ℕ → ℕ → Seen
seen_in_block number block at = seen_within number (32768 - at) (drop at block)

-- what it sees at this place of a file
abbrev pub seen_at : Option ℕ → List ℕ → ℕ → Seen
seen_at number file place = seen_within number (room place) (take (room place) (drop place file))

-- what the reader sees next, and where; after the zeros that end a block it goes on in the next block
pub record Next : Type 0 where
  pub at : ℕ
  pub seen : Seen

abbrev pub behind_zeros : Option ℕ → List ℕ → ℕ → Seen → Next
behind_zeros number file offset nothing =
    record { at = next_place number offset; seen = seen_at number file (next_place number offset) }
behind_zeros number file offset (damage d) = record { at = offset; seen = damage d }
behind_zeros number file offset (fragment f) = record { at = offset; seen = fragment f }

abbrev pub next_seen : Option ℕ → List ℕ → ℕ → Next
next_seen number file offset = behind_zeros number file offset (seen_at number file offset)

-- from this offset on the file has these fragments
pub record HasFragments (number : Option ℕ) (file : List ℕ) (offset : ℕ) (fs : List Fragment) : Type 0 where
  pub rest : List ℕ
  pub there : drop offset file ≡ fragments_text number offset fs ++ rest
  pub fit : FitFrom number offset fs

abbrev pub end_of : Option ℕ → ℕ → List Fragment → ℕ
end_of number offset fs = offset + length (fragments_text number offset fs)

-- the kinds of a record's first fragments, none or more, where its last fragment is still missing
abbrev pub AreBegun : List Kind → Type 0
AreBegun [] = ⊤
AreBegun (first ∷ kinds) = AllByRecursion (λ k. k ≡ middle) kinds
AreBegun (full ∷ kinds) = ⊥
AreBegun (middle ∷ kinds) = ⊥
AreBegun (last ∷ kinds) = ⊥

-- from this offset on the file has these fragments, which begin a record or are none, and after them the reader sees
-- `next`
pub record ReadsThenSees (number : Option ℕ) (file : List ℕ) (offset : ℕ) (fs : List Fragment) (next : Next)
    : Type 0 where
  pub begun : AreBegun (kinds_of fs)
  pub stand : HasFragments number file offset fs
  pub is_next : next ≡ next_seen number file (end_of number offset fs)

-- why no record can be read at this offset, and at which offset that shows
pub data ReadingEnds (number : Option ℕ) (file : List ℕ) (offset : ℕ) : ℕ → EndReason → Type 0 where
  -- the file ends where a record may begin
  clean : {at : ℕ} → ReadsThenSees number file offset [] (record { at = at; seen = nothing })
      → ReadingEnds number file offset (length file) ends.Clean
  -- there is damage where a fragment was expected
  broken : {at : ℕ} {d : Damage} (fs : List Fragment)
      → ReadsThenSees number file offset fs (record { at = at; seen = damage d })
      → ReadingEnds number file offset at (ends.Broken d)
  -- a fragment is there, but neither continues nor ends the record
  bad_order : {at : ℕ} {f : Fragment} (fs : List Fragment)
      → ReadsThenSees number file offset fs (record { at = at; seen = fragment f })
      → (AreBegun (kinds_of (fs ++ f ∷ [])) → ⊥) → (AreOneRecord (kinds_of (fs ++ f ∷ [])) → ⊥)
      → ReadingEnds number file offset at ends.BadOrder
  -- the file ends inside a record
  unfinished : {at : ℕ} (f : Fragment) (fs : List Fragment)
      → ReadsThenSees number file offset (f ∷ fs) (record { at = at; seen = nothing })
      → ReadingEnds number file offset (next_place number offset) ends.Unfinished

-- these bytes are the record that the file has from this offset on, after the zeros that are due there; it begins at
-- `start` and ends at `end`
pub record IsRecord (number : Option ℕ) (file : List ℕ) (offset start end : ℕ) (bytes : List ℕ) : Type 0 where
  pub fragments : List Fragment
  pub one : AreOneRecord (kinds_of fragments)
  pub stand : HasFragments number file offset fragments
  pub starts : start ≡ next_place number offset
  pub ends : end ≡ end_of number offset fragments
  pub bytes_are : bytes ≡ record_of fragments
  pub in_file : end ≤ length file
