-- A write batch, as the comment at the head of RocksDB's db/write_batch.cc describes it: a header of 12 bytes, and then
-- records.
--     sequence: fixed64, count: fixed32, records
-- A record is a tag, the number of a column family as a varint32 if the tag says that one follows, and one or two
-- strings, each with its length as a varint32 before it.
use Rattle.std.specs.Prelude.{◌≡◌, ◌⊎◌, ◌≢◌, ℕ, ◌+◌, ◌^◌, ◌<◌, ◌≤◌, Bool, true, false, IsTrue, List, [], ◌∷◌, ◌++◌, length, take, drop, count_by, flat_map, ◌==◌, if◌then◌else◌, Option, Some, None, IfSome}
use Rattle.std.specs.List.{AllByRecursion, list_any}
use Rattle.std.specs.Int.{w32, w64, to_le_bytes, from_le_bytes}
use Rattle.model_base.specs.declared.coding.CodeError.TheVariants as code
use Rattle.model_base.specs.declared.batch.BatchError.{BatchError}
use Rattle.model_base.specs.declared.batch.BatchError.TheVariants.{Short, BadVarint, Tag, Count}
use Rattle.model_base.specs.Varint.{varint, BeginsVarint, IsCodeError}

-- A record of a batch. Each kind but log data is about a key, and may name the key's column family by its number.
pub data Record : Type 0 where
  value : Option ℕ → List ℕ → List ℕ → Record
  deletion : Option ℕ → List ℕ → Record
  single_deletion : Option ℕ → List ℕ → Record
  log_data : List ℕ → Record

-- a record's first byte
abbrev pub tag_of : Record → ℕ
tag_of (deletion None key) = 0
tag_of (value None key v) = 1
tag_of (log_data blob) = 3
tag_of (deletion (Some family) key) = 4
tag_of (value (Some family) key v) = 5
tag_of (single_deletion None key) = 7
tag_of (single_deletion (Some family) key) = 8

-- the family that a record names, if it names one
abbrev pub named_by : Record → Option ℕ
named_by (value family key v) = family
named_by (deletion family key) = family
named_by (single_deletion family key) = family
named_by (log_data blob) = None

-- the strings at a record's end
abbrev pub strings_of : Record → List (List ℕ)
strings_of (deletion family key) = key ∷ []
strings_of (value family key v) = key ∷ v ∷ []
strings_of (log_data blob) = blob ∷ []
strings_of (single_deletion family key) = key ∷ []

-- The tags that are read. Any other tag is refused, and the refusal names it.
abbrev pub tags : List ℕ
tags = 0 ∷ 1 ∷ 3 ∷ 4 ∷ 5 ∷ 7 ∷ 8 ∷ []

abbrev pub is_tag : ℕ → Bool
is_tag t = list_any (λ u. u == t) tags

-- the tags after which a family's number follows
abbrev pub names_family : ℕ → Bool
names_family t = list_any (λ u. u == t) (4 ∷ 5 ∷ 8 ∷ [])

-- how many strings follow a tag, after the family's number if there is one
abbrev pub strings_after : ℕ → ℕ
strings_after t = if list_any (λ u. u == t) (1 ∷ 5 ∷ []) then 2 else 1

-- each record but log data counts, and takes a sequence
abbrev pub is_counted : Record → Bool
is_counted (value family key v) = true
is_counted (deletion family key) = true
is_counted (single_deletion family key) = true
is_counted (log_data blob) = false

abbrev pub count_of : List Record → ℕ
count_of records = count_by is_counted records

-- a length and that many bytes
abbrev pub varstring : List ℕ → List ℕ
varstring bytes = varint (length bytes) ++ bytes

-- the number of a family, if one is named
abbrev pub family_bytes : Option ℕ → List ℕ
family_bytes None = []
family_bytes (Some family) = varint family

abbrev pub record_bytes : Record → List ℕ
record_bytes r = tag_of r ∷ (family_bytes (named_by r) ++ flat_map varstring (strings_of r))

abbrev pub header : ℕ → ℕ → List ℕ
header sequence count = to_le_bytes w64 sequence ++ to_le_bytes w32 count

abbrev pub body : List Record → List ℕ
body records = flat_map record_bytes records

-- the bytes of a batch
abbrev pub batch : ℕ → List Record → List ℕ
batch sequence records = header sequence (count_of records) ++ body records

-- a record whose bytes can be read: its numbers fit in a varint32
pub record IsReadable (r : Record) : Type 0 where
  pub tag : IsTrue (is_tag (tag_of r))
  pub family : IfSome (named_by r) (λ family. family < 2 ^ 32)
  pub lengths : AllByRecursion (λ s. length s < 2 ^ 32) (strings_of r)

-- the bytes are the batch of these records at this sequence
pub record IsBatch (bytes : List ℕ) (sequence : ℕ) (records : List Record) : Type 0 where
  pub spelled : bytes ≡ batch sequence records
  pub readable : AllByRecursion IsReadable records
  pub sequence_fits : sequence < 2 ^ 64
  pub count_fits : count_of records < 2 ^ 32

abbrev pub size_of_batch : List Record → ℕ
size_of_batch records = length (batch 0 records)

-- The bytes of a group's one log record, a batch too: a header of the first sequence and the sum of the counts, then
-- the members' bodies.
abbrev pub group_record : ℕ → List (List Record) → List ℕ
group_record first members = batch first (flat_map (λ records. records) members)

-- these bytes don't begin with a varstring, and why: its length can't be read, or goes past the end
abbrev pub NoVarstring : List ℕ → BatchError → Type 0
NoVarstring bytes Short = IsCodeError bytes code.Short
    ⊎ ((n : ℕ) × (used : ℕ) × BeginsVarint bytes n used × (length bytes < used + n))
NoVarstring bytes BadVarint = IsCodeError bytes code.NotShortest ⊎ IsCodeError bytes code.TooLong
NoVarstring bytes (Tag t) = ⊥
NoVarstring bytes (Count said found) = ⊥

-- of the n varstrings that these bytes should begin with, some are there, and the next one isn't
abbrev pub StringsBreak : ℕ → List ℕ → BatchError → Type 0
StringsBreak n bytes error = (whole : List (List ℕ)) × (rest : List ℕ) × (length whole < n)
    × AllByRecursion (λ s. length s < 2 ^ 32) whole
    × (bytes ≡ flat_map varstring whole ++ rest) × NoVarstring rest error

-- these bytes don't begin with a family's number, and why
abbrev pub NoFamily : List ℕ → BatchError → Type 0
NoFamily bytes Short = IsCodeError bytes code.Short
NoFamily bytes BadVarint = IsCodeError bytes code.NotShortest ⊎ IsCodeError bytes code.TooLong
NoFamily bytes (Tag t) = ⊥
NoFamily bytes (Count said found) = ⊥

-- What should follow a tag isn't there, and why: the family's number, where the tag says that one follows, or one of
-- the strings.
abbrev pub RestBreaks : Bool → ℕ → List ℕ → BatchError → Type 0
RestBreaks false n bytes error = StringsBreak n bytes error
RestBreaks true n bytes error = NoFamily bytes error
    ⊎ ((family : ℕ) × (rest : List ℕ) × (family < 2 ^ 32) × (bytes ≡ varint family ++ rest) × StringsBreak n rest error)

-- these bytes don't begin with a record, and why
abbrev pub NoRecord : List ℕ → BatchError → Type 0
NoRecord [] error = ⊥
NoRecord (t ∷ bytes) error = (IsTrue (is_tag t) × RestBreaks (names_family t) (strings_after t) bytes error)
    ⊎ ((is_tag t ≡ false) × (error ≡ Tag t))

-- why bytes are no batch
pub data IsBatchError (bytes : List ℕ) : BatchError → Type 0 where
  -- fewer bytes than a header
  no_header : length bytes < 12 → IsBatchError bytes Short
  -- some records, none or more, and then bytes that don't begin with one
  no_record : {error : BatchError} (records : List Record) (rest : List ℕ) → 12 ≤ length bytes
      → AllByRecursion IsReadable records
      → drop 12 bytes ≡ body records ++ rest → NoRecord rest error → IsBatchError bytes error
  -- the number of counted records isn't what the header says
  wrong_count : {said : ℕ} (records : List Record) → 12 ≤ length bytes → AllByRecursion IsReadable records
      → drop 12 bytes ≡ body records → said ≡ from_le_bytes w32 (take 4 (drop 8 bytes)) → said ≢ count_of records
      → IsBatchError bytes (Count said (count_of records))
