-- A log file, by the RocksDB wiki's "Write Ahead Log File Format": blocks of 32768 bytes, which hold the fragments of
-- records.
use Rattle.std.specs.Prelude.{◌≡◌, ℕ, ◌+◌, ◌-◌, ◌%◌, ◌≤◌, List, [], ◌∷◌, ◌++◌, length, take, drop, map, replicate, flat_map, nat_lt, nat_le, if◌then◌else◌, ⊤, Option, Some, None}
use Rattle.std.specs.List.{AllByRecursion}
use Rattle.std.specs.Simd.{first_chunks}
use Rattle.std.specs.Int.{w16, w32, to_le_bytes, div_ceil}
use Rattle.model_base.specs.Checksum.{crc32c, masked}

-- a fragment is a whole record, or the first, a middle or the last part of one
pub data Kind : Type 0 where
  full : Kind
  first : Kind
  middle : Kind
  last : Kind

-- A log's format. A log may have a number of its own, which is then in each header, and the kinds have other codes. A
-- plain log has no number.
abbrev pub plain_log : Option ℕ
plain_log = None

abbrev pub kind_code : Option ℕ → Kind → ℕ
kind_code None full = 1
kind_code None first = 2
kind_code None middle = 3
kind_code None last = 4
kind_code (Some n) full = 5
kind_code (Some n) first = 6
kind_code (Some n) middle = 7
kind_code (Some n) last = 8

abbrev pub header_len : Option ℕ → ℕ
header_len None = 7
header_len (Some n) = 11

-- the most bytes of a fragment's part
abbrev pub part_len : Option ℕ → ℕ
part_len None = 32761
part_len (Some n) = 32757

pub record Fragment : Type 0 where
  pub kind : Kind
  pub part : List ℕ

-- A header: the masked checksum, the part's length, the kind's code, and the log's number if it has one. The checksum
-- is that of the code, the number and the part, without the length.
abbrev pub header : Option ℕ → ℕ → List ℕ → List ℕ
header None code part = to_le_bytes w32 (masked (crc32c (code ∷ part))) ++ to_le_bytes w16 (length part) ++ code ∷ []
header (Some n) code part = to_le_bytes w32 (masked (crc32c (code ∷ to_le_bytes w32 n ++ part)))
    ++ to_le_bytes w16 (length part) ++ code ∷ to_le_bytes w32 n

abbrev pub fragment_bytes : Option ℕ → Fragment → List ℕ
fragment_bytes number f = header number (kind_code number f.kind) f.part ++ f.part

-- how many bytes of the block are left from this offset of the log on
abbrev pub room : ℕ → ℕ
room offset = 32768 - offset % 32768

-- how many zeros come at this offset before the next fragment: none begins where the block has no room for a header
abbrev pub trailer : Option ℕ → ℕ → ℕ
trailer number offset = if nat_lt (room offset) (header_len number) then room offset else 0

-- where the next fragment begins, at this offset or after it
abbrev pub next_place : Option ℕ → ℕ → ℕ
next_place number offset = offset + trailer number offset

-- the text of the fragments from this offset of the log on, each after the zeros that come before it
abbrev pub fragments_text : Option ℕ → ℕ → List Fragment → List ℕ
fragments_text number offset [] = []
fragments_text number offset (f ∷ fs) = (replicate (trailer number offset) 0 ++ fragment_bytes number f)
    ++ fragments_text number (next_place number offset + header_len number + length f.part) fs

-- no fragment crosses the end of a block
abbrev pub FitFrom : Option ℕ → ℕ → List Fragment → Type 0
FitFrom number offset [] = ⊤
FitFrom number offset (f ∷ fs) = (header_len number + length f.part ≤ room (next_place number offset))
    × FitFrom number (next_place number offset + header_len number + length f.part) fs

-- middle parts, none or more, and then a last one
abbrev pub GoesToLast : List Kind → Type 0
GoesToLast [] = ⊥
GoesToLast (middle ∷ kinds) = GoesToLast kinds
GoesToLast (last ∷ kinds) = kinds ≡ []
GoesToLast (full ∷ kinds) = ⊥
GoesToLast (first ∷ kinds) = ⊥

-- the kinds of one record's fragments
abbrev pub AreOneRecord : List Kind → Type 0
AreOneRecord [] = ⊥
AreOneRecord (full ∷ kinds) = kinds ≡ []
AreOneRecord (first ∷ kinds) = GoesToLast kinds
AreOneRecord (middle ∷ kinds) = ⊥
AreOneRecord (last ∷ kinds) = ⊥

abbrev pub kinds_of : List Fragment → List Kind
kinds_of fs = map (λ f. f.kind) fs

-- the bytes of a record: its fragments' parts, joined
abbrev pub record_of : List Fragment → List ℕ
record_of fs = flat_map (λ f. f.part) fs

-- the fragments of several records
abbrev pub all_fragments : List (List Fragment) → List Fragment
all_fragments groups = flat_map (λ fs. fs) groups

-- the bytes are the fragments of these records, and nothing else
pub record SpellsWhole (number : Option ℕ) (bytes : List ℕ) (records : List (List ℕ)) : Type 0 where
  pub groups : List (List Fragment)
  pub whole : AllByRecursion (λ fs. AreOneRecord (kinds_of fs)) groups
  pub same : records ≡ map record_of groups
  pub fit : FitFrom number 0 (all_fragments groups)
  pub spelled : bytes ≡ fragments_text number 0 (all_fragments groups)

-- the same, but the bytes may end with some of the zeros that end a block
pub record Spells (number : Option ℕ) (bytes : List ℕ) (records : List (List ℕ)) : Type 0 where
  pub front : List ℕ
  pub zeros : ℕ
  pub records_of_front : SpellsWhole number front records
  pub few : zeros ≤ trailer number (length front)
  pub spelled : bytes ≡ front ++ replicate zeros 0

-- What the writer makes: each part but a record's last fills its block, and no more parts are made than are needed.

-- the list cut into pieces of n elements; the last piece may be shorter
abbrev pub pieces_of : {A : Type 0} → ℕ → List A → List (List A)
pieces_of n xs = first_chunks n (div_ceil (length xs) n) xs

-- the parts of a record that is written at this offset
abbrev pub parts_of : Option ℕ → ℕ → List ℕ → List (List ℕ)
parts_of number offset bytes = let space = room (next_place number offset) - header_len number in
    if nat_le (length bytes) space then bytes ∷ []
    else take space bytes ∷ pieces_of (part_len number) (drop space bytes)

-- the parts of a record after its first one, as fragments
abbrev pub later_fragments : List (List ℕ) → List Fragment
later_fragments [] = []
later_fragments (p ∷ []) = record { kind = last; part = p } ∷ []
later_fragments (p ∷ q ∷ ps) = record { kind = middle; part = p } ∷ later_fragments (q ∷ ps)

abbrev pub as_fragments : List (List ℕ) → List Fragment
as_fragments [] = []
as_fragments (p ∷ []) = record { kind = full; part = p } ∷ []
as_fragments (p ∷ q ∷ ps) = record { kind = first; part = p } ∷ later_fragments (q ∷ ps)

-- the bytes that are written for one record at this offset, and for several
abbrev pub record_text : Option ℕ → ℕ → List ℕ → List ℕ
record_text number offset bytes = fragments_text number offset (as_fragments (parts_of number offset bytes))

abbrev pub text_from : Option ℕ → ℕ → List (List ℕ) → List ℕ
text_from number offset [] = []
text_from number offset (r ∷ rs) = record_text number offset r
    ++ text_from number (offset + length (record_text number offset r)) rs

abbrev pub text : Option ℕ → List (List ℕ) → List ℕ
text number records = text_from number 0 records

-- How a log begins: its number, if it has one, and the bytes that it keeps of what the file had before.
pub record Beginning : Type 0 where
  pub number : Option ℕ
  pub kept : List ℕ

-- a plain log that keeps nothing
abbrev pub new_log : Beginning
new_log = record { number = plain_log; kept = [] }

-- the log's bytes once these records are written after the bytes that it keeps
abbrev pub text_after : Beginning → List (List ℕ) → List ℕ
text_after b records = b.kept ++ text_from b.number (length b.kept) records
