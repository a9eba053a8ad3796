-- What a reader of a log sees in one of its blocks. Where a definition takes `number` first, that is the log's number,
-- if it has one.
use Rattle.std.specs.Prelude.{◌≡◌, ℕ, ◌+◌, ◌%◌, ◌<◌, ◌≤◌, List, [], ◌∷◌, length, take, drop, slice_range, Option}
use Rattle.model_base.specs.Log.{Kind, kind_code, next_place}
use Rattle.model_base.specs.Reading as reading
use Rattle.model_base.specs.Reading.{next_seen, end_of, HasFragments}
use Rattle.log_block.specs.declared.fragments.Seen.{Seen}
use Rattle.log_block.specs.declared.fragments.Seen.TheVariants as seen

-- the first `len` bytes of `block` are the block of the file that begins at `start`, as far as the file has it
abbrev pub ReadsBlock : List ℕ → ℕ → List ℕ → ℕ → Type 0
ReadsBlock file start block len = take len block ≡ take 32768 (drop start file)

-- this is the block that begins at this offset of the file, as far as the file has it
pub record IsBlock (file : List ℕ) (start : ℕ) (block : List ℕ) : Type 0 where
  pub aligned : start % 32768 ≡ 0
  pub in_file : start ≤ length file
  pub bytes : block ≡ take 32768 (drop start file)

-- from both offsets a reader sees the same next
abbrev pub SeesSameFrom : Option ℕ → List ℕ → ℕ → ℕ → Type 0
SeesSameFrom number file offset place = next_seen number file offset ≡ next_seen number file place

-- what a reader sees next from an offset is a fragment with this code in the block: its header begins at the place
-- `at`, and its part is from `from` to `to`
pub record IsNext (number : Option ℕ) (file : List ℕ) (offset start : ℕ) (block : List ℕ) (at code from to : ℕ) :
    Type 0 where
  pub kind : Kind
  pub code_is : code ≡ kind_code number kind
  pub seen : next_seen number file offset
      ≡ record { at = start + at; seen = reading.fragment (record { kind = kind; part = slice_range block from to }) }
  pub place : start + at ≡ next_place number offset
  pub stands : HasFragments number file offset (record { kind = kind; part = slice_range block from to } ∷ [])
  pub end : end_of number offset (record { kind = kind; part = slice_range block from to } ∷ []) ≡ start + to
  pub in_file : start + to ≤ length file

-- what a reader sees next from an offset: a fragment or damage at the place `at` of the block, or nothing, where the
-- file ends with the block's bytes
abbrev pub SeenNext : Option ℕ → List ℕ → ℕ → ℕ → List ℕ → ℕ → Seen → Type 0
SeenNext number file offset start block at (seen.Fragment code from to) =
    IsNext number file offset start block at code from to
SeenNext number file offset start block at seen.End =
    (reading.Next.seen (next_seen number file offset) ≡ reading.nothing) × (length file ≡ start + length block)
SeenNext number file offset start block at (seen.Damage d) =
    next_seen number file offset ≡ record { at = start + at; seen = reading.damage d }

-- the same, but at the end of a whole block the reader goes on in the next one
abbrev pub SeenThere : Option ℕ → List ℕ → ℕ → ℕ → List ℕ → ℕ → Seen → Type 0
SeenThere number file offset start block at (seen.Fragment code from to) =
    SeenNext number file offset start block at (seen.Fragment code from to)
SeenThere number file offset start block at seen.End =
    (length block ≡ 32768 → SeesSameFrom number file offset (start + 32768))
    × (length block < 32768 → SeenNext number file offset start block at seen.End)
SeenThere number file offset start block at (seen.Damage d) = SeenNext number file offset start block at (seen.Damage d)

-- a fragment's part lies in the block, of which the file has `len` bytes, after the place where its header begins
abbrev pub PartIn : ℕ → ℕ → Seen → Type 0
PartIn len at (seen.Fragment code from to) = (at < from) × (from ≤ to) × (to ≤ len)
PartIn len at seen.End = Unit {0}
PartIn len at (seen.Damage d) = Unit {0}
