-- What a batch has: its sequence and its additions, and the bytes of these.
use Rattle.std.specs.Prelude.{◌≡◌, ◌≤◌, ℕ, max, List, [], ◌∷◌, ◌++◌, length, fold}
use Rattle.model_base.specs.declared.limits.TheConstants.{MAX_SIZE}
use Rattle.std.specs.List.{AllByRecursion}
use Rattle.model_base.specs.Batch.{Record, count_of, header, body, IsReadable, size_of_batch}
use Rattle.model_base.specs.Progress.{families_in}

-- the sequence of a batch, and its additions in order
pub record Contents : Type 0 where
  pub sequence : ℕ
  pub records : List Record

-- no additions, and the sequence 0
abbrev pub empty : Contents
empty = record { sequence = 0; records = [] }

-- the contents with one more addition at the end
abbrev pub with_addition : Contents → Record → Contents
with_addition contents addition = record contents { records = contents.records ++ addition ∷ [] }

-- how many bytes the batch has with this addition
abbrev pub size_with : Contents → Record → ℕ
size_with contents addition = size_of_batch (with_addition contents addition).records

-- the contents with these additions at the end
abbrev pub with_additions : Contents → List Record → Contents
with_additions contents additions = record contents { records = contents.records ++ additions }

-- how many bytes the batch has with these additions
abbrev pub size_with_all : Contents → List Record → ℕ
size_with_all contents additions = size_of_batch (with_additions contents additions).records

-- the greatest family that records are about, or 0 if they are about none
abbrev pub greatest_named : List Record → ℕ
greatest_named records = fold (λ n f. max n f) 0 (families_in records)

-- The bytes are those of a batch with this sequence, this count and the additions `records`. No other additions have
-- these bytes.
pub record IsBatch (bytes : List ℕ) (sequence count : ℕ) : Type 0 where
  pub records : List Record
  pub count_is : count ≡ count_of records
  pub readable : AllByRecursion IsReadable records
  pub bytes_are : bytes ≡ header sequence count ++ body records
  pub fits : length bytes ≤ MAX_SIZE
