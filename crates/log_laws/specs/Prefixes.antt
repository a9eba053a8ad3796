-- What a crash may leave of a log: a prefix of the records that were written, each of them whole.
use Rattle.std.specs.Prelude.{◌≡◌, ℕ, ◌≤◌, List, length, take, map, Option}
use Rattle.std.specs.List.{AllByRecursion}
use Rattle.model_base.specs.Batch.{IsBatch}
use Rattle.model_base.specs.Recovery.{Logged, logged_bytes, AreInOrder, Recovered, IsRecovered, IsRead}

-- These are the first records (`many` of them), none left out and none in part, and P holds of their number.
pub record IsPrefix (found records : List (List ℕ)) (P : ℕ → Type 0) : Type 0 where
  pub many : ℕ
  pub some : many ≤ length records
  pub same : found ≡ take many records
  pub enough : P many

-- what the file recovers, as a log with this number, is a prefix of these records
abbrev pub RecoversPrefix : Option ℕ → List (List ℕ) → List ℕ → (ℕ → Type 0) → Type 0
RecoversPrefix number records file P = (r : Recovered) → IsRecovered number file r
    → IsPrefix (map logged_bytes r.batches) records P

-- the records that a reader gets from the file are such a prefix
abbrev pub ReadsPrefix : Option ℕ → List (List ℕ) → List ℕ → (ℕ → Type 0) → Type 0
ReadsPrefix number records file P = (found : List (List ℕ)) → IsRead number file found → IsPrefix found records P

-- the image begins with this text
abbrev pub BeginsWith : List ℕ → List ℕ → Type 0
BeginsWith t image = (length t ≤ length image) × (take (length t) image ≡ t)

-- Up to this place the content is a front of the text, as far as that place.
pub record HoldsFront (text : List ℕ) (place : ℕ) (content : List ℕ) : Type 0 where
  pub within : place ≤ length text
  pub same : take place content ≡ take place text

-- the records are these batches, whose runs rise
abbrev pub AreTheseBatches : List (List ℕ) → List Logged → Type 0
AreTheseBatches records batches = (map logged_bytes batches ≡ records)
    × AllByRecursion (λ b. IsBatch (logged_bytes b) b.first b.records) batches × AreInOrder 0 batches
