-- What a call of a reader over bytes in memory gives.
use Rattle.std.specs.Prelude.{◌≡◌, ◌≢◌, ℕ, ◌+◌, ◌≤◌, ◌==◌, Bool, true, false, List, Option, Some, None, IfSome, if◌then◌else◌}
use Rattle.model_base.specs.Batch.{Record, count_of, IsBatch}
use Rattle.log_reader.specs.declared.reader.Next.{Next}
use Rattle.log_reader.specs.declared.reader.Next.TheVariants as next
use Rattle.log_reader.specs.Reader.{Reader, Follows, PlaceAfter, GoesForward}
use Rattle.log_reader.specs.Records.{Reads, stopped_by}

-- the number of a log; where 0 is given it has none
abbrev pub number_of : ℕ → Option ℕ
number_of number = if number == 0 then None else Some number

-- a reader that hasn't stopped reads on, and this is its answer
pub record Goes (file : List ℕ) (old new : Reader) (answer : Next) : Type 0 where
  pub reads : Follows file old → Reads old.number file old.place new.in_hand answer
  pub place : PlaceAfter old new answer
  pub forward : GoesForward old.place answer
  pub stopped : new.stopped ≡ stopped_by answer

-- A reader is asked for the next record of the file. Once it has stopped it gives the same answer again.
pub record ReadsOn (file : List ℕ) (old new : Reader) (answer : Next) : Type 0 where
  pub number : new.number ≡ old.number
  pub follows : Follows file old → Follows file new
  pub goes : old.stopped ≡ None → Goes file old new answer
  pub again : IfSome old.stopped (λ told. (answer ≡ told) × (new ≡ old))

-- whether an answer is a record
abbrev pub is_record : Next → Bool
is_record (next.Record start end) = true
is_record (next.End at why) = false
is_record (next.Fault count) = false
is_record next.NoMemory = false

-- the bytes are a batch that takes no sequence, or whose last one is lower than `since`
pub record IsSkipped (since : ℕ) (bytes : List ℕ) : Type 0 where
  pub first : ℕ
  pub records : List Record
  pub is : IsBatch bytes first records
  pub ends : count_of records ≢ 0 → first + count_of records ≤ since

-- A reader reads on up to the first record that isn't skipped, or up to any other answer.
pub data ReadsSince (file : List ℕ) (since : ℕ) : Reader → Reader → Next → Type 0 where
  here : {old new : Reader} {answer : Next} → ReadsOn file old new answer
      → (is_record answer ≡ true → IsSkipped since new.in_hand → ⊥) → ReadsSince file since old new answer
  skips : {old mid new : Reader} {start end : ℕ} {answer : Next} → ReadsOn file old mid (next.Record start end)
      → IsSkipped since mid.in_hand → ReadsSince file since mid new answer → ReadsSince file since old new answer
