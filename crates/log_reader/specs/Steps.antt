-- One more fragment of a record. Where a definition takes `number` first, that is the log's number, if it has one.
use Rattle.std.specs.Prelude.{◌≡◌, ℕ, ◌<◌, List, [], ◌∷◌, Option, Some, None}
use Rattle.model_base.specs.declared.log.EndReason.{EndReason}
use Rattle.model_base.specs.declared.log.EndReason.TheVariants as ends
use Rattle.model_base.specs.Log.{Kind, full, first, middle, last, Fragment, kinds_of, record_of, next_place}
use Rattle.model_base.specs.Reading.{HasFragments, end_of, AreBegun}
use Rattle.log_reader.specs.declared.reader.Next.{Next}
use Rattle.log_reader.specs.declared.reader.Next.TheVariants as next
use Rattle.log_reader.specs.declared.reader.Step.{Step}
use Rattle.log_reader.specs.declared.reader.Step.TheVariants as step
use Rattle.log_reader.specs.declared.reader.Continuation.{Continuation}
use Rattle.log_reader.specs.declared.reader.Continuation.TheVariants as continuation
use Rattle.log_reader.specs.Records.{Reads, HasFault}

-- the record whose first fragments these are begins at `start`, and where there are no fragments none has begun
abbrev pub BeginsAt : Option ℕ → Option ℕ → ℕ → List Fragment → Type 0
BeginsAt number None place [] = Unit {0}
BeginsAt number None place (f ∷ fs) = ⊥
BeginsAt number (Some start) place [] = ⊥
BeginsAt number (Some start) place (f ∷ fs) = start ≡ next_place number place

-- the first fragments of a record, perhaps none, were read from a place on, and the reader is at their end
pub record HasReadPart (number : Option ℕ) (file : List ℕ) (place : ℕ) (begun : Option ℕ) (in_hand : List ℕ)
    (offset : ℕ) : Type 0 where
  pub fragments : List Fragment
  pub are_begun : AreBegun (kinds_of fragments)
  pub stand : HasFragments number file place fragments
  pub begins : BeginsAt number begun place fragments
  pub bytes_are : in_hand ≡ record_of fragments
  pub there : offset ≡ end_of number place fragments

-- what one more fragment gives: a record that goes on, or an answer
abbrev pub StepIs : Option ℕ → List ℕ → ℕ → List ℕ → ℕ → Step → Type 0
StepIs number file place in_hand offset (step.More start) = HasReadPart number file place (Some start) in_hand offset
StepIs number file place in_hand offset (step.Done answer) = Reads number file place in_hand answer

-- damage and a fragment in a wrong place are at this offset
abbrev pub IsThere : ℕ → ℕ → EndReason → Type 0
IsThere offset at (ends.Broken d) = at ≡ offset
IsThere offset at ends.BadOrder = at ≡ offset
IsThere offset at other = Unit {0}

-- where the answer is a record, the reader moved on from the one offset to the other, and the record ends there; where
-- it is something that doesn't read, the reader is there
abbrev pub EndsAt : ℕ → ℕ → Next → Type 0
EndsAt old new (next.Record start end) = (old < new) × (end ≡ new)
EndsAt old new (next.End at why) = IsThere new at why
EndsAt old new (next.Fault count) = Unit {0}
EndsAt old new next.NoMemory = Unit {0}

abbrev pub Moves : ℕ → ℕ → Step → Type 0
Moves old new (step.More start) = old < new
Moves old new (step.Done answer) = EndsAt old new answer

abbrev pub HasFaultStep : ℕ → ℕ → Step → Type 0
HasFaultStep before now (step.More start) = now ≡ before
HasFaultStep before now (step.Done answer) = HasFault before now answer

-- how a record continues with a fragment of this kind at the offset `at`; it begins at `start`, if it has begun
abbrev pub continuation_of : Kind → Option ℕ → ℕ → Continuation
continuation_of full None at = continuation.Last at
continuation_of first None at = continuation.More at
continuation_of middle None at = continuation.Misplaced
continuation_of last None at = continuation.Misplaced
continuation_of full (Some start) at = continuation.Misplaced
continuation_of first (Some start) at = continuation.Misplaced
continuation_of middle (Some start) at = continuation.More start
continuation_of last (Some start) at = continuation.Last start

-- what the end of the file means: a clean end, or, inside a record, an unfinished one
abbrev pub end_of_reading : Option ℕ → ℕ → Next
end_of_reading None file_len = next.End file_len ends.Clean
end_of_reading (Some start) file_len = next.End start ends.Unfinished
