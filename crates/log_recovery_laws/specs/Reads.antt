-- What reading a log on from an offset gives.
use Rattle.std.specs.Prelude.{◌≡◌, ℕ, ◌<◌, ◌≤◌, List, [], length, Option}
use Rattle.std.specs.List.{AllByRecursion}
use Rattle.model_base.specs.declared.log.EndReason.{EndReason}
use Rattle.model_base.specs.Log.{Fragment, AreOneRecord, kinds_of, record_of, next_place}
use Rattle.model_base.specs.Reading.{HasFragments, end_of, ReadingEnds, IsRecord}
use Rattle.model_base.specs.Recovery.{Recovered}

-- each number is a byte
abbrev pub AreBytes : List ℕ → Type 0
AreBytes bytes = AllByRecursion (λ b. b < 256) bytes

-- an answer of reading: a record, with the places where it begins and ends; or the end of reading, with the place
-- where that shows, and the reason
pub data Answer : Type 0 where
  found : (start end : ℕ) → List ℕ → Answer
  ended : ℕ → EndReason → Answer

-- reading the file on from this offset gives this answer
abbrev pub Reads : Option ℕ → List ℕ → ℕ → Answer → Type 0
Reads number file offset (found start end bytes) = IsRecord number file offset start end bytes
Reads number file offset (ended at why) = ReadingEnds number file offset at why

-- nothing is recovered, since recovery ends at this place, for this reason
abbrev pub nothing_until : ℕ → EndReason → Recovered
nothing_until at why = record { batches = []; kept = 0; at = at; why = why }
