-- What a reader answers, compared with what the log says. Where a definition takes `number` first, that is the log's
-- number, if it has one.
use Rattle.std.specs.Prelude.{◌≡◌, ℕ, List, Option, Some, None}
use Rattle.base_devices.specs.Faults.{Rose}
use Rattle.model_base.specs.Reading.{ReadingEnds, IsRecord}
use Rattle.log_reader.specs.declared.reader.Next.{Next}
use Rattle.log_reader.specs.declared.reader.Next.TheVariants as next

-- reading on from the place gives this answer; where it is a record, its bytes are in hand
abbrev pub Reads : Option ℕ → List ℕ → ℕ → List ℕ → Next → Type 0
Reads number file place in_hand (next.Record start end) = IsRecord number file place start end in_hand
Reads number file place in_hand (next.End at why) = ReadingEnds number file place at why
Reads number file place in_hand (next.Fault count) = Unit {0}
Reads number file place in_hand next.NoMemory = Unit {0}

-- A fault is one of the disk: its count of faults rose, and this is what it is. With any other answer the count is as
-- before.
abbrev pub HasFault : ℕ → ℕ → Next → Type 0
HasFault before now (next.Record start end) = now ≡ before
HasFault before now (next.End at why) = now ≡ before
HasFault before now (next.Fault count) = Rose before count × (count ≡ now)
HasFault before now next.NoMemory = now ≡ before

-- anything but a record stops the reading
abbrev pub stopped_by : Next → Option Next
stopped_by (next.Record start end) = None
stopped_by (next.End at why) = Some (next.End at why)
stopped_by (next.Fault count) = Some (next.Fault count)
stopped_by next.NoMemory = Some next.NoMemory
