-- Point-in-time recovery (RocksDB wiki, "WAL Recovery Modes", kPointInTimeRecovery): what is recovered from a log's
-- bytes.
use Rattle.std.specs.Prelude.{◌≡◌, ◌≢◌, ℕ, ◌+◌, ◌-◌, ◌<◌, ◌≤◌, List, [], ◌∷◌, length, take, map, fold, ⊤, ◌==◌, if◌then◌else◌, Option}
use Rattle.std.specs.List.{AllByRecursion}
use Rattle.model_base.specs.declared.batch.BatchError.TheVariants.{Short, BadVarint, Tag, Count}
use Rattle.model_base.specs.declared.log.EndReason.{EndReason}
use Rattle.model_base.specs.declared.log.EndReason.TheVariants as ends
use Rattle.model_base.specs.Batch.{Record, count_of, batch, IsBatch, IsBatchError}
use Rattle.model_base.specs.Map.{Pairs, after_records}
use Rattle.model_base.specs.History.{max_sequence}
use Rattle.model_base.specs.Log.{Fragment, SpellsWhole, AreOneRecord, kinds_of, record_of, next_place}
use Rattle.model_base.specs.Reading.{HasFragments, ReadingEnds, seen_at, fragment, ReadsThenSees}

-- a batch of the log: the first sequence, by its header, and its records
pub record Logged : Type 0 where
  pub first : ℕ
  pub records : List Record

abbrev pub logged_bytes : Logged → List ℕ
logged_bytes b = batch b.first b.records

abbrev pub last_of : Logged → ℕ
last_of b = b.first + count_of b.records - 1

-- the last sequence after a batch; a batch with count 0 leaves it as it was
abbrev pub last_after : ℕ → Logged → ℕ
last_after last b = if count_of b.records == 0 then last else last_of b

-- if the batch's count isn't 0, its run begins above the last sequence so far, and doesn't pass the greatest sequence
abbrev pub MayFollow : ℕ → Logged → Type 0
MayFollow last b = count_of b.records ≢ 0 → (last < b.first) × (last_of b ≤ max_sequence)

abbrev pub AreInOrder : ℕ → List Logged → Type 0
AreInOrder last [] = ⊤
AreInOrder last (b ∷ bs) = MayFollow last b × AreInOrder (last_after last b) bs

abbrev pub last_sequence : ℕ → List Logged → ℕ
last_sequence last bs = fold last_after last bs

-- the front of the file, up to `kept`, spells these batches, in order, and nothing else
pub record Keeps (number : Option ℕ) (file : List ℕ) (kept : ℕ) (batches : List Logged) : Type 0 where
  pub within : kept ≤ length file
  pub spelled : SpellsWhole number (take kept file) (map logged_bytes batches)
  pub are_batches : AllByRecursion (λ b. IsBatch (logged_bytes b) b.first b.records) batches
  pub in_order : AreInOrder 0 batches

-- why a record that was read ends recovery
pub data RecordEnds (last : ℕ) (bytes : List ℕ) : EndReason → Type 0 where
  short : IsBatchError bytes Short → RecordEnds last bytes ends.Short
  bad_varint : IsBatchError bytes BadVarint → RecordEnds last bytes ends.BadVarint
  tag : {t : ℕ} → IsBatchError bytes (Tag t) → RecordEnds last bytes (ends.Tag t)
  count : {said found : ℕ} → IsBatchError bytes (Count said found) → RecordEnds last bytes (ends.Count said found)
  order : {first : ℕ} (records : List Record) → IsBatch bytes first records → count_of records ≢ 0 → first ≤ last
      → RecordEnds last bytes (ends.Order first last)
  high : {first n : ℕ} (records : List Record) → IsBatch bytes first records → n ≡ count_of records → n ≢ 0
      → last < first → max_sequence < first + n - 1 → RecordEnds last bytes (ends.High first n)

-- why nothing more is kept, and at which offset that shows
pub data RecoveryEnds (number : Option ℕ) (file : List ℕ) (kept last : ℕ) : ℕ → EndReason → Type 0 where
  -- no record can be read
  reading : {at : ℕ} {why : EndReason} → ReadingEnds number file kept at why → RecoveryEnds number file kept last at why
  -- a record is read but isn't kept
  record_read : {why : EndReason} (fs : List Fragment) → AreOneRecord (kinds_of fs) → HasFragments number file kept fs
      → RecordEnds last (record_of fs) why → RecoveryEnds number file kept last (next_place number kept) why

-- what a file recovers
pub record Recovered : Type 0 where
  pub batches : List Logged
  pub kept : ℕ
  pub at : ℕ
  pub why : EndReason

abbrev pub recovered_last : Recovered → ℕ
recovered_last r = last_sequence 0 r.batches

abbrev pub recovered_map : Recovered → Pairs
recovered_map r = fold (λ m b. after_records m b.records) [] r.batches

pub record IsRecovered (number : Option ℕ) (file : List ℕ) (r : Recovered) : Type 0 where
  pub keeps : Keeps number file r.kept r.batches
  -- no greater offset has such a front
  pub most : (kept : ℕ) (batches : List Logged) → Keeps number file kept batches → kept ≤ r.kept
  pub ends : RecoveryEnds number file r.kept (recovered_last r) r.at r.why

-- A torn write whose checksum is right by chance can't be told from a write that was meant. So a claim about crashes
-- has a premise: there was no such chance.

-- the text has this fragment at this place
abbrev pub HasFragment : Option ℕ → List ℕ → ℕ → Fragment → Type 0
HasFragment number text place f = seen_at number text place ≡ fragment f

-- Recovery of the image meets this fragment, with a right checksum, at this place: before it are the records that are
-- kept, and those fragments of the next record that come first, if any.
pub record Meets (number : Option ℕ) (image : List ℕ) (place : ℕ) (f : Fragment) : Type 0 where
  pub kept : ℕ
  pub batches : List Logged
  pub keeps : Keeps number image kept batches
  pub fs : List Fragment
  pub comes : ReadsThenSees number image kept fs (record { at = place; seen = fragment f })

-- each fragment with a right checksum that recovery of the image meets is in the text too, at the same place
abbrev pub NoChance : Option ℕ → List ℕ → List ℕ → Type 0
NoChance number image text = (place : ℕ) (f : Fragment) → Meets number image place f → HasFragment number text place f

-- What a reader of records meets. It doesn't ask whether the records are batches, so it meets all that recovery meets,
-- and may go on where recovery ends.
pub record ReaderMeets (number : Option ℕ) (image : List ℕ) (place : ℕ) (f : Fragment) : Type 0 where
  pub kept : ℕ
  pub records : List (List ℕ)
  pub within : kept ≤ length image
  pub spelled : SpellsWhole number (take kept image) records
  pub fs : List Fragment
  pub comes : ReadsThenSees number image kept fs (record { at = place; seen = fragment f })

abbrev pub NoChanceForReader : Option ℕ → List ℕ → List ℕ → Type 0
NoChanceForReader number image text = (place : ℕ) (f : Fragment) → ReaderMeets number image place f
    → HasFragment number text place f

-- what a reader of records gets from a file: the records before the first place where none can be read
pub record IsRead (number : Option ℕ) (file : List ℕ) (records : List (List ℕ)) : Type 0 where
  pub kept : ℕ
  pub within : kept ≤ length file
  pub spelled : SpellsWhole number (take kept file) records
  pub at : ℕ
  pub why : EndReason
  pub ends : ReadingEnds number file kept at why
