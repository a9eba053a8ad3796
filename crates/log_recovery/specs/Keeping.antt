-- What keeping a record of a log does.
use Rattle.std.specs.Prelude.{◌≡◌, ◌≢◌, ℕ, ◌+◌, ◌-◌, ◌<◌, ◌≤◌, List, [], ◌∷◌, ◌++◌, length, map, fold, Option}
use Rattle.model_base.specs.declared.log.EndReason.{EndReason}
use Rattle.model_base.specs.declared.log.EndReason.TheVariants as ends
use Rattle.model_base.specs.Batch.{count_of, IsBatch}
use Rattle.model_base.specs.History.{max_sequence}
use Rattle.model_base.specs.Map.{after_records}
use Rattle.model_base.specs.Recovery.{Logged, logged_bytes, last_after, last_sequence, MayFollow, RecordEnds}
use Rattle.model_base.specs.RecoveredLogs.{KeepsAfter}
use Rattle.log_recovery.specs.declared.kept.GroupNote.{GroupNote}
use Rattle.log_recovery.specs.declared.kept.Kept.{Kept}

-- what is noted of a batch
abbrev pub note_of : Logged → GroupNote
note_of b = record { first = b.first; count = count_of b.records; size = length (logged_bytes b) }

-- what is kept shows what was kept before, and then these batches: their notes, their map and their last sequence
pub record ShowsAfter (before kept : Kept) (batches : List Logged) : Type 0 where
  pub groups : kept.groups.items ≡ before.groups.items ++ map note_of batches
  pub map_is : kept.map ≡ fold (λ m b. after_records m b.records) before.map batches
  pub last : kept.last ≡ last_sequence before.last batches

-- What is kept since then is all records of the file up to the offset `kept.end`, in a log with this number, if it has
-- one. Their runs rise above those that were kept before.
pub record KeepsFront (number : Option ℕ) (file : List ℕ) (before kept : Kept) : Type 0 where
  pub batches : List Logged
  pub shows : ShowsAfter before kept batches
  pub keeps : KeepsAfter before.last number file kept.end batches

-- these bytes are a batch that may follow the last sequence
pub record MayBeKept (last : ℕ) (bytes : List ℕ) : Type 0 where
  pub batch : Logged
  pub same : logged_bytes batch ≡ bytes
  pub is : IsBatch (logged_bytes batch) batch.first batch.records
  pub may : MayFollow last batch

-- the batch of a record is kept after the others, and the record ends at this offset
pub record Adds (old new : Kept) (bytes : List ℕ) (end : ℕ) : Type 0 where
  pub kept : MayBeKept old.last bytes
  pub groups : new.groups.items ≡ old.groups.items ++ note_of kept.batch ∷ []
  pub map : new.map ≡ after_records old.map kept.batch.records
  pub last : new.last ≡ last_after old.last kept.batch
  pub end_is : new.end ≡ end

-- a record with these bytes can't be kept, for this reason
pub record Refuses (last : ℕ) (bytes : List ℕ) (why : EndReason) : Type 0 where
  pub ends : RecordEnds last bytes why
  pub not_kept : MayBeKept last bytes → ⊥

-- a run of `count` sequences may follow the last one: it has none, or it begins above that one and doesn't pass the
-- greatest sequence
abbrev pub MayRun : ℕ → ℕ → ℕ → Type 0
MayRun last first count = count ≢ 0 → (last < first) × (first + count - 1 ≤ max_sequence)

-- why such a run may not follow
abbrev pub IsRunEnd : ℕ → ℕ → ℕ → EndReason → Type 0
IsRunEnd last first count (ends.Order f l) = (f ≡ first) × (l ≡ last) × (count ≢ 0) × (first ≤ last)
IsRunEnd last first count (ends.High f n) = (f ≡ first) × (n ≡ count) × (count ≢ 0) × (last < first)
    × (max_sequence < first + count - 1)
IsRunEnd last first count ends.Clean = ⊥
IsRunEnd last first count (ends.Broken d) = ⊥
IsRunEnd last first count ends.BadOrder = ⊥
IsRunEnd last first count ends.Unfinished = ⊥
IsRunEnd last first count ends.Short = ⊥
IsRunEnd last first count ends.BadVarint = ⊥
IsRunEnd last first count (ends.Tag t) = ⊥
IsRunEnd last first count (ends.Count said found) = ⊥
