-- Following a log that grows, from a place that is known.
use Rattle.std.specs.Prelude.{◌≡◌, ◌≢◌, ℕ, ◌<◌, ◌≤◌, List, [], ◌∷◌, ◌++◌, Option, Some, None, MatchOption}
use Rattle.std.specs.List.{AllByRecursion}
use Rattle.model_base.specs.Batch.{count_of}
use Rattle.model_base.specs.Recovery.{Logged, last_of, last_sequence}
use Rattle.model_base.specs.RecoveredLogs.{KeepsAfter, IsRecoveredAfter}
use Rattle.log_recovery.specs.declared.following.Place.{Place}
use Rattle.log_recovery.specs.declared.following.MoreUpdates.{MoreUpdates}
use Rattle.log_recovery.specs.declared.picked.Picked.{Picked}
use Rattle.log_recovery.specs.declared.picked.Stop.{Stop}
use Rattle.log_recovery.specs.declared.picked.Stop.TheVariants.{Past, Refused}
use Rattle.log_recovery.specs.declared.recovery.End.{End}
use Rattle.log_recovery.specs.Keeping.{MayBeKept, Refuses}
use Rattle.log_recovery.specs.Updating.{updates_in, Picks}

-- The place is the end of these batches in the file, a log with this number, if it has one. Their runs rise above the
-- sequence `start`.
pub record StandsAt (start : ℕ) (number : Option ℕ) (file : List ℕ) (place : Place) (batches : List Logged)
    : Type 0 where
  pub keeps : KeepsAfter start number file place.at batches
  pub last : place.last ≡ last_sequence start batches

-- the batch doesn't go past the sequence `upto`
abbrev pub IsWithin : ℕ → Logged → Type 0
IsWithin upto b = count_of b.records ≢ 0 → last_of b ≤ upto

-- it does
abbrev pub GoesPast : ℕ → Logged → Type 0
GoesPast upto b = (count_of b.records ≢ 0) × (upto < last_of b)

-- the last sequence hasn't fallen, and is above `upto` only where it was
abbrev pub RisesTo : ℕ → ℕ → ℕ → Type 0
RisesTo upto before now = (before ≤ now) × (upto < now → now ≡ before)

-- the record of a batch, which would be kept after the others and doesn't go past `upto`, is picked if it is asked for
pub record PicksWithin (s upto : ℕ) (old new : Picked) (bytes : List ℕ) (end : ℕ) : Type 0 where
  pub picks : Picks s upto old new bytes end
  pub within : IsWithin upto (picks.kept).batch

-- the bytes are a batch that would be kept, but it goes past `upto`
pub record IsPast (upto last : ℕ) (bytes : List ℕ) : Type 0 where
  pub kept : MayBeKept last bytes
  pub past : GoesPast upto kept.batch

-- why reading stops at a record with these bytes
abbrev pub Stops : ℕ → ℕ → List ℕ → Stop → Type 0
Stops upto last bytes Past = IsPast upto last bytes
Stops upto last bytes (Refused why) = Refuses last bytes why

-- where and why reading ends then, at a record that begins at this offset; it doesn't end at one that goes past `upto`
abbrev pub end_of_stop : ℕ → Stop → Option End
end_of_stop start Past = None
end_of_stop start (Refused why) = Some (record { at = start; why = why })

-- after these batches the file has one more that goes past `upto`
pub record OneIsPast (start : ℕ) (number : Option ℕ) (file : List ℕ) (upto : ℕ) (batches : List Logged) : Type 0 where
  pub next : Logged
  pub end : ℕ
  pub keeps : KeepsAfter start number file end (batches ++ next ∷ [])
  pub past : GoesPast upto next

-- What was read of the file from the end of the batches `before` on. The batches that were read come after those, and
-- don't go past `upto`; of them those are answered that are asked for; and what comes next goes past `upto`, or
-- recovery ends there. Where the last sequence before is lower than `s`, nothing before was asked for.
pub record HasMore (start : ℕ) (number : Option ℕ) (file : List ℕ) (s upto : ℕ) (before : List Logged)
    (more : MoreUpdates) : Type 0 where
  pub read : List Logged
  pub stands : StandsAt start number file more.place (before ++ read)
  pub records : more.records.items ≡ updates_in s upto read
  pub within : AllByRecursion (IsWithin upto) read
  pub rest : MatchOption more.end (OneIsPast start number file upto (before ++ read)) (λ end.
      IsRecoveredAfter start number file
      (record { batches = before ++ read; kept = more.place.at; at = end.at; why = end.why }))
  pub none_before : last_sequence start before < s → updates_in s upto before ≡ []

-- what is picked so far, of the batches from the end of those before on, up to the offset `picked.end`
pub record PicksFrom (start : ℕ) (number : Option ℕ) (file : List ℕ) (s upto : ℕ) (before : List Logged)
    (picked : Picked) : Type 0 where
  pub read : List Logged
  pub keeps : KeepsAfter start number file picked.end (before ++ read)
  pub records : picked.records.items ≡ updates_in s upto read
  pub last : picked.last ≡ last_sequence start (before ++ read)
  pub within : AllByRecursion (IsWithin upto) read
