-- Where the batches are in the clients' lists, and the entries there.
use Rattle.std.specs.Prelude.{◌≡◌, ℕ, ◌+◌, ◌-◌, ◌<◌, ◌≤◌, List, [], ◌∷◌, ◌++◌, length, map, slice_index_or}
use Rattle.std.specs.List.{All}
use Rattle.model_base.specs.declared.history.Flag.TheVariants.{Log}
use Rattle.log_batch.specs.Contents.{Contents, empty}
use Rattle.run_outcome.specs.declared.history_entry.HistoryEntry.{HistoryEntry}
use Rattle.run_batches.specs.declared.accepted.AcceptedBatch.{AcceptedBatch}
use Rattle.run_outcome.specs.declared.places.BatchPlace.{BatchPlace}
use Rattle.run_outcome.specs.Histories.{entry_of}

-- the places of a client's batches in order, from this one on
abbrev pub places_from : ℕ → ℕ → List (AcceptedBatch Contents) → List BatchPlace
places_from client at [] = []
places_from client at (kept ∷ rest) =
    record { first = kept.batch.sequence; client = client; at = at } ∷ places_from client (at + 1) rest

-- the places of clients' batches one after another, from the client with this number on
abbrev pub places_by : ℕ → List (List (AcceptedBatch Contents)) → List BatchPlace
places_by client [] = []
places_by client (kept ∷ others) = places_from client 0 kept ++ places_by (client + 1) others

-- an empty batch, for where there is none
abbrev pub no_batch : AcceptedBatch Contents
no_batch = record { flag = Log; batch = empty }

module _ (lists : List (List (AcceptedBatch Contents))) where
  abbrev pub list_at : BatchPlace → List (AcceptedBatch Contents)
  list_at place = slice_index_or lists (place.client - 1) []

  -- the batch at a place, or `no_batch` where there is none
  abbrev pub kept_at : BatchPlace → AcceptedBatch Contents
  kept_at place = slice_index_or (list_at place) place.at no_batch

  abbrev pub entry_at : BatchPlace → HistoryEntry Contents
  entry_at place = entry_of place.client (place.at + 1) (kept_at place)

  abbrev pub entries_at : List BatchPlace → List (HistoryEntry Contents)
  entries_at order = map entry_at order

  -- at the place there is a batch, and its first sequence is the place's
  pub record IsPlace (place : BatchPlace) : Type 0 where
    pub numbered : 1 ≤ place.client
    pub client : place.client ≤ length lists
    pub within : place.at < length (list_at place)
    pub first : place.first ≡ (kept_at place).batch.sequence

  abbrev pub ArePlaces : List BatchPlace → Type 0
  ArePlaces order = All IsPlace order
