-- The one history of a run: whole batches, each with its own run of sequences, one run right after the other.
use Rattle.std.specs.Prelude.{◌≡◌, ℕ, ◌+◌, ◌-◌, ◌^◌, ◌≤◌, Bool, true, false, List, [], ◌∷◌, ◌++◌, fold, filter, if◌then◌else◌, ⊤}
use Rattle.model_base.specs.declared.history.Flag.{Flag}
use Rattle.model_base.specs.declared.history.Flag.TheVariants.{Log, NoLog, Sync}
use Rattle.model_base.specs.declared.write.WriteOptions.{WriteOptions}
use Rattle.model_base.specs.Batch.{Record, count_of}
use Rattle.model_base.specs.Map.{Pairs, after_records}

-- the greatest sequence, `kMaxSequenceNumber` of RocksDB's db/dbformat.h
abbrev pub max_sequence : ℕ
max_sequence = 2 ^ 56 - 1

-- an accepted batch: its client, its number among that client's batches (from 1), its run, how it was committed, and
-- its records
pub record Entry : Type 0 where
  pub client : ℕ
  pub ordinal : ℕ
  pub first : ℕ
  pub count : ℕ
  pub flag : Flag
  pub records : List Record

-- the last sequence of the run
abbrev pub last_of : Entry → ℕ
last_of e = e.first + e.count - 1

-- this entry may come right after the sequence `last`
pub record Follows (last : ℕ) (e : Entry) : Type 0 where
  pub counted : e.count ≡ count_of e.records
  pub some : 1 ≤ e.count
  pub first : e.first ≡ last + 1
  pub fits : last_of e ≤ max_sequence

-- the entries are a history whose first run begins right after the sequence `start`
abbrev pub IsHistory : ℕ → List Entry → Type 0
IsHistory start [] = ⊤
IsHistory start (e ∷ es) = Follows start e × IsHistory (last_of e) es

-- each of these entries begins right after the one before it
abbrev pub RunsFollow : List Entry → Type 0
RunsFollow [] = ⊤
RunsFollow (e ∷ es) = IsHistory (last_of e) es

-- the last sequence that was given; `start` where there are no entries
abbrev pub last_sequence : ℕ → List Entry → ℕ
last_sequence start [] = start
last_sequence start (e ∷ es) = last_sequence (last_of e) es

-- s is a boundary, the end of a batch or `start`, and `front` are the entries up to it
pub record IsUpTo (start : ℕ) (entries : List Entry) (s : ℕ) (front : List Entry) : Type 0 where
  pub rest : List Entry
  pub split : entries ≡ front ++ rest
  pub ends : s ≡ last_sequence start front

abbrev pub IsBoundary : ℕ → List Entry → ℕ → Type 0
IsBoundary start entries s = (front : List Entry) × IsUpTo start entries s front

-- the map after all entries, which change the map `opening`
abbrev pub map_over : Pairs → List Entry → Pairs
map_over opening entries = fold (λ m e. after_records m e.records) opening entries

abbrev pub map_of : List Entry → Pairs
map_of entries = map_over [] entries

-- the flag that the history has for a batch that was committed with these options
abbrev pub flag_of : WriteOptions → Flag
flag_of o = if o.no_log then NoLog else (if o.sync then Sync else Log)

-- whether the log has a batch with this flag
abbrev pub is_logged : Flag → Bool
is_logged Log = true
is_logged Sync = true
is_logged NoLog = false

abbrev pub logged_entries : List Entry → List Entry
logged_entries entries = filter (λ e. is_logged e.flag) entries
