-- Places in logs that were written one after another, and what is read from one of them on.
use Rattle.std.specs.Prelude.{◌≡◌, ◌⊎◌, ℕ, ◌+◌, ◌<◌, Bool, true, false, ◌&&◌, nat_lt, if◌then◌else◌, List, [], ◌∷◌, ◌++◌, length, Option, Some, None}
use Rattle.model_base.specs.declared.log.EndReason.{EndReason}
use Rattle.model_base.specs.declared.log.EndReason.TheVariants as ends
use Rattle.model_base.specs.Recovery.{Logged, last_sequence}
use Rattle.log_recovery.specs.declared.following.Place.{Place}
use Rattle.log_recovery.specs.declared.recovery.End.{End}
use Rattle.log_recovery.specs.Updating.{updates_in}
use Rattle.log_recovery.specs.Following.{StandsAt}
use Rattle.log_updates.specs.declared.places.LogPlace.{LogPlace}
use Rattle.log_updates.specs.declared.reading.LogUpdates.{LogUpdates}
use Rattle.log_writer.specs.ReadableLogs.{HoldInTurn}

-- before all records
abbrev pub first_place : LogPlace
first_place = record { log = 0; at = 0; last = 0 }

-- The place is after the same batches also when the logs are written on: it is in the first log, or after a record of
-- its own log.
abbrev pub IsFixed : LogPlace → Type 0
IsFixed place = (place.log ≡ 0) ⊎ (0 < place.at)

-- In these files, logs with this number, if they have one, the place is the end of these batches: some files before its
-- own one are the text of the first of them, and the front of its own file is the text of the others.
pub record StandsIn (number : Option ℕ) (files : List (List ℕ)) (place : LogPlace) (before : List Logged) : Type 0 where
  pub firsts : List (List ℕ)
  pub file : List ℕ
  pub others : List (List ℕ)
  pub cut : files ≡ firsts ++ file ∷ others
  pub which : place.log ≡ length firsts
  pub earlier : List Logged
  pub here : List Logged
  pub all : before ≡ earlier ++ here
  pub whole : HoldInTurn number firsts earlier
  pub stands : StandsAt (last_sequence 0 earlier) number file (record { at = place.at; last = place.last }) here

-- What is read of these files up to a place: of the batches before the place, the records that are asked for.
pub record IsReadTo (number : Option ℕ) (files : List (List ℕ)) (s upto : ℕ) (place : LogPlace)
    (records : List (List ℕ)) : Type 0 where
  pub reached : List Logged
  pub stands : StandsIn number files place reached
  pub are : records ≡ updates_in s upto reached

-- Of all these batches, whose text the files are, those records are answered that are asked for, and the place that is
-- answered is after them. Where its last sequence is lower than `t`, no batch before it can be asked for from `t` on.
pub record HasAll (number : Option ℕ) (files : List (List ℕ)) (s upto : ℕ) (batches : List Logged) (r : LogUpdates)
    : Type 0 where
  pub records : r.records.items ≡ updates_in s upto batches
  pub before : List Logged
  pub stands : StandsIn number files r.place before
  pub are_before : r.records.items ≡ updates_in s upto before
  pub none_before : (t u : ℕ) → r.place.last < t → updates_in t u before ≡ []

-- reading ended where the log does
abbrev pub is_clean : EndReason → Bool
is_clean ends.Clean = true
is_clean (ends.Broken d) = false
is_clean ends.BadOrder = false
is_clean ends.Unfinished = false
is_clean ends.Short = false
is_clean ends.BadVarint = false
is_clean (ends.Tag t) = false
is_clean (ends.Count said found) = false
is_clean (ends.Order f l) = false
is_clean (ends.High f n) = false

-- after a log in which reading ended like this, there is another one to read
abbrev pub goes_further : Option End → ℕ → ℕ → Bool
goes_further None which logs = false
goes_further (Some end) which logs = is_clean end.why && nat_lt (which + 1) logs

-- The end of the last record that was read, once a log was read from the place `from` up to `more`; before that it was
-- `reached`.
abbrev pub further : LogPlace → LogPlace → Place → LogPlace
further reached from more =
    if nat_lt from.at more.at then record { log = from.log; at = more.at; last = more.last } else reached
