-- From which places on a log may be read.
use Rattle.std.specs.Prelude.{◌≡◌, ◌⊎◌, ℕ, ◌<◌, ◌^◌, List, [], Option}
use Rattle.model_base.specs.Recovery.{Logged}
use Rattle.log_recovery.specs.Updating.{updates_in}
use Rattle.log_updates.specs.declared.places.LogPlace.{LogPlace}
use Rattle.log_updates.specs.Places.{IsFixed, StandsIn, first_place}
use Rattle.log_writer.specs.declared.group_log.GroupLog.{Ghosts}
use Rattle.engine_parts.specs.declared.log.OpenLog.{OpenLog}
use Rattle.engine_parts.specs.Logs.{Had}

-- In these files, logs with this number, if they have one, the place is the end of some batches. Whoever asks for
-- sequences above the last one of the place asks for none of these batches.
pub record EndsBefore (number : Option ℕ) (files : List (List ℕ)) (place : LogPlace) : Type 0 where
  pub before : List Logged
  pub stands : StandsIn number files place before
  pub none_before : (t u : ℕ) → place.last < t → updates_in t u before ≡ []

-- A read came up to this place of the log. Where it is known what the log holds, the place is the end of batches in
-- that; and it doesn't move when the log is written on.
pub record IsReached {Log : Type 0} {ghosts : Ghosts Log} (opened : OpenLog Log ghosts) (start : ℕ)
    (log : OpenLog Log ghosts) (place : LogPlace) : Type 0 where
  pub there : place.log < ghosts.many log.log
  pub small : place.at < 2 ^ 63
  pub fixed : IsFixed place
  pub is_end : (batches : List Logged) → Had opened start batches
      → (files : List (List ℕ)) × ghosts.holds log.log files × EndsBefore (ghosts.number log.log) files place

-- a read may begin there: it is the start, or a read came up to it
abbrev pub MayBegin : {Log : Type 0} {ghosts : Ghosts Log} → OpenLog Log ghosts → ℕ → OpenLog Log ghosts → LogPlace
    → Type 0
MayBegin opened start log place = (place ≡ first_place) ⊎ IsReached opened start log place
