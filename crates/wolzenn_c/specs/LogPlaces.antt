-- What C learns of a log that is recovered without its pairs: the place after what is kept, and the end.
use Rattle.std.specs.Prelude.{◌≡◌, ℕ, List, ◌++◌, Option}
use Rattle.model_base.specs.declared.log.EndReason.{EndReason}
use Rattle.model_base.specs.Recovery.{Logged, Recovered, IsRecovered, recovered_last}
use Rattle.model_base.specs.RecoveredLogs.{IsRecoveredAfter}
use Rattle.log_recovery.specs.declared.following.Place.{Place}
use Rattle.log_recovery.specs.Following.{StandsAt}
use Rattle.wolzenn_c.specs.declared.codes.WzEnd.{WzEnd}
use Rattle.wolzenn_c.specs.declared.log_place.WzPlace.{WzPlace}
use Rattle.wolzenn_c.specs.Reasons.{end_of}

-- the start of a log before which there are no sequences
abbrev pub log_start : WzPlace
log_start = record { at = 0; last = 0 }

-- a place as recovery has it
abbrev pub place_of : WzPlace → Place
place_of p = record { at = p.at; last = p.last }

-- the place is after what is recovered from the file, and recovery ends like this
pub record KeepsUpTo (number : Option ℕ) (file : List ℕ) (place : WzPlace) (end : WzEnd) : Type 0 where
  pub recovered : Recovered
  pub is : IsRecovered number file recovered
  pub place_is : place ≡ record { at = recovered.kept; last = recovered_last recovered }
  pub end_is : end ≡ end_of recovered.at recovered.why

-- The same of a file whose front is these batches, which rise above the sequence `start`: more of them are read, and
-- all of them are what is recovered.
pub record GoesOnTo (start : ℕ) (number : Option ℕ) (file : List ℕ) (before : List Logged) (place : WzPlace)
    (end : WzEnd) : Type 0 where
  pub read : List Logged
  pub stands : StandsAt start number file (place_of place) (before ++ read)
  pub at : ℕ
  pub why : EndReason
  pub recovered : IsRecoveredAfter start number file
      (record { batches = before ++ read; kept = place.at; at = at; why = why })
  pub end_is : end ≡ end_of at why
