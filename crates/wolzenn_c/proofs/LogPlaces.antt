-- Recovery from a place on, of which all records are read.
use Rattle.std.proofs.Common.{◌≡◌, ℕ, ◌-◌, ◌^◌, Option, Some, MatchOption, List, [], ◌++◌, refl, ap, subst}
use Rattle.model_base.specs.Recovery.{Logged}
use Rattle.model_base.specs.RecoveredLogs.{IsRecoveredAfter}
use Rattle.log_recovery.specs.declared.following.MoreUpdates.{MoreUpdates}
use Rattle.log_recovery.specs.declared.recovery.End.{End}
use Rattle.log_recovery.specs.Following.{StandsAt, OneIsPast, HasMore}
use Rattle.log_recovery.proofs.Recovers.{is_recovered}
use Rattle.wolzenn_c.specs.declared.codes.WzEnd.{WzEnd}
use Rattle.wolzenn_c.specs.declared.log_place.WzPlace.{WzPlace}
use Rattle.wolzenn_c.specs.LogPlaces.{log_start, place_of, GoesOnTo, KeepsUpTo}
use Rattle.wolzenn_c.specs.Reasons.{end_of}

-- what the answer says of the rest, by where it ended
abbrev Rest : ℕ → Option ℕ → List ℕ → List Logged → MoreUpdates → Option End → Type 0
Rest start number file batches more end = MatchOption end (OneIsPast start number file (2 ^ 64 - 1) batches)
    (λ e. IsRecoveredAfter start number file (record { batches = batches; kept = more.place.at; at = e.at; why = e.why }))

-- the place, and the end that is told
abbrev pub reached : MoreUpdates → WzPlace
reached more = record { at = more.place.at; last = more.place.last }

pub goes_on_to : (start : ℕ) (number : Option ℕ) (file : List ℕ) (s : ℕ) (before : List Logged) (more : MoreUpdates) (last : End) → HasMore start number file s (2 ^ 64 - 1) before more → more.end ≡ Some last
    → GoesOnTo start number file before (reached more) (end_of last.at last.why)
goes_on_to start number file s before more last has some = record {
  read = has.read;
  stands = has.stands;
  at = last.at;
  why = last.why;
  recovered = subst (Rest start number file (before ++ has.read) more) some has.rest;
  end_is = refl;
}

-- a place, by its two numbers
abbrev place_with : ℕ → ℕ → WzPlace
place_with at last = record { at = at; last = last }

-- from the start on it is what is recovered
pub keeps_up_to : (number : Option ℕ) (file : List ℕ) (place : WzPlace) (end : WzEnd) → GoesOnTo 0 number file [] place end → KeepsUpTo number file place end
keeps_up_to number file place end goes = record {
  recovered = record { batches = goes.read; kept = place.at; at = goes.at; why = goes.why };
  is = is_recovered number file (record { batches = goes.read; kept = place.at; at = goes.at; why = goes.why }) goes.recovered;
  place_is = ap (place_with place.at) goes.stands.last;
  end_is = goes.end_is;
}

-- what is known of what was read of a file from a place on, whatever the batches before it are
abbrev pub Reads : Option ℕ → List ℕ → WzPlace → MoreUpdates → Type 0
Reads number file from more = (start : ℕ) (before : List Logged) → StandsAt start number file (place_of from) before → HasMore start number file (2 ^ 64 - 1) (2 ^ 64 - 1) before more

-- From the start on it comes to what is recovered.
abbrev pub FromStart : Option ℕ → List ℕ → Type 0
FromStart number file = StandsAt 0 number file (place_of log_start) []

pub kept_from_start : (number : Option ℕ) (file : List ℕ) (from : WzPlace) (more : MoreUpdates) (last : End) → FromStart number file → Reads number file from more → from ≡ log_start → more.end ≡ Some last
    → KeepsUpTo number file (reached more) (end_of last.at last.why)
kept_from_start number file from more last stands reads is some =
    keeps_up_to number file (reached more) (end_of last.at last.why)
    (goes_on_to 0 number file (2 ^ 64 - 1) [] more last (subst (λ (p : WzPlace). Reads number file p more) is reads 0 [] stands) some)
