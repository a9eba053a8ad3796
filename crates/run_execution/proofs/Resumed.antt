-- A log that is resumed after what is recovered of it.
use Rattle.std.proofs.Common.{◌≡◌, ◌⊎◌, inl, inr, ℕ, ◌<◌, ◌≤◌, List, [], length, take, map, replicate, IfSome, Option, Some, None, refl, ap, sym, ◌∙◌, subst, arith, length-take}
use Rattle.std.proofs.lemmas.List.{length-replicate}
use Rattle.base_devices.specs.Disk.{Disk, Told, TimePasses, all_safe, cut_at}
use Rattle.base_devices.specs.declared.disk.Disk.{Ghosts}
use Rattle.model_base.specs.declared.limits.TheConstants.{MAX_FAMILIES}
use Rattle.model_base.specs.Counts.{Rose}
use Rattle.model_base.specs.Log.{SpellsWhole}
use Rattle.model_base.specs.Map.{greatest_family}
use Rattle.model_base.specs.Recovery.{Logged, logged_bytes}
use Rattle.log_recovery.specs.declared.modes.Mode.{Mode}
use Rattle.log_recovery.specs.declared.recovery.Recovered.{Recovered}
use Rattle.log_recovery.specs.Modes.{Accepts}
use Rattle.log_recovery.specs.Recovering.{HasRecovered}
use Rattle.log_writer.specs.declared.errors.OpenError.{OpenError}
use Rattle.log_writer.specs.declared.errors.OpenError.TheVariants.{Fault, NotEmpty, NoMemory}
use Rattle.log_writer.specs.declared.writer.LogWriter.{LogWriter}
use Rattle.log_writer.specs.Words.{disk_of}
use Rattle.log_writer.specs.Opening.{MayBeLeftOf, LeavesOf, SpellsInFront, HasResumed, IsCauseOver, IsResumeError}
use Rattle.log_writer.proofs.Putting.{leaves_more}
use Rattle.log_writer.proofs.Beginning.{leaves_before_of}
use Rattle.run_outcome.specs.declared.log_start.LogStart.TheVariants.{Behind}
use Rattle.run_outcome.specs.Running.{Before, GoesOnFrom, GoesOn}
use Rattle.run_execution.specs.Ends.{HasAcceptedEnd, HasFewFamilies, HasHighFamily, HasOpenedAs, IsAccepted, IsLeftAlone, LeavesAlone, IsRefused, end_of}
use Rattle.run_execution.proofs.Openings.{OnlyNow, leaves_looked, as_found}

-- What is recovered, and the bytes that are kept. Where the disk doesn't tell them, as many zeros take their place.

pub kept_of : Option Disk → ℕ → List ℕ
kept_of None n = replicate n 0
kept_of (Some d) n = take n d.content

module _ (number : Option ℕ) (shown : Recovered) where
  abbrev pub IsRecoveredOf : Option Disk → Type 0
  IsRecoveredOf told = IfSome told (λ d. HasRecovered number d.content shown)

  -- the batches in them, where the disk tells them
  pub batches_of : (told : Option Disk) → IsRecoveredOf told → List Logged
  batches_of None has = []
  batches_of (Some d) has = (has.recovered).batches

  abbrev pub before_of : (told : Option Disk) → IsRecoveredOf told → Before
  before_of told has = record { map = shown.map; last = shown.last; kept = kept_of told shown.kept; batches = batches_of told has }

  -- a run goes on from it
  pub goes_behind : (told : Option Disk) (has : IsRecoveredOf told) → GoesOnFrom (Behind number) told (before_of told has)
  unfolding kept_of batches_of
  goes_behind None has = tt
  goes_behind (Some d) has = let shows = has.shows in record {
    recovered = has.recovered;
    is = has.is;
    map = shows.map_is;
    last = shows.last;
    kept = ap (λ (n : ℕ). take n d.content) shows.kept;
    batches = refl;
  }

  within : (d : Disk) → HasRecovered number d.content shown → shown.kept ≤ length d.content
  within d has = let kept = (has.shows).kept in let keeps = (has.is).keeps in omega (arith, kept, keeps.within)

  kept_len : (told : Option Disk) → IsRecoveredOf told → length (kept_of told shown.kept) ≡ shown.kept
  unfolding kept_of
  kept_len None has = length-replicate shown.kept 0
  kept_len (Some d) has = omega (arith, length-take shown.kept d.content, within d has)

  kept_there : (told : Option Disk) → IsRecoveredOf told → IfSome told (λ d. take (length (kept_of told shown.kept)) d.content ≡ kept_of told shown.kept)
  unfolding kept_of
  kept_there None has = tt
  kept_there (Some d) has = ap (λ (n : ℕ). take n d.content) (kept_len (Some d) has)

  -- what is kept is at the front of the file
  pub spells_behind : (told now : Option Disk) → now ≡ told → IsRecoveredOf told → IfSome now (λ d. SpellsInFront number shown.kept d.content)
  spells_behind told now same has = subst (λ (t : Option Disk). IfSome t (λ d. SpellsInFront number shown.kept d.content)) (sym same) (of_told told has)
    where
      of_told : (t : Option Disk) → IsRecoveredOf t → IfSome t (λ d. SpellsInFront number shown.kept d.content)
      of_told None has = tt
      of_told (Some d) has =
          let keeps = (has.is).keeps in
          let records : List (List ℕ) = map logged_bytes (has.recovered).batches in
          record { within = within d has; records = records; spelled = subst (λ (n : ℕ). SpellsWhole number (take n d.content) records) (sym (has.shows).kept) keeps.spelled }

  module _ {D : Type 0} (ghosts : Ghosts D) (disk read : D) (same : ghosts.told read ≡ ghosts.told disk) (time : TimePasses ghosts.told ghosts.moment ghosts.from ghosts.since disk read) (no_fault : ghosts.faults read ≡ ghosts.faults disk) (has : IsRecoveredOf (ghosts.told disk)) where
    -- What a crash leaves of a disk that was read, it leaves of the disk as it was before it was read.
    leaves_first : (now : D) → OnlyNow ghosts disk → LeavesOf ghosts read now shown.kept → LeavesOf ghosts disk now shown.kept
    leaves_first now only leaves =
        let kept : ℕ = shown.kept in
        leaves_more ghosts.moment ghosts.from ghosts.since (MayBeLeftOf (ghosts.told disk) kept) (MayBeLeftOf (ghosts.told read) kept) disk read now
        (leaves_before_of ghosts disk read kept (leaves_looked ghosts disk read only same time)) leaves (λ image may. subst (λ (t : Option Disk). MayBeLeftOf t kept image) same may)

    -- A log that was resumed over a disk that was read was resumed over the disk as it was before it was read.
    read_first : (log : LogWriter D ghosts) → OnlyNow ghosts disk → HasResumed read shown.kept number log → HasResumed disk shown.kept number log
    read_first log only resumed =
        record {
          told = subst (λ (t : Option Disk). Told t (ghosts.told (disk_of log)) (λ x y. y ≡ all_safe (take shown.kept x.content))) same resumed.told;
          number_is = resumed.number_is;
          len = resumed.len;
          fault = resumed.fault;
          no_fault = resumed.no_fault ∙ no_fault;
          crash = leaves_first (disk_of log) only resumed.crash;
        }

    pub opened_behind : (log : LogWriter D ghosts) → OnlyNow ghosts disk → HasResumed read shown.kept number log → HasOpenedAs (Behind number) (before_of (ghosts.told disk) has) disk log
    opened_behind log only resumed =
        (subst (λ (n : ℕ). HasResumed disk n number log) (sym (kept_len (ghosts.told disk) has)) (read_first log only resumed), kept_there (ghosts.told disk) has)

    -- and where the log was not opened, why
    module _ (now : D) where
      pub refused_behind : (mode : Mode) (why : OpenError) → OnlyNow ghosts disk → IsAccepted (Behind number) mode (ghosts.told disk) → HasFewFamilies (Behind number) (ghosts.told disk) → IsResumeError ghosts read now shown.kept why → IsRefused ghosts (Behind number) mode disk now (end_of why)
      refused_behind mode why only accepted in_range error = by_cause why error.cause
        where
          found : IsLeftAlone (Behind number) mode (ghosts.told disk) (ghosts.told now)
          found = inr (
            accepted,
            in_range,
            as_found (Behind number) (before_of (ghosts.told disk) has) (ghosts.told disk) (ghosts.told now) (λ x y. y ≡ cut_at shown.kept x) (goes_behind (ghosts.told disk) has)
                (λ x y e. inl (e ∙ ap (λ (n : ℕ). cut_at n x) (sym (kept_len (ghosts.told disk) has))))
                (subst (λ (t : Option Disk). Told t (ghosts.told now) (λ x y. (y ≡ x) ⊎ (y ≡ cut_at shown.kept x))) same error.told),
          )

          crash : LeavesAlone ghosts (Behind number) mode disk now
          crash = inr (accepted, in_range, (before_of (ghosts.told disk) has, goes_behind (ghosts.told disk) has, subst (λ (n : ℕ). LeavesOf ghosts disk now n) (sym (kept_len (ghosts.told disk) has)) (leaves_first now only error.crash)))

          by_cause : (why : OpenError) → IsCauseOver ghosts read now why → IsRefused ghosts (Behind number) mode disk now (end_of why)
          by_cause (Fault count) cause = (found, (subst (λ (n : ℕ). Rose n count) no_fault cause.0, cause.1), crash)
          by_cause (NotEmpty len) cause = absurd cause
          by_cause NoMemory cause = (found, ap ghosts.faults cause ∙ no_fault, crash)

      pub time_behind : (why : OpenError) → IsResumeError ghosts read now shown.kept why → GoesOn ghosts.moment ghosts.from disk now
      time_behind why error =
          let crash = error.crash in
          record { later = omega (arith, time.later, crash.later); forgets = omega (arith, time.forgets, crash.forgets) }

-- the end of what is recovered is one that the mode accepts
pub accepted_end : (number : Option ℕ) (mode : Mode) (told : Option Disk) (shown : Recovered) → IfSome told (λ d. HasRecovered number d.content shown)
    → IfSome told (λ d. Accepts number mode d.content shown.end.at shown.end.why) → IfSome told (λ d. HasAcceptedEnd number mode d.content)
accepted_end number mode None shown has accepts = tt
accepted_end number mode (Some d) shown has accepts =
    let shows = has.shows in
    record {
      recovered = has.recovered;
      is = has.is;
      accepts = subst (λ (at : ℕ). Accepts number mode d.content at (has.recovered).why) shows.at (subst (Accepts number mode d.content shown.end.at) shows.why accepts);
    }

-- The greatest family of the keys that are recovered

pub high_family : (number : Option ℕ) (mode : Mode) (told : Option Disk) (shown : Recovered) → IfSome told (λ d. HasRecovered number d.content shown)
    → IfSome told (λ d. Accepts number mode d.content shown.end.at shown.end.why) → (family : ℕ) → family ≡ greatest_family shown.map → MAX_FAMILIES ≤ family → HasHighFamily (Behind number) mode told family
unfolding accepted_end
high_family number mode None shown has accepts family is high = (high, tt)
high_family number mode (Some d) shown has accepts family is high = (high, (accepted_end number mode (Some d) shown has accepts, is ∙ ap greatest_family (has.shows).map_is))

pub few_families : (number : Option ℕ) (told : Option Disk) (shown : Recovered) → IfSome told (λ d. HasRecovered number d.content shown) → (family : ℕ) → family ≡ greatest_family shown.map → family < MAX_FAMILIES → HasFewFamilies (Behind number) told
few_families number None shown has family is few = tt
few_families number (Some d) shown has family is few = (has.recovered, has.is, subst (λ (n : ℕ). n < MAX_FAMILIES) (is ∙ ap greatest_family (has.shows).map_is) few)
