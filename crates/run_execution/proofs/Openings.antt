-- How the log of a run was opened, or why it was not.
use Rattle.std.proofs.Common.{◌≡◌, ◌⊎◌, inl, inr, ⊎_elim, ℕ, ◌≤◌, List, [], length, take, map, IfSome, Option, Some, None, refl, ap, sym, ◌∙◌, subst, arith}
use Rattle.std.specs.Prelude.{⊤}
use Rattle.base_devices.specs.Disk.{Disk, IsImage, Told, TimePasses, IsOnlyNow, CountsNow, LeavesOnly, all_safe, rewound}
use Rattle.base_devices.specs.OnlyReads.{OnlyReads}
use Rattle.base_devices.specs.declared.disk.Disk.{Ghosts}
use Rattle.model_base.specs.Log.{Beginning, new_log, SpellsWhole}
use Rattle.model_base.specs.Recovery.{Recovered, IsRecovered, logged_bytes}
use Rattle.log_laws.specs.Prefixes.{RecoversPrefix}
use Rattle.log_laws.proofs.Synced.{spells_one}
use Rattle.log_recovery_laws.specs.Images.{MeetsNoOther}
use Rattle.log_writer.specs.declared.errors.OpenError.{OpenError}
use Rattle.log_writer.specs.declared.errors.OpenError.TheVariants.{Fault, NotEmpty, NoMemory}
use Rattle.log_writer.specs.declared.writer.LogWriter.{LogWriter}
use Rattle.log_writer.specs.Words.{disk_of, fault_of}
use Rattle.log_writer.specs.Opening.{HasOpened, HasReused, HasResumed, HasBegun, LeavesAsBefore, IsCause, CountStands, IsCauseOver, IsOpenError, IsReuseError}
use Rattle.log_writer.proofs.Putting.{told_so, leaves_time}
use Rattle.run_outcome.specs.declared.log_start.LogStart.{LogStart}
use Rattle.run_outcome.specs.declared.log_start.LogStart.TheVariants.{New, Over, Behind}
use Rattle.run_outcome.specs.Running.{Before, nothing, number_in, RecoversTo, GoesOnFrom, beginning_of, begun_on, RecoversKept, IfGoesOn, IsOpened, IsAsFound, GoesOn}
use Rattle.log_recovery.specs.declared.modes.Mode.{Mode}
use Rattle.run_execution.specs.Ends.{HasOpenedAs, IsOpenedFor, IsAccepted, HasFewFamilies, IsLeftAlone, LeavesAlone, IsRefused, end_of}
use Rattle.run_execution.proofs.SafeLogs.{KeepsBatches, keeps_none}

-- what holds of any content holds of what a disk tells
if_any : (told : Option Disk) (P : Disk → Type 0) → ((d : Disk) → P d) → IfSome told P
if_any None P all = tt
if_any (Some d) P all = all d

if_so : (told : Option Disk) (P Q : Disk → Type 0) → ((d : Disk) → P d → Q d) → IfSome told P → IfSome told Q
if_so None P Q to p = tt
if_so (Some d) P Q to p = to d p

-- a disk that tells the same has the same content
same_content : (a now : Option Disk) → now ≡ a → Told a now (λ x y. y.content ≡ x.content)
same_content a now same = subst (λ (t : Option Disk). Told a t (λ x y. y.content ≡ x.content)) (sym same) (of_itself a)
  where
    of_itself : (t : Option Disk) → Told t t (λ x y. y.content ≡ x.content)
    of_itself None = tt
    of_itself (Some x) = refl

-- the content of a disk of which these bytes are kept, and made safe
kept_safe : (a now : Option Disk) (kept : List ℕ) → Told a now (λ x y. y ≡ all_safe (take (length kept) x.content)) → IfSome a (λ d. take (length kept) d.content ≡ kept) → Told a now (λ x y. y ≡ all_safe kept)
kept_safe None None kept told same = tt
kept_safe None (Some y) kept told same = told
kept_safe (Some x) None kept told same = told
kept_safe (Some x) (Some y) kept told same = told ∙ ap all_safe same

-- since this very moment a crash might have left nothing of the disk but what it may leave now
abbrev pub OnlyNow : {D : Type 0} → Ghosts D → D → Type 0
OnlyNow ghosts disk = IsOnlyNow (ghosts.told disk) (ghosts.from disk) (ghosts.moment disk) (ghosts.since disk)

-- while a disk is only looked at, a crash leaves what it might have left before
pub leaves_looked : {D : Type 0} (ghosts : Ghosts D) (old new : D) → OnlyNow ghosts old → ghosts.told new ≡ ghosts.told old → TimePasses ghosts.told ghosts.moment ghosts.from ghosts.since old new → LeavesAsBefore ghosts old new
leaves_looked ghosts old new only same time =
    leaves_time ghosts old new (λ image. IfSome (ghosts.told old) (λ d. IsImage d image)) only time (λ image is. is) (λ image is. subst (λ (t : Option Disk). IfSome t (λ d. IsImage d image)) same is)

-- two stretches of time, one after the other, where the disk tells the same after the second
pub time_on : {D : Type 0} (ghosts : Ghosts D) (a b c : D) → ghosts.told c ≡ ghosts.told b → TimePasses ghosts.told ghosts.moment ghosts.from ghosts.since a b → TimePasses ghosts.told ghosts.moment ghosts.from ghosts.since b c
    → TimePasses ghosts.told ghosts.moment ghosts.from ghosts.since a c
time_on ghosts a b c same first second =
    let later_first = first.later in
    let later_second = second.later in
    let forgets_first = first.forgets in
    let forgets_second = second.forgets in
    record {
      later = omega (arith, later_first, later_second);
      forgets = omega (arith, forgets_first, forgets_second);
      nothing_else = λ t image known le s. ⊎_elim
          (λ past. ⊎_elim (λ older. inl older) (λ is. inr (subst (λ (d : Option Disk). IfSome d (λ e. IsImage e image)) (sym same) is)) (first.nothing_else t image (omega (arith, known, forgets_second)) le past))
          (λ is. inr is) (second.nothing_else t image known (omega (arith, le, later_first)) s);
      keeps = λ t image known le s. second.keeps t image known (omega (arith, le, later_first)) (first.keeps t image (omega (arith, known, forgets_second)) le s);
    }

-- what a crash may leave of a disk now it might also have left since each moment that the disk tells of
abbrev pub IsCountedNow : {D : Type 0} → Ghosts D → D → Type 0
IsCountedNow ghosts disk = CountsNow (ghosts.told disk) (ghosts.from disk) (ghosts.moment disk) (ghosts.since disk)

-- what holds of a disk that tells nothing
if_untold : (told : Option Disk) (P : Disk → Type 0) → told ≡ None → IfSome told P
if_untold told P none = subst (λ (t : Option Disk). IfSome t P) (sym none) tt

if_counted : (told : Option Disk) (P : Disk → Type 0) (Q R : Type 0) → (told ≡ None → R) → (Q → R) → IfSome told (λ d. P d → Q) → IfSome told P → R
if_counted None P Q R untold to counts is = untold refl
if_counted (Some d) P Q R untold to counts is = to (counts is)

-- while a disk is only read, a crash leaves what it might have left before
leaves_read : {D : Type 0} (ghosts : Ghosts D) (a b c : D) (P : List ℕ → Type 0) → LeavesOnly ghosts.moment ghosts.from ghosts.since a b P → IsCountedNow ghosts b → ((image : List ℕ) → ghosts.told b ≡ None → P image) → OnlyReads ghosts b c
    → LeavesOnly ghosts.moment ghosts.from ghosts.since a c P
leaves_read ghosts a b c P first counts untold reads =
    let time = reads.time in
    let later_first = first.later in
    let later_second = time.later in
    let forgets_first = first.forgets in
    let forgets_second = time.forgets in
    record {
      later = omega (arith, later_first, later_second);
      forgets = omega (arith, forgets_first, forgets_second);
      each = λ image known s.
          let before : ghosts.from b ≤ ghosts.moment a = omega (arith, known, forgets_second) in
          ⊎_elim (λ past. first.each image before past)
          (λ is. if_counted (ghosts.told b) (λ d. IsImage d image) (ghosts.since b (ghosts.moment a) image) (P image) (untold image) (first.each image before) (counts (ghosts.moment a) image before later_first)
          (subst (λ (d : Option Disk). IfSome d (λ e. IsImage e image)) reads.same is))
          (time.nothing_else (ghosts.moment a) image known later_first s);
      before = λ t image known le s.
          let before : ghosts.from b ≤ t = omega (arith, known, forgets_second) in
          let within : t ≤ ghosts.moment b = omega (arith, le, later_first) in
          ⊎_elim (λ past. first.before t image before le past)
          (λ is. if_counted (ghosts.told b) (λ d. IsImage d image) (ghosts.since b t image) (ghosts.since a t image ⊎ P image) (λ none. inr (untold image none)) (first.before t image before le) (counts t image before within)
          (subst (λ (d : Option Disk). IfSome d (λ e. IsImage e image)) reads.same is))
          (time.nothing_else t image known within s);
    }

-- a disk tells nothing if it told nothing
untold_before : (a now : Option Disk) (R : Disk → Disk → Type 0) → Told a now R → now ≡ None → a ≡ None
untold_before None now R told none = refl
untold_before (Some x) None R told none = absurd told
untold_before (Some x) (Some y) R told none = absurd (cc)

-- What a run goes on from

-- what a run goes on from is batches whose runs rise, up to its last sequence
pub keeps_as : (start : LogStart) (before : Before) (told : Option Disk) (from : ℕ) → GoesOnFrom start told before → before.last ≤ from → IfSome told (λ d. KeepsBatches (beginning_of start before) from before.batches)
keeps_as New before told from goes below = if_any told _ (λ d. subst (λ (b : Before). KeepsBatches (beginning_of New b) from b.batches) (sym goes) (keeps_none (number_in New) from))
keeps_as (Over number) before told from goes below = if_any told _ (λ d. subst (λ (b : Before). KeepsBatches (beginning_of (Over number) b) from b.batches) (sym goes) (keeps_none (number_in (Over number)) from))
keeps_as (Behind number) before told from goes below = if_so told (λ d. RecoversTo number d.content before) _ of_recovered goes
  where
    of_recovered : (d : Disk) → RecoversTo number d.content before → KeepsBatches (beginning_of (Behind number) before) from before.batches
    of_recovered d to =
        let r : Recovered = to.recovered in
        let keeps = (to.is).keeps in
        let last = to.last in
        record {
          records = map logged_bytes r.batches;
          spelled = subst (λ (l : List ℕ). SpellsWhole number l (map logged_bytes r.batches)) (sym to.kept) keeps.spelled;
          are = record { batches = r.batches; same = refl; each = keeps.are_batches; rising = keeps.in_order; below = omega (arith, last, below) };
          these = sym to.batches;
        }

-- the law of an image of the file
abbrev pub ImageLaw : Type 0
ImageLaw = (number : Option ℕ) (image file : List ℕ) (r : Recovered) → IsRecovered number file r → MeetsNoOther number image file → RecoversPrefix number (map logged_bytes r.batches) image (λ n. ⊤)

-- an image recovers a prefix of what is kept
pub recovers_as : ImageLaw → (start : LogStart) (before : Before) (told : Option Disk) (images : List ℕ → Type 0) → GoesOnFrom start told before → IfSome told (λ d. IfGoesOn start (RecoversKept start before d.content images))
recovers_as law New before told images goes = if_any told _ (λ d. tt)
recovers_as law (Over number) before told images goes = if_any told _ (λ d. tt)
recovers_as law (Behind number) before told images goes = if_so told (λ d. RecoversTo number d.content before) _ of_recovered goes
  where
    of_recovered : (d : Disk) → RecoversTo number d.content before → RecoversKept (Behind number) before d.content images
    of_recovered d to image left meets kept spells =
        let r : Recovered = to.recovered in
        let spelled = subst (λ (l : List ℕ). SpellsWhole number l (map logged_bytes r.batches)) (sym to.kept) ((to.is).keeps).spelled in
        subst (λ (l : List (List ℕ)). RecoversPrefix number l image (λ n. ⊤)) (spells_one number before.kept (map logged_bytes r.batches) kept spelled spells) (law number image d.content r to.is meets)

module _ {D : Type 0} {ghosts : Ghosts D} where
  -- A log that was opened as `start` says

  pub begins_as : ((disk : D) (log : LogWriter D ghosts) → HasOpened disk log → HasBegun new_log disk log) → ((disk : D) (n : ℕ) (log : LogWriter D ghosts) → HasReused disk n log → HasBegun (record { number = Some n; kept = [] }) disk log)
      → ((disk : D) (b : Beginning) (log : LogWriter D ghosts) → HasResumed disk (length b.kept) b.number log → IfSome (ghosts.told disk) (λ d. take (length b.kept) d.content ≡ b.kept) → HasBegun b disk log)
      → (start : LogStart) (before : Before) (disk : D) (log : LogWriter D ghosts) → GoesOnFrom start (ghosts.told disk) before → HasOpenedAs start before disk log → HasBegun (beginning_of start before) disk log
  begins_as opened reused resumed New before disk log goes has_opened = subst (λ (b : Before). HasBegun (beginning_of New b) disk log) (sym goes) (opened disk log has_opened)
  begins_as opened reused resumed (Over n) before disk log goes has_opened = subst (λ (b : Before). HasBegun (beginning_of (Over n) b) disk log) (sym goes) (reused disk n log has_opened)
  begins_as opened reused resumed (Behind number) before disk log goes has_opened = resumed disk (record { number = number; kept = before.kept }) log has_opened.0 has_opened.1

  -- the log begins over what is on the disk, or after what is kept of it
  pub content_as : (start : LogStart) (before : Before) (disk : D) (log : LogWriter D ghosts) → HasOpenedAs start before disk log → Told (ghosts.told disk) (ghosts.told (disk_of log)) (λ x y. y.content ≡ begun_on start before x.content)
  content_as New before disk log has_opened = same_content (ghosts.told disk) (ghosts.told (disk_of log)) (has_opened.looked_at).same
  content_as (Over n) before disk log has_opened = told_so (ghosts.told disk) (ghosts.told (disk_of log)) has_opened.told (λ x y e. ap (λ (d : Disk). d.content) e)
  content_as (Behind number) before disk log has_opened =
      told_so (ghosts.told disk) (ghosts.told (disk_of log)) (kept_safe (ghosts.told disk) (ghosts.told (disk_of log)) before.kept (has_opened.0).told has_opened.1) (λ x y e. ap (λ (d : Disk). d.content) e)

  -- where the log is new, nothing is on the disk
  pub empty_as : (start : LogStart) (before : Before) (disk : D) (log : LogWriter D ghosts) → HasOpenedAs start before disk log → start ≡ New → IfSome (ghosts.told disk) (λ d. d.content ≡ [])
  empty_as New before disk log has_opened new = has_opened.empty
  empty_as (Over n) before disk log has_opened new = absurd (cc new)
  empty_as (Behind number) before disk log has_opened new = absurd (cc new)

  -- the disk is as it was found, and without a fault
  pub found_as : (start : LogStart) (before : Before) (disk : D) (log : LogWriter D ghosts) → GoesOnFrom start (ghosts.told disk) before → HasOpenedAs start before disk log → IsAsFound start (ghosts.told disk) (ghosts.told (disk_of log))
  found_as New before disk log goes has_opened = inl (has_opened.looked_at).same
  found_as (Over n) before disk log goes has_opened = inr (before, goes, has_opened.told)
  found_as (Behind number) before disk log goes has_opened =
      inr (before, goes, told_so (ghosts.told disk) (ghosts.told (disk_of log)) (kept_safe (ghosts.told disk) (ghosts.told (disk_of log)) before.kept (has_opened.0).told has_opened.1) (λ x y e. inr e))

  pub no_fault_as : (start : LogStart) (before : Before) (disk : D) (log : LogWriter D ghosts) → HasOpenedAs start before disk log → ghosts.faults (disk_of log) ≡ ghosts.faults disk
  no_fault_as New before disk log has_opened = has_opened.no_fault
  no_fault_as (Over n) before disk log has_opened = has_opened.no_fault
  no_fault_as (Behind number) before disk log has_opened = (has_opened.0).no_fault

  pub alive_as : (start : LogStart) (before : Before) (disk : D) (log : LogWriter D ghosts) → HasOpenedAs start before disk log → fault_of log ≡ None
  alive_as New before disk log has_opened = has_opened.fault
  alive_as (Over n) before disk log has_opened = has_opened.fault
  alive_as (Behind number) before disk log has_opened = (has_opened.0).fault

  -- and its time has gone on
  pub time_as : (start : LogStart) (before : Before) (disk : D) (log : LogWriter D ghosts) → HasOpenedAs start before disk log → GoesOn ghosts.moment ghosts.from disk (disk_of log)
  time_as New before disk log has_opened = let time = (has_opened.looked_at).time in record { later = time.later; forgets = time.forgets }
  time_as (Over n) before disk log has_opened = let crash = has_opened.crash in record { later = crash.later; forgets = crash.forgets }
  time_as (Behind number) before disk log has_opened = let crash = (has_opened.0).crash in record { later = crash.later; forgets = crash.forgets }

  -- and a crash leaves no less of it
  pub crash_as : (start : LogStart) (mode : Mode) (before : Before) (disk : D) (log : LogWriter D ghosts) → OnlyNow ghosts disk → GoesOnFrom start (ghosts.told disk) before → IsAccepted start mode (ghosts.told disk)
      → HasFewFamilies start (ghosts.told disk) → HasOpenedAs start before disk log → LeavesAlone ghosts start mode disk (disk_of log)
  crash_as New mode before disk log only goes accepted in_range has_opened = leaves_looked ghosts disk (disk_of log) only (has_opened.looked_at).same (has_opened.looked_at).time
  crash_as (Over n) mode before disk log only goes accepted in_range has_opened = has_opened.crash
  crash_as (Behind number) mode before disk log only goes accepted in_range has_opened = inr (accepted, in_range, (before, goes, (has_opened.0).crash))

  -- nor of one that was only read since
  pub crash_read : (start : LogStart) (mode : Mode) (before : Before) (disk : D) (log : LogWriter D ghosts) (read : D) → HasOpenedAs start before disk log → LeavesAlone ghosts start mode disk (disk_of log) → IsCountedNow ghosts (disk_of log) → OnlyReads ghosts (disk_of log) read → LeavesAlone ghosts start mode disk read
  crash_read start mode before disk log read has_opened left counts reads = by start left
    where
      untold : ghosts.told (disk_of log) ≡ None → ghosts.told disk ≡ None
      untold none = untold_before (ghosts.told disk) (ghosts.told (disk_of log)) _ (content_as start before disk log has_opened) none

      by : (start : LogStart) → LeavesAlone ghosts start mode disk (disk_of log) → LeavesAlone ghosts start mode disk read
      by New left = leaves_read ghosts disk (disk_of log) read _ left counts (λ image none. if_untold (ghosts.told disk) _ (untold none)) reads
      by (Over n) left = leaves_read ghosts disk (disk_of log) read _ left counts (λ image none. if_untold (ghosts.told disk) _ (untold none)) reads
      by (Behind number) (inl left) = inl (leaves_read ghosts disk (disk_of log) read _ left counts (λ image none. if_untold (ghosts.told disk) _ (untold none)) reads)
      by (Behind number) (inr cut) = inr (cut.0, cut.1, (cut.2.0, cut.2.1, leaves_read ghosts disk (disk_of log) read _ cut.2.2 counts (λ image none. if_untold (ghosts.told disk) _ (untold none)) reads))

  -- The log was opened for a run that goes on from nothing.
  pub opened_new : (disk : D) (log : LogWriter D ghosts) → HasOpened disk log → IsOpenedFor ghosts New disk (record { log = log; map = []; last = 0; families = 1 })
  opened_new disk log has_opened = record { before = nothing; goes_on = refl; is_opened = has_opened; map = refl; last = refl; none = λ e. refl; families = refl }

  pub opened_over : (n : ℕ) (disk : D) (log : LogWriter D ghosts) → HasReused disk n log → IsOpenedFor ghosts (Over n) disk (record { log = log; map = []; last = 0; families = 1 })
  opened_over n disk log has_reused = record { before = nothing; goes_on = refl; is_opened = has_reused; map = refl; last = refl; none = λ e. refl; families = refl }

-- Where the log was not opened

-- the disk tells what it told before, or it is as the opening of the log would leave it
pub as_found : (start : LogStart) (before : Before) (a now : Option Disk) (R : Disk → Disk → Type 0) → GoesOnFrom start a before → ((x y : Disk) → R x y → IsOpened start before x y) → Told a now (λ x y. (y ≡ x) ⊎ R x y) → IsAsFound start a now
as_found start before None None R goes to told = inl refl
as_found start before None (Some y) R goes to told = absurd told
as_found start before (Some x) None R goes to told = absurd told
as_found start before (Some x) (Some y) R goes to told = ⊎_elim (λ same. inl (ap (λ (d : Disk). Some d) same)) (λ r. inr (before, goes, to x y r)) told

module _ {D : Type 0} (ghosts : Ghosts D) (disk now : D) where
  pub refused_new : (mode : Mode) (why : OpenError) → OnlyNow ghosts disk → IsOpenError ghosts disk now why → IsRefused ghosts New mode disk now (end_of why)
  refused_new mode why only error = by_cause why error.cause error.no_fault
    where
      same : ghosts.told now ≡ ghosts.told disk
      same = (error.looked_at).same

      crash : LeavesAsBefore ghosts disk now
      crash = leaves_looked ghosts disk now only same (error.looked_at).time

      by_cause : (why : OpenError) → IsCause ghosts disk now why → CountStands ghosts disk now why → IsRefused ghosts New mode disk now (end_of why)
      by_cause (Fault count) cause stands = (inl same, (cause.0, cause.1), crash)
      by_cause (NotEmpty len) cause stands = (refl, cause.0, cause.1, same, stands, crash)
      by_cause NoMemory cause stands = (inl same, stands, crash)

  pub refused_over : (n : ℕ) (mode : Mode) (why : OpenError) → IsReuseError ghosts disk now why → IsRefused ghosts (Over n) mode disk now (end_of why)
  refused_over n mode why error = by_cause why error.cause
    where
      found : IsLeftAlone (Over n) mode (ghosts.told disk) (ghosts.told now)
      found = inr (tt, tt, as_found (Over n) nothing (ghosts.told disk) (ghosts.told now) (λ x y. y ≡ rewound x) refl (λ x y e. e) error.told)

      by_cause : (why : OpenError) → IsCauseOver ghosts disk now why → IsRefused ghosts (Over n) mode disk now (end_of why)
      by_cause (Fault count) cause = (found, (cause.0, cause.1), error.crash)
      by_cause (NotEmpty len) cause = absurd cause
      by_cause NoMemory cause = (found, ap ghosts.faults cause, error.crash)

  pub time_new : (why : OpenError) → IsOpenError ghosts disk now why → GoesOn ghosts.moment ghosts.from disk now
  time_new why error = let time = (error.looked_at).time in record { later = time.later; forgets = time.forgets }

  pub time_over : (why : OpenError) → IsReuseError ghosts disk now why → GoesOn ghosts.moment ghosts.from disk now
  time_over why error = let crash = error.crash in record { later = crash.later; forgets = crash.forgets }
