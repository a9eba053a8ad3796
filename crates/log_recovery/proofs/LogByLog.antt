-- What recovery of several logs gives, log by log.
use Rattle.std.proofs.Common.{◌≡◌, ◌↔◌, IsTrue, ℕ, ◌+◌, ◌<◌, Bool, true, false, List, [], ◌∷◌, ◌++◌, length, map, fold, Option, IfSome, Result, Ok, Err, IfOk, IfErr, refl, sym, ◌∙◌, ap, subst, arith, append_assoc}
use Rattle.std.specs.List.{AllZip}
use Rattle.std.proofs.lemmas.List.{map-append, nil_from_length}
use Rattle.std.proofs.lemmas.List.Sums.{fold-append}
use Rattle.base_devices.proofs.Contents.{of_content}
use Rattle.base_devices.specs.Disk.{Disk}
use Rattle.base_devices.specs.OnlyReads.{content_of}
use Rattle.base_devices.specs.declared.disk.Disk.{Ghosts}
use Rattle.model_base.specs.declared.log.EndReason.{EndReason}
use Rattle.model_base.specs.declared.log.EndReason.TheVariants as ends
use Rattle.model_base.specs.Log.{plain_log}
use Rattle.model_base.specs.Map.{Pairs, after_records}
use Rattle.model_base.specs.Recovery.{Logged, last_after, last_sequence}
use Rattle.model_base.specs.RecoveredLogs.{RecoveredLogs, in_first, after_log, AreRecoveredAfter, ends_here, goes_on}
use Rattle.log_recovery.specs.declared.kept.Kept.{Kept}
use Rattle.log_recovery.specs.declared.modes.Mode.{Mode}
use Rattle.log_recovery.specs.declared.recovery.End.{End}
use Rattle.log_recovery.specs.declared.recovery.RecoverError.{RecoverError}
use Rattle.log_recovery.specs.declared.recovery.RecoverError.TheVariants.{Fault, NoMemory, Damage}
use Rattle.log_recovery.specs.declared.many.RecoveredMany.{RecoveredMany}
use Rattle.log_recovery.specs.Keeping.{note_of}
use Rattle.log_recovery.specs.Modes.{Accepts}
use Rattle.log_recovery.specs.Recovering.{HasKept}
use Rattle.log_recovery.specs.RecoveringLogs.{Holds, AcceptFrom, AreAsked, asks, asks_on, AreDamagedFrom, AreEmpty, AreReadInTurn, stops, reads_on, AreRecoveredFrom, HaveRecovered, TellDamage, TellDamageFrom, with_count}
use Rattle.log_recovery.proofs.Asking.{asked_after}
use Rattle.log_recovery.proofs.Accepting.{accepts_first, refuses_first, accepts_later, accepted_later}

-- the answer where recovery ends in this log
abbrev pub answer_of : Kept → ℕ → End → RecoveredMany
answer_of kept log end = record { groups = kept.groups; map = kept.map; last = kept.last; log = log; kept = kept.end; end = end }

-- Recovery ends in the first of these files.
module _ (files : List (List ℕ)) (file : List ℕ) (log : ℕ) (before kept : Kept) (end : End) (has : HasKept plain_log file before kept end) (final : end.why ≡ ends.Clean → files ≡ []) where
  ends_in : AreRecoveredFrom (file ∷ files) log before (answer_of kept log end)
  ends_in = record {
    recovered = in_first has.recovered;
    is = ends_here has.recovered has.is (λ clean. final (has.why ∙ clean));
    groups = has.shows.groups;
    map_is = has.shows.map_is;
    last = has.shows.last;
    log_is = refl;
    kept = has.kept_is;
    at = has.at;
    why = has.why;
  }

  damaged_in : (mode : Mode) → (Accepts plain_log mode file end.at end.why → ⊥) → AreDamagedFrom log before mode (file ∷ files) log end.at end.why
  damaged_in mode refuses = record {
    recovered = in_first has.recovered;
    is = ends_here has.recovered has.is (λ clean. final (has.why ∙ clean));
    log_is = refl;
    at_is = sym has.at;
    why_is = sym has.why;
    refused = refuses_first mode file files log end.why end.at refuses;
  }

-- recovery of some logs ends in one of them
some_log : (number : Option ℕ) (last : ℕ) (files : List (List ℕ)) (s : RecoveredLogs) → AreRecoveredAfter number last files s → 0 < s.log
some_log number last files s (ends_here r is stop) = omega arith
some_log number last files s (goes_on r more is clean on) = omega arith

-- Recovery goes on in the others.
module _ (files : List (List ℕ)) (file : List ℕ) (log : ℕ) (before kept : Kept) (end : End) (has : HasKept plain_log file before kept end) (clean : end.why ≡ ends.Clean) where
  all_recovered : (s : RecoveredLogs) → AreRecoveredAfter plain_log kept.last files s → AreRecoveredAfter plain_log before.last (file ∷ files) (after_log has.recovered s)
  all_recovered s is = goes_on has.recovered s has.is (sym has.why ∙ clean) (subst (λ n. AreRecoveredAfter plain_log n files s) has.shows.last is)

  goes_on_in : (shown : RecoveredMany) → AreRecoveredFrom files (log + 1) kept shown → AreRecoveredFrom (file ∷ files) log before shown
  goes_on_in shown later =
      let r = has.recovered in
      let s = later.recovered in
      record {
        recovered = after_log r s;
        is = all_recovered s later.is;
        groups = later.groups ∙ (ap (λ l. l ++ map note_of s.batches) has.shows.groups ∙ (append_assoc before.groups.items (map note_of r.batches) (map note_of s.batches) ∙ ap (λ l. before.groups.items ++ l) (sym (map-append note_of r.batches s.batches))));
        map_is =
            later.map_is
            ∙ (ap (λ (m : Pairs). fold (λ (p : Pairs) (b : Logged). after_records p b.records) m s.batches) has.shows.map_is ∙ sym (fold-append (λ (p : Pairs) (b : Logged). after_records p b.records) before.map r.batches s.batches));
        last = later.last ∙ (ap (λ (n : ℕ). last_sequence n s.batches) has.shows.last ∙ sym (fold-append last_after before.last r.batches s.batches));
        log_is = omega (arith, later.log_is);
        kept = later.kept;
        at = later.at;
        why = later.why;
      }

  damaged_on_in : (mode : Mode) (number at : ℕ) (why : EndReason) → AreDamagedFrom (log + 1) kept mode files number at why → AreDamagedFrom log before mode (file ∷ files) number at why
  damaged_on_in mode number at why later =
      let s = later.recovered in
      let some = some_log plain_log kept.last files s later.is in
      record {
        recovered = after_log has.recovered s;
        is = all_recovered s later.is;
        log_is = omega (arith, later.log_is);
        at_is = later.at_is;
        why_is = later.why_is;
        refused = λ accepts. later.refused (accepted_later mode file files log why number at (omega (arith, later.log_is, some)) accepts);
      }

  reads_on_in : {D : Type 0} (disk new : D) (rest news : List D) → AreReadInTurn kept.last files rest news → AreReadInTurn before.last (file ∷ files) (disk ∷ rest) (new ∷ news)
  reads_on_in disk new rest news later = reads_on has.recovered has.is (sym has.why ∙ clean) (subst (λ n. AreReadInTurn n files rest news) has.shows.last later)

-- what is said of the disk's content is said of the file that it holds
held : {D : Type 0} (ghosts : Ghosts D) (disk : D) (told : Option Disk) (file : List ℕ) (P : List ℕ → Type 0) → told ≡ ghosts.told disk → Holds ghosts disk file → IfSome (content_of told) P → P file
held ghosts disk told file P same holds says = subst P holds.2 (subst (λ (t : Option Disk). IfSome t (λ d. P d.content)) (same ∙ holds.1) (of_content told P says))

-- disks that aren't there hold no files
no_files : {D : Type 0} (ghosts : Ghosts D) (rest : List D) (files : List (List ℕ)) → rest ≡ [] → AllZip (Holds ghosts) rest files → files ≡ []
no_files ghosts [] [] e all = refl
no_files ghosts [] (f ∷ files) e all = absurd all
no_files ghosts (r ∷ rest) files e all = absurd (cc)

module _ {D : Type 0} (ghosts : Ghosts D) (disks : List D) (disk : D) (rest : List D) (parts : disks ≡ disk ∷ rest) where
  -- what holds where the first disk holds a file and the others hold files holds where all disks hold files
  by_files : (P : List (List ℕ) → Type 0) → ((file : List ℕ) (files : List (List ℕ)) → Holds ghosts disk file → AllZip (Holds ghosts) rest files → P (file ∷ files)) → (files : List (List ℕ)) → AllZip (Holds ghosts) disks files → P files
  by_files P one_by_one files holds = by_parts files (subst (λ (l : List D). AllZip (Holds ghosts) l files) parts holds)
    where
      by_parts : (files : List (List ℕ)) → AllZip (Holds ghosts) (disk ∷ rest) files → P files
      by_parts [] holds = absurd holds
      by_parts (file ∷ files) holds = one_by_one file files holds.0 holds.1

  -- No other disk is read.
  pub all_stop : (new : D) (last : ℕ) (files : List (List ℕ)) → AreReadInTurn last files disks (new ∷ rest)
  all_stop new last files = subst (λ (l : List D). AreReadInTurn last files l (new ∷ rest)) (sym parts) stops

  -- what is said of the first one and of the others is said of all
  pub in_turn_of_all : (last : ℕ) (news : List D) → ((files : List (List ℕ)) → AllZip (Holds ghosts) (disk ∷ rest) files → AreReadInTurn last files (disk ∷ rest) news) → (files : List (List ℕ)) → AllZip (Holds ghosts) disks files → AreReadInTurn last files disks news
  in_turn_of_all last news says files holds = subst (λ (l : List D). AreReadInTurn last files l news) (sym parts) (says files (subst (λ (l : List D). AllZip (Holds ghosts) l files) parts holds))

  -- The first disk is asked for its length.
  pub first_asked : (new : D) (files : List (List ℕ)) → AreAsked files disks (new ∷ rest)
  first_asked new files = subst (λ (l : List D). AreAsked files l (new ∷ rest)) (sym parts) asks

  -- It has no bytes.
  module _ (len : ℕ) (no_bytes : len ≡ 0) (long : IfSome (content_of (ghosts.told disk)) (λ file. len ≡ length file)) where
    no_content : (file : List ℕ) → Holds ghosts disk file → file ≡ []
    no_content file holds =
        let is : len ≡ length file = held ghosts disk (ghosts.told disk) file (λ l. len ≡ length l) refl holds long in
        nil_from_length file (sym is ∙ no_bytes)

    pub first_empty : rest ≡ [] → (files : List (List ℕ)) → AllZip (Holds ghosts) disks files → AreEmpty files
    first_empty only = by_files AreEmpty (λ file files first others. (no_content file first, subst AreEmpty (sym (no_files ghosts rest files only others)) tt))

    pub more_empty : ((files : List (List ℕ)) → AllZip (Holds ghosts) rest files → AreEmpty files) → (files : List (List ℕ)) → AllZip (Holds ghosts) disks files → AreEmpty files
    more_empty more = by_files AreEmpty (λ file files first others. (no_content file first, more files others))

    pub more_asked : (new : D) (news : List D) → ((files : List (List ℕ)) → AllZip (Holds ghosts) rest files → AreAsked files rest news)
        → (files : List (List ℕ)) → AllZip (Holds ghosts) disks files → AreAsked files disks (new ∷ news)
    more_asked new news more = by_files (λ files. AreAsked files disks (new ∷ news)) (λ file files first others.
        subst (λ (l : List ℕ). AreAsked (l ∷ files) disks (new ∷ news)) (sym (no_content file first))
        (subst (λ (l : List D). AreAsked ([] ∷ files) l (new ∷ news)) (sym parts) (asks_on (more files others))))

  module _ (log : ℕ) (before kept : Kept) (end : End) (has : IfSome (content_of (ghosts.told disk)) (λ file. HasKept plain_log file before kept end)) where
    has_kept : (file : List ℕ) → Holds ghosts disk file → HasKept plain_log file before kept end
    has_kept file holds = held ghosts disk (ghosts.told disk) file (λ l. HasKept plain_log l before kept end) refl holds has

    -- Recovery ends with this disk.
    module _ (final : end.why ≡ ends.Clean → rest ≡ []) where
      pub all_end : (files : List (List ℕ)) → AllZip (Holds ghosts) disks files → AreRecoveredFrom files log before (answer_of kept log end)
      all_end = by_files (λ files. AreRecoveredFrom files log before (answer_of kept log end)) (λ file files first others.
          ends_in files file log before kept end (has_kept file first) (λ clean. no_files ghosts rest files (final clean) others))

      module _ (mode : Mode) (told : Option Disk) (same : told ≡ ghosts.told disk) (is : Bool) (decided : IfSome (content_of told) (λ file. IsTrue is ↔ Accepts plain_log mode file end.at end.why)) where
        is_accepted : (file : List ℕ) → Holds ghosts disk file → IsTrue is ↔ Accepts plain_log mode file end.at end.why
        is_accepted file holds = held ghosts disk told file (λ l. IsTrue is ↔ Accepts plain_log mode l end.at end.why) same holds decided

        pub all_accepted : is ≡ true → (files : List (List ℕ)) → AllZip (Holds ghosts) disks files → AcceptFrom log mode files log end.at end.why
        all_accepted so = by_files (λ files. AcceptFrom log mode files log end.at end.why) (λ file files first others.
            accepts_first mode file files log end.why end.at ((is_accepted file first).0 so))

        pub all_damaged : is ≡ false → (files : List (List ℕ)) → AllZip (Holds ghosts) disks files → AreDamagedFrom log before mode files log end.at end.why
        all_damaged not_so = by_files (λ files. AreDamagedFrom log before mode files log end.at end.why) (λ file files first others.
            damaged_in files file log before kept end (has_kept file first) (λ clean. no_files ghosts rest files (final clean) others) mode
            (λ accepts. let so : is ≡ true = (is_accepted file first).1 accepts in cc))

    -- Recovery goes on with the other disks.
    module _ (clean : end.why ≡ ends.Clean) where
      pub all_go_on : {E : Type 0} (r : Result RecoveredMany E) → ((files : List (List ℕ)) → AllZip (Holds ghosts) rest files → IfOk r (AreRecoveredFrom files (log + 1) kept))
          → (files : List (List ℕ)) → AllZip (Holds ghosts) disks files → IfOk r (AreRecoveredFrom files log before)
      all_go_on (Ok shown) more = by_files (λ files. AreRecoveredFrom files log before shown) (λ file files first others.
          goes_on_in files file log before kept end (has_kept file first) clean shown (more files others))
      all_go_on (Err e) more = λ files holds. tt

      pub all_damaged_on : {T : Type 0} (mode : Mode) (r : Result T RecoverError) → ((files : List (List ℕ)) → AllZip (Holds ghosts) rest files → IfErr r (TellDamageFrom (log + 1) kept mode files))
          → (files : List (List ℕ)) → AllZip (Holds ghosts) disks files → IfErr r (TellDamageFrom log before mode files)
      all_damaged_on mode (Ok found) more = λ files holds. tt
      all_damaged_on mode (Err (Fault count)) more = λ files holds. tt
      all_damaged_on mode (Err NoMemory) more = λ files holds. tt
      all_damaged_on mode (Err (Damage number at why)) more = by_files (λ files. AreDamagedFrom log before mode files number at why) (λ file files first others.
          damaged_on_in files file log before kept end (has_kept file first) clean mode number at why (more files others))

      pub all_read_on : (new : D) (news : List D) → ((files : List (List ℕ)) → AllZip (Holds ghosts) rest files → AreReadInTurn kept.last files rest news)
          → (files : List (List ℕ)) → AllZip (Holds ghosts) disks files → AreReadInTurn before.last files disks (new ∷ news)
      all_read_on new news more = by_files (λ files. AreReadInTurn before.last files disks (new ∷ news)) (λ file files first others.
          subst (λ (l : List D). AreReadInTurn before.last (file ∷ files) l (new ∷ news)) (sym parts)
          (reads_on_in files file log before kept end (has_kept file first) clean disk new rest news (more files others)))

      -- The other disks are asked.
      pub all_asked : (new : D) (news : List D) → ((files : List (List ℕ)) → AllZip (Holds ghosts) rest files → AreAsked files rest news)
          → (files : List (List ℕ)) → AllZip (Holds ghosts) disks files → AreReadInTurn before.last files disks (new ∷ news)
      all_asked new news asked = by_files (λ files. AreReadInTurn before.last files disks (new ∷ news)) (λ file files first others.
          let has = has_kept file first in
          subst (λ (l : List D). AreReadInTurn before.last (file ∷ files) l (new ∷ news)) (sym parts)
          (asked_after before.last file files has.recovered disk new rest news has.is (sym has.why ∙ clean) (asked files others)))

  pub all_accepted_on : {E : Type 0} (log : ℕ) (mode : Mode) (r : Result RecoveredMany E) → ((files : List (List ℕ)) → AllZip (Holds ghosts) rest files → IfOk r (λ s. AcceptFrom (log + 1) mode files s.log s.end.at s.end.why))
      → (files : List (List ℕ)) → AllZip (Holds ghosts) disks files → IfOk r (λ s. AcceptFrom log mode files s.log s.end.at s.end.why)
  all_accepted_on log mode (Ok s) more = by_files (λ files. AcceptFrom log mode files s.log s.end.at s.end.why) (λ file files first others.
      accepts_later mode file files log s.end.why s.log s.end.at (more files others))
  all_accepted_on log mode (Err e) more = λ files holds. tt

-- From nothing on.
module _ (files : List (List ℕ)) (before : Kept) (none : before.last ≡ 0) where
  pub from_nothing : (shown : RecoveredMany) → before.groups.items ≡ [] → before.map ≡ [] → AreRecoveredFrom files 1 before shown → HaveRecovered files shown
  from_nothing shown groups map_is from = record {
    recovered = from.recovered;
    is = subst (λ n. AreRecoveredAfter plain_log n files from.recovered) none from.is;
    shows = record {
      groups = from.groups ∙ ap (λ l. l ++ map note_of from.recovered.batches) groups;
      map_is = from.map_is ∙ ap (λ (m : Pairs). fold (λ (p : Pairs) (b : Logged). after_records p b.records) m from.recovered.batches) map_is;
      last = from.last ∙ ap (λ (n : ℕ). last_sequence n from.recovered.batches) none;
      log = omega (arith, from.log_is);
      kept = from.kept;
      at = from.at;
      why = from.why;
    };
  }

  pub damaged_from_nothing : (mode : Mode) (all : ℕ) (e : RecoverError) → TellDamageFrom 1 before mode files e → TellDamage mode files (with_count all e)
  damaged_from_nothing mode all (Fault count) tells = tt
  damaged_from_nothing mode all NoMemory tells = tt
  damaged_from_nothing mode all (Damage log at why) from = record {
    recovered = from.recovered;
    is = subst (λ n. AreRecoveredAfter plain_log n files from.recovered) none from.is;
    log_is = omega (arith, from.log_is);
    at_is = from.at_is;
    why_is = from.why_is;
    refused = from.refused;
  }

  pub read_from_nothing : {D : Type 0} (olds news : List D) → AreReadInTurn before.last files olds news → AreReadInTurn 0 files olds news
  read_from_nothing olds news read = subst (λ n. AreReadInTurn n files olds news) none read
