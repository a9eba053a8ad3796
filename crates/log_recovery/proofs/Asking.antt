-- Disks that are asked for their lengths, and then read.
use Rattle.std.proofs.Common.{◌≡◌, ℕ, ◌+◌, ◌<◌, List, [], ◌∷◌, length, inl, refl, sym, ◌∙◌, subst, arith, append-nil}
use Rattle.std.specs.List.{AllZip}
use Rattle.base_devices.specs.OnlyReads.{OnlyReads}
use Rattle.base_devices.specs.declared.disk.Disk.{Ghosts}
use Rattle.model_base.specs.declared.log.EndReason.TheVariants as ends
use Rattle.model_base.specs.Log.{plain_log}
use Rattle.model_base.specs.Recovery.{Recovered, last_sequence}
use Rattle.model_base.specs.RecoveredLogs.{IsRecoveredAfter, in_first, after_log, ends_here, goes_on}
use Rattle.log_recovery.specs.declared.kept.Kept.{Kept}
use Rattle.log_recovery.specs.declared.many.RecoveredMany.{RecoveredMany}
use Rattle.log_recovery.specs.declared.modes.Mode.{Mode}
use Rattle.log_recovery.specs.declared.modes.Mode.TheVariants.{Point, Tail, Absolute}
use Rattle.log_recovery.specs.Modes.{Accepts, clean}
use Rattle.log_recovery.specs.RecoveringLogs.{Holds, AcceptFrom, AreAsked, none, asks, asks_on, AreEmpty, AreReadInTurn, stops, reads_on, AreRecoveredFrom}
use Rattle.log_recovery.proofs.Accepting.{accepts_first, accepts_later}
use Rattle.log_recovery.proofs.Ending.{recovered_unread}
use Rattle.log_recovery.proofs.MoreKept.{keeps_none}
use Rattle.log_recovery.proofs.Telling.{no_bytes}

-- of a file without bytes nothing is recovered
nothing : Recovered
nothing = record { batches = []; kept = 0; at = 0; why = ends.Clean }

is_nothing : (last : ℕ) → IsRecoveredAfter last plain_log [] nothing
unfolding nothing
is_nothing last = recovered_unread last plain_log [] 0 0 ends.Clean [] (keeps_none last plain_log []) no_bytes

-- The disks after one that ended clean are asked.
pub asked_after : {D : Type 0} (last : ℕ) (file : List ℕ) (files : List (List ℕ)) (r : Recovered) (old new : D) (olds news : List D) → IsRecoveredAfter last plain_log file r → r.why ≡ ends.Clean → AreAsked files olds news
    → AreReadInTurn last (file ∷ files) (old ∷ olds) (new ∷ news)
unfolding nothing
asked_after last file files r old new olds news is is_clean none = stops
asked_after last file files r old new olds news is is_clean asks = reads_on r is is_clean stops
asked_after last file files r old new olds news is is_clean (asks_on asked) = reads_on r is is_clean (asked_after (last_sequence last r.batches) [] _ nothing _ _ _ _ (is_nothing (last_sequence last r.batches)) refl asked)

-- Disks that are read in turn after they were asked are read in turn.
pub asked_then_read : {D : Type 0} (last : ℕ) (files : List (List ℕ)) (olds mids news : List D) → AreAsked files olds mids → AreReadInTurn last files mids news → AreReadInTurn last files olds news
unfolding nothing
asked_then_read last files olds mids news none read = read
asked_then_read last files olds mids news asks stops = stops
asked_then_read last files olds mids news asks (reads_on r is is_clean more) = reads_on r is is_clean more
asked_then_read last files olds mids news (asks_on asked) stops = asked_after last [] _ nothing _ _ _ _ (is_nothing last) refl asked
asked_then_read last files olds mids news (asks_on asked) (reads_on r is is_clean more) = reads_on r is is_clean (asked_then_read (last_sequence last r.batches) _ _ _ _ asked more)

-- the first disk is read further
pub first_again : {D : Type 0} (last : ℕ) (files : List (List ℕ)) (olds news : List D) (new later : D) → AreReadInTurn last files olds (new ∷ news) → AreReadInTurn last files olds (later ∷ news)
first_again last files olds news new later stops = stops
first_again last files olds news new later (reads_on r is is_clean more) = reads_on r is is_clean more

-- what holds from one list to the next holds over both steps
pub both_steps : {D : Type 0} (R : D → D → Type 0) → ((a b c : D) → R a b → R b c → R a c) → (olds mids news : List D) → AllZip R olds mids → AllZip R mids news → AllZip R olds news
both_steps R joins [] [] [] first second = tt
both_steps R joins [] [] (n ∷ news) first second = absurd second
both_steps R joins [] (m ∷ mids) news first second = absurd first
both_steps R joins (o ∷ olds) [] news first second = absurd first
both_steps R joins (o ∷ olds) (m ∷ mids) [] first second = absurd second
both_steps R joins (o ∷ olds) (m ∷ mids) (n ∷ news) first second = (joins o m n first.0 second.0, both_steps R joins olds mids news first.1 second.1)

-- the disks hold the same files after they were only read
pub still_hold : {D : Type 0} (ghosts : Ghosts D) (olds news : List D) (files : List (List ℕ)) → AllZip (OnlyReads ghosts) olds news → AllZip (Holds ghosts) olds files → AllZip (Holds ghosts) news files
still_hold ghosts [] [] files reads holds = holds
still_hold ghosts [] (n ∷ news) files reads holds = absurd reads
still_hold ghosts (o ∷ olds) [] files reads holds = absurd reads
still_hold ghosts (o ∷ olds) (n ∷ news) [] reads holds = absurd holds
still_hold ghosts (o ∷ olds) (n ∷ news) (f ∷ files) reads holds =
    let h = holds.0 in
    let same = (reads.0).same in
    ((h.0, same ∙ h.1, h.2), still_hold ghosts olds news files reads.1 holds.1)

-- No disk has bytes, and recovery ends in the last one.
abbrev pub last_answer : Kept → ℕ → RecoveredMany
last_answer kept number = record { groups = kept.groups; map = kept.map; last = kept.last; log = number; kept = 0; end = record { at = 0; why = ends.Clean } }

ends_in_last : (log number : ℕ) (kept : Kept) → number ≡ log + 1 → AreRecoveredFrom ([] ∷ []) (log + 1) kept (last_answer kept number)
unfolding nothing
ends_in_last log number kept is = record {
  recovered = in_first nothing;
  is = ends_here nothing (is_nothing kept.last) (λ e. refl);
  groups = sym (append-nil kept.groups.items);
  map_is = refl;
  last = refl;
  log_is = omega (arith, is);
  kept = refl;
  at = refl;
  why = refl;
}

passes_empty : (files : List (List ℕ)) (log : ℕ) (kept : Kept) (shown : RecoveredMany) → AreRecoveredFrom files (log + 1) kept shown → AreRecoveredFrom ([] ∷ files) log kept shown
unfolding nothing
passes_empty files log kept shown later = record {
  recovered = after_log nothing later.recovered;
  is = goes_on nothing later.recovered (is_nothing kept.last) refl later.is;
  groups = later.groups;
  map_is = later.map_is;
  last = later.last;
  log_is = let is = later.log_is in omega (arith, is);
  kept = later.kept;
  at = later.at;
  why = later.why;
}

module _ {D : Type 0} (ghosts : Ghosts D) where
  pub all_empty : (rest : List D) (files : List (List ℕ)) (log number : ℕ) (kept : Kept) → number ≡ log + length rest → 0 < length rest → AllZip (Holds ghosts) rest files → AreEmpty files → AreRecoveredFrom files (log + 1) kept (last_answer kept number)
  all_empty [] files log number kept is some holds empty = absurd (omega (arith, some))
  all_empty (d ∷ rest) [] log number kept is some holds empty = absurd holds
  all_empty (d ∷ []) (f ∷ []) log number kept is some holds empty =
      subst (λ (l : List ℕ). AreRecoveredFrom (l ∷ []) (log + 1) kept (last_answer kept number)) (sym empty.0) (ends_in_last log number kept (omega (arith, is)))
  all_empty (d ∷ []) (f ∷ g ∷ files) log number kept is some holds empty = absurd holds.1
  all_empty (d ∷ e ∷ rest) (f ∷ files) log number kept is some holds empty =
      subst (λ (l : List ℕ). AreRecoveredFrom (l ∷ files) (log + 1) kept (last_answer kept number)) (sym empty.0)
      (passes_empty files (log + 1) kept (last_answer kept number) (all_empty (e ∷ rest) files (log + 1) number kept (omega (arith, is)) (omega arith) holds.1 empty.1))

  -- each mode accepts that
  accepts_clean : (mode : Mode) (file : List ℕ) (at : ℕ) → Accepts plain_log mode file at ends.Clean
  accepts_clean Point file at = tt
  accepts_clean Tail file at = inl clean
  accepts_clean Absolute file at = clean

  pub last_accepted : (mode : Mode) (rest : List D) (files : List (List ℕ)) (log number : ℕ) → number ≡ log + length rest → 0 < length rest → AllZip (Holds ghosts) rest files → AcceptFrom (log + 1) mode files number 0 ends.Clean
  last_accepted mode [] files log number is some holds = absurd (omega (arith, some))
  last_accepted mode (d ∷ rest) [] log number is some holds = absurd holds
  last_accepted mode (d ∷ []) (f ∷ files) log number is some holds =
      let same : log + 1 ≡ number = omega (arith, is) in
      subst (λ n. AcceptFrom (log + 1) mode (f ∷ files) n 0 ends.Clean) same (accepts_first mode f files (log + 1) ends.Clean 0 (accepts_clean mode f 0))
  last_accepted mode (d ∷ e ∷ rest) (f ∷ files) log number is some holds =
      accepts_later mode f files (log + 1) ends.Clean number 0 (last_accepted mode (e ∷ rest) files (log + 1) number (omega (arith, is)) (omega arith) holds.1)
