-- Why the disks of a log that tell what they hold go on to tell it, and so its bytes stay known.
use Rattle.std.proofs.Common.{◌≡◌, ℕ, Bool, true, List, [], ◌∷◌, ◌++◌, take, map, Option, Some, None, IfSome, Result, refl, sym, ◌∙◌, ap, subst}
use Rattle.std.specs.List.{AllByRecursion, AllZip}
use Rattle.base_devices.specs.Disk.{Disk, Told}
use Rattle.base_devices.specs.declared.disk.Disk.{Ghosts}
use Rattle.model_base.specs.Recovery.{Logged}
use Rattle.log_writer.specs.declared.writer.LogWriter.{LogWriter}
use Rattle.log_writer.specs.declared.set.LogSet.{LogSet}
use Rattle.log_writer.specs.Adding.{GroupCall, answer_of, text_at_end, Adds}
use Rattle.log_writer.specs.Puts.{Puts, ArePut}
use Rattle.log_writer.specs.Opening.{HasOpened}
use Rattle.log_writer.specs.ReadableLogs.{IsTold, AreTold, HasBytes, no_bytes, IsOneFile, AreSetFiles, KeepsBatches, SetKeepsNone}
use Rattle.log_writer.specs.Reads.{front_of, WasRead}
use Rattle.log_writer.specs.Sets.{counted, full_of, current_of, later_of, logs_of, begun_in, fault_in, GoesOn, AddsHere, AddsOver, here, next, stuck, IsStuck, AddsTo, SetWasRead, WroteSet}
use Rattle.log_writer.specs.Sets as sets
use Rattle.log_writer.specs.Words.{disk_of, len_of, fault_of}
use Rattle.log_writer.specs.Written.{Wrote, no_call, one_more, read}

pub tells_on : (a b : Option Disk) (R : Disk → Disk → Type 0) → Told a b R → (d : Disk) × (a ≡ Some d) → (d : Disk) × (b ≡ Some d)
tells_on None b R told t = let wrong : ◌≡◌ {A = Option Disk} None (Some t.0) = t.1 in absurd (cc)
tells_on (Some x) None R told t = absurd told
tells_on (Some x) (Some y) R told t = (y, refl)

module _ {D : Type 0} {ghosts : Ghosts D} where
  put_tells : {T E : Type 0} (old new : D) (bytes : List ℕ) (sync : Bool) (result : Result T E) → Puts ghosts old new bytes sync result → IsTold ghosts old → IsTold ghosts new
  put_tells old new bytes sync result put t = tells_on (ghosts.told old) (ghosts.told new) (λ before after. ArePut before after bytes sync result) put.are_put t

  -- One log

  call_tells : (c : GroupCall) (old new : LogWriter D ghosts) → Adds c old new → IsTold ghosts (disk_of old) → IsTold ghosts (disk_of new)
  call_tells c old new adds t = by_fault (fault_of old) refl
    where
      by_fault : (f : Option ℕ) → fault_of old ≡ f → IsTold ghosts (disk_of new)
      by_fault None alive = put_tells (disk_of old) (disk_of new) (text_at_end c old) c.sync (answer_of c.failed) (adds.put alive) t
      by_fault (Some n) dead =
          let same = subst (λ (f : Option ℕ). IfSome f (λ count. (c.failed ≡ Some count) × (new ≡ old))) dead adds.dead in
          subst (λ (log : LogWriter D ghosts). IsTold ghosts (disk_of log)) (sym same.1) t

  read_tells : (old new : LogWriter D ghosts) → WasRead old new → IsTold ghosts (disk_of old) → IsTold ghosts (disk_of new)
  read_tells old new r t = (t.0, r.disk.same ∙ t.1)

  calls_tell : (old : LogWriter D ghosts) (calls : List GroupCall) (new : LogWriter D ghosts) → Wrote old calls new → IsTold ghosts (disk_of old) → IsTold ghosts (disk_of new)
  calls_tell old calls new no_call t = t
  calls_tell old calls new (one_more {calls = before} {now = now} c wrote adds) t = call_tells c now new adds (calls_tell old before now wrote t)
  calls_tell old calls new (read {now = now} wrote r) t = read_tells now new r (calls_tell old calls now wrote t)

  bytes_known : (log : LogWriter D ghosts) → IsTold ghosts (disk_of log) → (file : List ℕ) × HasBytes log file
  bytes_known log t = (take (len_of log) t.0.content, ap (front_of (len_of log)) t.1)

  pub one_file_known : (opened log : LogWriter D ghosts) (kept : List Logged) (calls : List GroupCall) → KeepsBatches opened kept → Wrote opened calls log → (files : List (List ℕ)) × IsOneFile log files
  one_file_known opened log kept calls keeps wrote =
      let known = bytes_known log (calls_tell opened calls log wrote keeps.told) in
      (known.0 ∷ [], record { file = known.0; has = known.1; only = refl })

  -- A set

  told_front : (xs ys : List (LogWriter D ghosts)) → AreTold (xs ++ ys) → AreTold xs
  told_front [] ys t = tt
  told_front (x ∷ xs) ys t = (t.0, told_front xs ys t.1)

  told_back : (xs ys : List (LogWriter D ghosts)) → AreTold (xs ++ ys) → AreTold ys
  told_back [] ys t = t
  told_back (x ∷ xs) ys t = told_back xs ys t.1

  told_both : (xs ys : List (LogWriter D ghosts)) → AreTold xs → AreTold ys → AreTold (xs ++ ys)
  told_both [] ys t u = u
  told_both (x ∷ xs) ys t u = (t.0, told_both xs ys t.1 u)

  here_tells : (c : GroupCall) (old new : LogSet D ghosts) → AddsHere c old new → AreTold (logs_of old) → AreTold (logs_of new)
  here_tells c old new a t =
      let back = told_back (full_of old) (current_of old ∷ later_of old) t in
      told_both (full_of new) (current_of new ∷ later_of new) (subst AreTold (sym a.full) (told_front (full_of old) (current_of old ∷ later_of old) t))
      (call_tells (counted (ghosts.faults (disk_of (current_of new))) c) (current_of old) (current_of new) a.adds back.0, subst AreTold (sym a.later) back.1)

  next_tells : (old between : LogSet D ghosts) → GoesOn old between → AreTold (logs_of old) → AreTold (logs_of between)
  next_tells old between g t =
      let back = told_back (full_of old) (current_of old ∷ later_of old) t in
      let synced : IsTold ghosts (disk_of g.synced) = put_tells (disk_of (current_of old)) (disk_of g.synced) [] true (answer_of None) g.syncs.put back.0 in
      let full = told_both (full_of old) (g.synced ∷ []) (told_front (full_of old) (current_of old ∷ later_of old) t) (synced, tt) in
      told_both (full_of between) (current_of between ∷ later_of between) (subst AreTold (sym g.full) full) (subst AreTold g.later back.1)

  stuck_tells : (old new : LogSet D ghosts) (count : ℕ) → IsStuck old new count → AreTold (logs_of old) → AreTold (logs_of new)
  stuck_tells old new count s t =
      let back = told_back (full_of old) (current_of old ∷ later_of old) t in
      told_both (full_of new) (current_of new ∷ later_of new) (subst AreTold (sym s.full) (told_front (full_of old) (current_of old ∷ later_of old) t))
      (put_tells (disk_of (current_of old)) (disk_of (current_of new)) [] true (answer_of (Some (ghosts.faults (disk_of (current_of new))))) s.fails.put back.0, subst AreTold (sym s.later) back.1)

  set_call_tells : (c : GroupCall) (old new : LogSet D ghosts) → AddsTo c old new → AreTold (logs_of old) → AreTold (logs_of new)
  set_call_tells c old new adds t = by_fault (fault_in old) refl
    where
      by_over : AddsOver c old new → AreTold (logs_of new)
      by_over (here room a) = here_tells c old new a t
      by_over (next between g a) = here_tells c between new a (next_tells old between g t)
      by_over (stuck count failed s) = stuck_tells old new count s t

      by_fault : (f : Option ℕ) → fault_in old ≡ f → AreTold (logs_of new)
      by_fault None alive = by_over (adds.put alive)
      by_fault (Some n) dead =
          let same = subst (λ (f : Option ℕ). IfSome f (λ count. (c.failed ≡ Some count) × (new ≡ old))) dead adds.dead in
          subst (λ (set : LogSet D ghosts). AreTold (logs_of set)) (sym same.1) t

  read_all_tell : (xs ys : List (LogWriter D ghosts)) → AllZip WasRead xs ys → AreTold xs → AreTold ys
  read_all_tell [] [] all t = tt
  read_all_tell [] (y ∷ ys) all t = absurd all
  read_all_tell (x ∷ xs) [] all t = absurd all
  read_all_tell (x ∷ xs) (y ∷ ys) all t = (read_tells x y all.0 t.0, read_all_tell xs ys all.1 t.1)

  set_read_tells : (old new : LogSet D ghosts) → SetWasRead old new → AreTold (logs_of old) → AreTold (logs_of new)
  set_read_tells old new r t =
      let back = told_back (full_of old) (current_of old ∷ later_of old) t in
      told_both (full_of new) (current_of new ∷ later_of new) (read_all_tell (full_of old) (full_of new) r.full (told_front (full_of old) (current_of old ∷ later_of old) t))
      (read_tells (current_of old) (current_of new) r.current back.0, subst AreTold (sym r.later) back.1)

  set_calls_tell : (old : LogSet D ghosts) (calls : List GroupCall) (new : LogSet D ghosts) → WroteSet old calls new → AreTold (logs_of old) → AreTold (logs_of new)
  set_calls_tell old calls new sets.no_call t = t
  set_calls_tell old calls new (sets.one_more {calls = before} {now = now} c wrote adds) t = set_call_tells c now new adds (set_calls_tell old before now wrote t)
  set_calls_tell old calls new (sets.read {now = now} wrote r) t = set_read_tells now new r (set_calls_tell old calls now wrote t)

  files_known : (logs : List (LogWriter D ghosts)) → AreTold logs → (files : List (List ℕ)) × AllZip HasBytes logs files
  files_known [] t = ([], tt)
  files_known (log ∷ logs) t =
      let known = bytes_known log t.0 in
      let more = files_known logs t.1 in
      (known.0 ∷ more.0, (known.1, more.1))

  pub set_files_known : (opened set : LogSet D ghosts) (kept : List Logged) (calls : List GroupCall) → SetKeepsNone opened kept → WroteSet opened calls set → (files : List (List ℕ)) × AreSetFiles set files
  set_files_known opened set kept calls keeps wrote =
      let t = set_calls_tell opened calls set wrote keeps.told in
      let back = told_back (full_of set) (current_of set ∷ later_of set) t in
      let begun = files_known (begun_in set) (told_both (full_of set) (current_of set ∷ []) (told_front (full_of set) (current_of set ∷ later_of set) t) (back.0, tt)) in
      (begun.0 ++ map no_bytes (later_of set), record { begun = begun.0; have = begun.1; all = refl })

  -- as a set is opened
  pub opened_tell : (disks : List D) (logs : List (LogWriter D ghosts)) → AllZip HasOpened disks logs → AllByRecursion (IsTold ghosts) disks → AreTold logs
  opened_tell [] [] opened t = tt
  opened_tell [] (log ∷ logs) opened t = absurd opened
  opened_tell (disk ∷ disks) [] opened t = absurd opened
  opened_tell (disk ∷ disks) (log ∷ logs) opened t = ((t.0.0, opened.0.looked_at.same ∙ t.0.1), opened_tell disks logs opened.1 t.1)
