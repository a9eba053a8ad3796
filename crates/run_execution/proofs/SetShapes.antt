-- What calls do to the parts of a set: the full logs, the current one and the later ones.
use Rattle.std.proofs.Common.{◌≡◌, ℕ, ◌+◌, ◌≤◌, true, List, [], ◌∷◌, ◌++◌, length, map, Option, Some, None, IfSome, refl, sym, ◌∙◌, ap, subst, arith, length-append, append_assoc}
use Rattle.std.specs.List.{AllZip}
use Rattle.base_devices.specs.declared.disk.Disk.{Ghosts}
use Rattle.log_writer.specs.declared.writer.LogWriter.{LogWriter}
use Rattle.log_writer.specs.declared.set.LogSet.{LogSet}
use Rattle.log_writer.specs.Words.{disk_of, fault_of}
use Rattle.log_writer.specs.Opening.{HasOpened}
use Rattle.log_writer.specs.Adding.{GroupCall, answer_of}
use Rattle.log_writer.specs.Sets.{counted, full_of, current_of, later_of, logs_of, fault_in, GoesOn, AddsHere, IsStuck, AddsOver, here, next, stuck, AddsTo, SetWasRead, WroteSet, no_call, one_more, read}
use Rattle.log_writer.specs.Reads.{WasRead}
use Rattle.log_writer.proofs.Reading.{all_were_read}
use Rattle.log_writer.specs.SetCrashes.{HasOpenedSet}
use Rattle.log_writer.specs.SetWritten.{disks_of}
use Rattle.run_outcome.specs.Running as running
use Rattle.run_execution.proofs.SafeLogs.{GoesFurther, stays, call_goes_on, put_goes_on, read_goes_on}

pub zip_length : {A B : Type 0} (R : A → B → Type 0) (xs : List A) (ys : List B) → AllZip R xs ys → length xs ≡ length ys
zip_length R [] [] zip = refl
zip_length R [] (y ∷ ys) zip = absurd zip
zip_length R (x ∷ xs) [] zip = absurd zip
zip_length R (x ∷ xs) (y ∷ ys) zip = omega (arith, zip_length R xs ys zip.1)

module _ {D : Type 0} {ghosts : Ghosts D} where
  -- some of the later logs were begun, in their order
  record IsMovedOn (old new : LogSet D ghosts) : Type 0 where
    moved : List (LogWriter D ghosts)
    later : later_of old ≡ moved ++ later_of new
    many : length (full_of new) ≡ length (full_of old) + length moved

  moved_none : (old new : LogSet D ghosts) → full_of new ≡ full_of old → later_of new ≡ later_of old → IsMovedOn old new
  moved_none old new same_full same_later = record {
    moved = [];
    later = sym same_later;
    many = omega (arith, ap length same_full);
  }

  moved_next : (old between : LogSet D ghosts) → GoesOn old between → IsMovedOn old between
  moved_next old between g = record {
    moved = current_of between ∷ [];
    later = g.later;
    many = omega (arith, ap length g.full, length-append (full_of old) (g.synced ∷ []));
  }

  moved_more : (a b c : LogSet D ghosts) → IsMovedOn a b → IsMovedOn b c → IsMovedOn a c
  moved_more a b c first second = record {
    moved = first.moved ++ second.moved;
    later = first.later ∙ (ap (λ (l : List (LogWriter D ghosts)). first.moved ++ l) second.later ∙ sym (append_assoc first.moved second.moved (later_of c)));
    many = omega (arith, first.many, second.many, length-append first.moved second.moved);
  }

  moved_call : (c : GroupCall) (old new : LogSet D ghosts) → AddsTo c old new → IsMovedOn old new
  moved_call c old new adds = by_fault (fault_in old) refl adds.dead
    where
      by_over : AddsOver c old new → IsMovedOn old new
      by_over (here room a) = moved_none old new a.full a.later
      by_over (next between g a) = moved_more old between new (moved_next old between g) (moved_none between new a.full a.later)
      by_over (stuck count failed s) = moved_none old new s.full s.later

      by_fault : (f : Option ℕ) → fault_in old ≡ f → IfSome f (λ count. (c.failed ≡ Some count) × (new ≡ old)) → IsMovedOn old new
      by_fault None alive kept = by_over (adds.put alive)
      by_fault (Some count) dead kept = subst (IsMovedOn old) (sym kept.1) (moved_none old old refl refl)

  moved_read : (old new : LogSet D ghosts) → SetWasRead old new → IsMovedOn old new
  moved_read old new r = record {
    moved = [];
    later = sym r.later;
    many = let long = zip_length WasRead (full_of old) (full_of new) r.full in omega (arith, long);
  }

  moved_on : (old : LogSet D ghosts) (calls : List GroupCall) (new : LogSet D ghosts) → WroteSet old calls new → IsMovedOn old new
  moved_on old calls new no_call = moved_none old old refl refl
  moved_on old calls new (one_more {calls = before} {now = now} c wrote adds) = moved_more old now new (moved_on old before now wrote) (moved_call c now new adds)
  moved_on old calls new (read {now = now} wrote was_read) = moved_more old now new (moved_on old calls now wrote) (moved_read now new was_read)

  module _ (disks : List D) (opened : LogSet D ghosts) (has : HasOpenedSet disks opened) where
    pub logs_opened : AllZip HasOpened disks (current_of opened ∷ later_of opened)
    logs_opened = subst (λ (l : List (LogWriter D ghosts)). AllZip HasOpened disks (l ++ current_of opened ∷ later_of opened)) has.none_full has.opened

    -- no disk comes or goes
    pub set_size : (calls : List GroupCall) (set : LogSet D ghosts) → WroteSet opened calls set → length (full_of set) + 1 + length (later_of set) ≡ length disks
    set_size calls set wrote =
        let m = moved_on opened calls set wrote in
        omega (arith, m.many, ap length has.none_full, ap length m.later, length-append m.moved (later_of set), zip_length HasOpened disks (current_of opened ∷ later_of opened) logs_opened)

-- Each disk's time goes on, and its count of faults doesn't fall.
module _ {D : Type 0} (ghosts : Ghosts D) where
  abbrev pub Further : D → D → Type 0
  Further old new = running.GoesOn ghosts.moment ghosts.from old new × (ghosts.faults old ≤ ghosts.faults new)

  pub further_trans : (a b c : D) → Further a b → Further b c → Further a c
  further_trans a b c first second =
      let time = first.0 in
      let more = second.0 in
      (record { later = omega (arith, time.later, more.later); forgets = omega (arith, time.forgets, more.forgets) }, omega (arith, first.1, second.1))

  pub all_further : (xs ys zs : List D) → AllZip Further xs ys → AllZip Further ys zs → AllZip Further xs zs
  all_further [] [] zs first second = second
  all_further [] (y ∷ ys) zs first second = absurd first
  all_further (x ∷ xs) [] zs first second = absurd first
  all_further (x ∷ xs) (y ∷ ys) [] first second = absurd second
  all_further (x ∷ xs) (y ∷ ys) (z ∷ zs) first second = (further_trans x y z first.0 second.0, all_further xs ys zs first.1 second.1)

  further_log : (old new : LogWriter D ghosts) → GoesFurther old new → Further (disk_of old) (disk_of new)
  further_log old new g = (g.time, g.faults)

  abbrev AreFurther : List (LogWriter D ghosts) → List (LogWriter D ghosts) → Type 0
  AreFurther olds news = AllZip Further (map (λ (log : LogWriter D ghosts). disk_of log) olds) (map (λ (log : LogWriter D ghosts). disk_of log) news)

  further_same : (logs : List (LogWriter D ghosts)) → AreFurther logs logs
  further_same [] = tt
  further_same (log ∷ logs) = (further_log log log (stays log), further_same logs)

  -- one log has gone on, and the others are as they were
  further_one : (full : List (LogWriter D ghosts)) (old new : LogWriter D ghosts) (later : List (LogWriter D ghosts)) → GoesFurther old new → AreFurther (full ++ old ∷ later) (full ++ new ∷ later)
  further_one [] old new later g = (further_log old new g, further_same later)
  further_one (log ∷ full) old new later g = (further_log log log (stays log), further_one full old new later g)

  further_call : (c : GroupCall) (old new : LogSet D ghosts) → AddsTo c old new → AllZip Further (disks_of old) (disks_of new)
  further_call c old new adds = by_fault (fault_in old) refl adds.dead
    where
      by_here : (now : LogSet D ghosts) → AddsHere c now new → AreFurther (logs_of now) (logs_of new)
      by_here now a =
          let g = call_goes_on (counted (ghosts.faults (disk_of (current_of new))) c) (current_of now) (current_of new) (fault_of (current_of now)) refl a.adds in
          let same : logs_of new ≡ full_of now ++ current_of new ∷ later_of now = (λ i. a.full i ++ current_of new ∷ a.later i) in
          subst (AreFurther (logs_of now)) (sym same) (further_one (full_of now) (current_of now) (current_of new) (later_of now) g)

      by_next : (between : LogSet D ghosts) → GoesOn old between → AreFurther (logs_of old) (logs_of between)
      by_next between g =
          let f = put_goes_on (current_of old) g.synced [] true (answer_of None) (g.syncs).put in
          let was : logs_of old ≡ full_of old ++ current_of old ∷ (current_of between ∷ later_of between) = ap (λ (l : List (LogWriter D ghosts)). full_of old ++ current_of old ∷ l) g.later in
          let now : logs_of between ≡ full_of old ++ g.synced ∷ (current_of between ∷ later_of between) =
          ap (λ (l : List (LogWriter D ghosts)). l ++ current_of between ∷ later_of between) g.full ∙ append_assoc (full_of old) (g.synced ∷ []) (current_of between ∷ later_of between) in
          subst (λ (z : List (LogWriter D ghosts) × List (LogWriter D ghosts)). AreFurther z.0 z.1) (λ i. (sym was i, sym now i)) (further_one (full_of old) (current_of old) g.synced (current_of between ∷ later_of between) f)

      by_stuck : (count : ℕ) → IsStuck old new count → AreFurther (logs_of old) (logs_of new)
      by_stuck count s =
          let f = put_goes_on (current_of old) (current_of new) [] true (answer_of (Some (ghosts.faults (disk_of (current_of new))))) (s.fails).put in
          let same : logs_of new ≡ full_of old ++ current_of new ∷ later_of old = (λ i. s.full i ++ current_of new ∷ s.later i) in
          subst (AreFurther (logs_of old)) (sym same) (further_one (full_of old) (current_of old) (current_of new) (later_of old) f)

      by_over : AddsOver c old new → AreFurther (logs_of old) (logs_of new)
      by_over (here room a) = by_here old a
      by_over (next between g a) = all_further (disks_of old) (disks_of between) (disks_of new) (by_next between g) (by_here between a)
      by_over (stuck count failed s) = by_stuck count s

      by_fault : (f : Option ℕ) → fault_in old ≡ f → IfSome f (λ count. (c.failed ≡ Some count) × (new ≡ old)) → AreFurther (logs_of old) (logs_of new)
      by_fault None alive kept = by_over (adds.put alive)
      by_fault (Some count) dead kept = subst (λ (s : LogSet D ghosts). AreFurther (logs_of old) (logs_of s)) (sym kept.1) (further_same (logs_of old))

  further_reads : (olds news : List (LogWriter D ghosts)) → AllZip WasRead olds news → AreFurther olds news
  further_reads [] [] all = tt
  further_reads [] (new ∷ news) all = absurd all
  further_reads (old ∷ olds) [] all = absurd all
  further_reads (old ∷ olds) (new ∷ news) all = (further_log old new (read_goes_on old new all.0), further_reads olds news all.1)

  pub set_further : (old : LogSet D ghosts) (calls : List GroupCall) (new : LogSet D ghosts) → WroteSet old calls new → AllZip Further (disks_of old) (disks_of new)
  set_further old calls new no_call = further_same (logs_of old)
  set_further old calls new (one_more {calls = before} {now = now} c wrote adds) = all_further (disks_of old) (disks_of now) (disks_of new) (set_further old before now wrote) (further_call c now new adds)
  set_further old calls new (read {now = now} wrote was_read) = all_further (disks_of old) (disks_of now) (disks_of new) (set_further old calls now wrote) (further_reads (logs_of now) (logs_of new) (all_were_read now new was_read))
