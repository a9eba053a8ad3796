-- Why a set's fault came in one of the calls that wrote it.
use Rattle.std.proofs.Common.{◌≡◌, ℕ, ◌+◌, ◌≤◌, List, [], ◌∷◌, ◌++◌, sum_by, Option, None, Some, IfSome, refl, sym, ◌∙◌, ap, subst, arith}
use Rattle.std.specs.List.{AllZip}
use Rattle.std.proofs.lemmas.List.Sums.{sum_by-cons, sum_by-append}
use Rattle.base_devices.specs.declared.disk.Disk.{Ghosts}
use Rattle.model_base.specs.Counts.{Rose}
use Rattle.log_writer.specs.declared.writer.LogWriter.{LogWriter}
use Rattle.log_writer.specs.declared.set.LogSet.{LogSet}
use Rattle.log_writer.specs.Words.{disk_of, fault_of}
use Rattle.log_writer.specs.Puts.{Puts}
use Rattle.log_writer.specs.Adding.{GroupCall, answer_of, text_at_end, Adds}
use Rattle.log_writer.specs.FaultLaws.{reached_later}
use Rattle.log_writer.specs.GroupLogs.{CameInCall, CameInCalls}
use Rattle.log_writer.specs.Reads.{WasRead}
use Rattle.log_writer.specs.Sets.{count_in, counted, full_of, current_of, later_of, logs_of, fault_in, GoesOn, AddsHere, AddsOver, here, next, stuck, IsStuck, AddsTo, SetWasRead, WroteSet, no_call, one_more, read}

-- the count of the disk that a call was made to: it rose if the call failed, and stayed if it worked
record Counts (before now : ℕ) (failed : Option ℕ) : Type 0 where
  later : before ≤ now
  rose : IfSome failed (λ count. Rose before now)
  worked : failed ≡ None → now ≡ before

-- whether a call failed doesn't depend on how its fault is counted
same_failure : (n before now : ℕ) (c : GroupCall) → Counts before now (counted n c).failed → Counts before now c.failed
same_failure n before now c counts = by_failed c.failed refl
  where
    by_failed : (f : Option ℕ) → c.failed ≡ f → Counts before now c.failed
    by_failed None e =
        let k : Counts before now None = subst (λ (f : Option ℕ). Counts before now (counted n (record c { failed = f })).failed) e counts in
        subst (Counts before now) (sym e) k
    by_failed (Some m) e =
        let k : Counts before now (Some n) = subst (λ (f : Option ℕ). Counts before now (counted n (record c { failed = f })).failed) e counts in
        subst (Counts before now) (sym e) (record { later = k.later; rose = k.rose; worked = λ none. let wrong : ◌≡◌ {A = Option ℕ} (Some m) None = none in absurd (cc) })

module _ {D : Type 0} {ghosts : Ghosts D} where
  faults : LogWriter D ghosts → ℕ
  faults log = ghosts.faults (disk_of log)

  -- how many calls of all these logs' disks failed, in three parts
  in_parts : (full : List (LogWriter D ghosts)) (log : LogWriter D ghosts) (later : List (LogWriter D ghosts)) → sum_by (λ (l : LogWriter D ghosts). ghosts.faults (disk_of l)) (full ++ log ∷ later)
      ≡ sum_by (λ (l : LogWriter D ghosts). ghosts.faults (disk_of l)) full + (ghosts.faults (disk_of log) + sum_by (λ (l : LogWriter D ghosts). ghosts.faults (disk_of l)) later)
  in_parts full log later = sum_by-append (λ (l : LogWriter D ghosts). ghosts.faults (disk_of l)) full (log ∷ later)
      ∙ ap (λ (n : ℕ). sum_by (λ (l : LogWriter D ghosts). ghosts.faults (disk_of l)) full + n) (sum_by-cons (λ (l : LogWriter D ghosts). ghosts.faults (disk_of l)) log later)

  one_counts : (c : GroupCall) (old new : LogWriter D ghosts) → fault_of old ≡ None → Adds c old new → Counts (ghosts.faults (disk_of old)) (ghosts.faults (disk_of new)) c.failed
  one_counts c old new alive adds = by_answer c.failed (adds.put alive)
    where
      by_answer : (f : Option ℕ) → Puts ghosts (disk_of old) (disk_of new) (text_at_end c old) c.sync (answer_of f) → Counts (ghosts.faults (disk_of old)) (ghosts.faults (disk_of new)) f
      by_answer None put = record { later = (put.cause).later; rose = tt; worked = λ none. (put.cause).worked }
      by_answer (Some n) put = record { later = (put.cause).later; rose = (put.cause).failed; worked = λ none. let wrong : ◌≡◌ {A = Option ℕ} (Some n) None = none in absurd (cc) }

  -- where nothing else is called, the count of all disks goes as that of the one
  all_count : (full : List (LogWriter D ghosts)) (old new : LogWriter D ghosts) (later : List (LogWriter D ghosts)) (f : Option ℕ) → Counts (ghosts.faults (disk_of old)) (ghosts.faults (disk_of new)) f → Counts (count_in (full ++ old ∷ later)) (count_in (full ++ new ∷ later)) f
  all_count full old new later f counts =
      let a = in_parts full old later in
      let b = in_parts full new later in
      record {
        later = omega (arith, a, b, counts.later);
        rose = by_failed f counts.rose;
        worked = λ none. omega (arith, a, b, counts.worked none);
      }
    where
      by_failed : (f : Option ℕ) → IfSome f (λ n. Rose (ghosts.faults (disk_of old)) (ghosts.faults (disk_of new))) → IfSome f (λ n. Rose (count_in (full ++ old ∷ later)) (count_in (full ++ new ∷ later)))
      by_failed None rose = tt
      by_failed (Some n) rose = omega (arith, in_parts full old later, in_parts full new later, counts.later, rose)

  -- going on in the next log changes no count
  gone_on : (old between : LogSet D ghosts) → GoesOn old between → count_in (logs_of between) ≡ count_in (logs_of old)
  gone_on old between g =
      let now : logs_of between ≡ (full_of old ++ g.synced ∷ []) ++ current_of between ∷ later_of between = ap (λ (l : List (LogWriter D ghosts)). l ++ current_of between ∷ later_of between) g.full in
      let was : logs_of old ≡ full_of old ++ current_of old ∷ (current_of between ∷ later_of between) = ap (λ (l : List (LogWriter D ghosts)). full_of old ++ current_of old ∷ l) g.later in
      let f : LogWriter D ghosts → ℕ = λ l. ghosts.faults (disk_of l) in
      let a = in_parts (full_of old ++ g.synced ∷ []) (current_of between) (later_of between) in
      let b = in_parts (full_of old) g.synced [] in
      let c = in_parts (full_of old) (current_of old) (current_of between ∷ later_of between) in
      let d = sum_by-cons f (current_of between) (later_of between) in
      let same : ghosts.faults (disk_of g.synced) ≡ ghosts.faults (disk_of (current_of old)) = (g.syncs.put.cause).worked in
      omega (arith, ap count_in now, ap count_in was, a, b, c, d, same)

  one_call : (c : GroupCall) (old new : LogSet D ghosts) → fault_in old ≡ None → AddsHere c old new → Counts (count_in (logs_of old)) (count_in (logs_of new)) c.failed
  one_call c old new alive a =
      let n : ℕ = ghosts.faults (disk_of (current_of new)) in
      let one = same_failure n (ghosts.faults (disk_of (current_of old))) n c (one_counts (counted n c) (current_of old) (current_of new) (old.alive alive) a.adds) in
      let same : logs_of new ≡ full_of old ++ current_of new ∷ later_of old = (λ i. a.full i ++ current_of new ∷ a.later i) in
      subst (λ (logs : List (LogWriter D ghosts)). Counts (count_in (logs_of old)) (count_in logs) c.failed) (sym same) (all_count (full_of old) (current_of old) (current_of new) (later_of old) c.failed one)

  -- and reading them only raises it
  read_sums : (olds news : List (LogWriter D ghosts)) → AllZip WasRead olds news → sum_by (λ (l : LogWriter D ghosts). ghosts.faults (disk_of l)) olds ≤ sum_by (λ (l : LogWriter D ghosts). ghosts.faults (disk_of l)) news
  read_sums [] [] all = omega arith
  read_sums [] (n ∷ news) all = absurd all
  read_sums (o ∷ olds) [] all = absurd all
  read_sums (o ∷ olds) (n ∷ news) all =
      let f : LogWriter D ghosts → ℕ = λ l. ghosts.faults (disk_of l) in
      omega (arith, sum_by-cons f o olds, sum_by-cons f n news, all.0.disk.later, read_sums olds news all.1)

  pub set_read_counts : (old new : LogSet D ghosts) → SetWasRead old new → count_in (logs_of old) ≤ count_in (logs_of new)
  set_read_counts old new r =
      let same : logs_of new ≡ full_of new ++ current_of new ∷ later_of old = ap (λ (l : List (LogWriter D ghosts)). full_of new ++ current_of new ∷ l) r.later in
      omega (arith, ap count_in same, in_parts (full_of old) (current_of old) (later_of old), in_parts (full_of new) (current_of new) (later_of old), read_sums (full_of old) (full_of new) r.full, r.current.disk.later)

  abbrev Caused : ℕ → LogSet D ghosts → Type 0
  Caused before s = CameInCalls before (count_in (logs_of s)) (fault_in s)

  caused_here : (before : ℕ) (c : GroupCall) (old new : LogSet D ghosts) → fault_in old ≡ None → Caused before old → AddsHere c old new → Caused before new
  caused_here before c old new alive since a = by_failed c.failed refl a.count
    where
      counts : Counts (count_in (logs_of old)) (count_in (logs_of new)) c.failed
      counts = one_call c old new alive a

      by_failed : (f : Option ℕ) → c.failed ≡ f → IfSome f (λ count. count ≡ count_in (logs_of new)) → Caused before new
      by_failed None e count = record {
        later = omega (arith, since.later, counts.later);
        rose = subst (λ (f : Option ℕ). IfSome f (λ n. Rose before n × (n ≤ count_in (logs_of new)))) (sym (a.fault ∙ e)) tt;
      }
      by_failed (Some n) e count =
          let rose : Rose (count_in (logs_of old)) (count_in (logs_of new)) = subst (λ (f : Option ℕ). IfSome f (λ m. Rose (count_in (logs_of old)) (count_in (logs_of new)))) e counts.rose in
          record {
            later = omega (arith, since.later, counts.later);
            rose = subst (λ (f : Option ℕ). IfSome f (λ m. Rose before m × (m ≤ count_in (logs_of new)))) (sym (a.fault ∙ e)) (omega (arith, since.later, rose, count), omega (arith, count));
          }

  -- where the sync of a full log failed
  stuck_counts : (count : ℕ) (old new : LogSet D ghosts) → IsStuck old new count → Counts (count_in (logs_of old)) (count_in (logs_of new)) (Some count)
  stuck_counts count old new s =
      let n : ℕ = ghosts.faults (disk_of (current_of new)) in
      let one : Counts (ghosts.faults (disk_of (current_of old))) n (Some count) = record {
        later = (s.fails.put.cause).later;
        rose = (s.fails.put.cause).failed;
        worked = λ none. let wrong : ◌≡◌ {A = Option ℕ} (Some count) None = none in absurd (cc);
      } in
      let same : logs_of new ≡ full_of old ++ current_of new ∷ later_of old = (λ i. s.full i ++ current_of new ∷ s.later i) in
      subst (λ (logs : List (LogWriter D ghosts)). Counts (count_in (logs_of old)) (count_in logs) (Some count)) (sym same) (all_count (full_of old) (current_of old) (current_of new) (later_of old) (Some count) one)

  caused_stuck : (before count : ℕ) (old new : LogSet D ghosts) → Caused before old → IsStuck old new count → Caused before new
  caused_stuck before count old new since s =
      let counts = stuck_counts count old new s in
      let rose : Rose (count_in (logs_of old)) (count_in (logs_of new)) = counts.rose in
      record {
        later = omega (arith, since.later, counts.later);
        rose = subst (λ (f : Option ℕ). IfSome f (λ m. Rose before m × (m ≤ count_in (logs_of new)))) (sym s.fault) (omega (arith, since.later, rose, s.count_is), omega (arith, s.count_is));
      }

  caused_set : (before : ℕ) (c : GroupCall) (old new : LogSet D ghosts) → Caused before old → AddsTo c old new → Caused before new
  caused_set before c old new since adds = by_fault (fault_in old) refl adds.dead
    where
      by_over : fault_in old ≡ None → AddsOver c old new → Caused before new
      by_over alive (here room a) = caused_here before c old new alive since a
      by_over alive (next between g a) =
          let same = gone_on old between g in
          caused_here before c between new g.fault (record {
            later = omega (arith, since.later, same);
            rose = subst (λ (f : Option ℕ). IfSome f (λ n. Rose before n × (n ≤ count_in (logs_of between)))) (sym g.fault) tt;
          }) a
      by_over alive (stuck count failed s) = caused_stuck before count old new since s

      by_fault : (f : Option ℕ) → fault_in old ≡ f → IfSome f (λ count. (c.failed ≡ Some count) × (new ≡ old)) → Caused before new
      by_fault None alive kept = by_over alive (adds.put alive)
      by_fault (Some n) dead kept = subst (Caused before) (sym kept.1) since

  caused_sets : (before : ℕ) (old : LogSet D ghosts) (calls : List GroupCall) (new : LogSet D ghosts) → Caused before old → WroteSet old calls new → Caused before new
  caused_sets before old calls new first no_call = first
  caused_sets before old calls new first (one_more {calls = some} {now = now} c wrote adds) = caused_set before c now new (caused_sets before old some now first wrote) adds
  caused_sets before old calls new first (read {now = now} wrote r) =
      let so_far = caused_sets before old calls now first wrote in
      let on = set_read_counts now new r in
      record {
        later = omega (arith, so_far.later, on);
        rose = subst (λ (f : Option ℕ). IfSome f (λ n. Rose before n × (n ≤ count_in (logs_of new)))) (sym r.fault) (reached_later before (count_in (logs_of now)) (count_in (logs_of new)) (fault_in now) on so_far.rose);
      }

  -- If a set had no fault before these calls wrote it, a fault that it has after them came in one of them.
  pub caused_in_set : (old : LogSet D ghosts) (calls : List GroupCall) (new : LogSet D ghosts) → fault_in old ≡ None → WroteSet old calls new → CameInCalls (count_in (logs_of old)) (count_in (logs_of new)) (fault_in new)
  caused_in_set old calls new alive wrote =
      caused_sets (count_in (logs_of old)) old calls new (record {
        later = omega arith;
        rose = subst (λ (f : Option ℕ). IfSome f (λ n. Rose (count_in (logs_of old)) n × (n ≤ count_in (logs_of old)))) (sym alive) tt;
      }) wrote

  -- what one call does to the count of all disks
  came_here : (c : GroupCall) (old new : LogSet D ghosts) → fault_in old ≡ None → AddsHere c old new → CameInCall (count_in (logs_of old)) (count_in (logs_of new)) c.failed
  came_here c old new alive a = by_failed c.failed (one_call c old new alive a) a.count
    where
      by_failed : (f : Option ℕ) → Counts (count_in (logs_of old)) (count_in (logs_of new)) f → IfSome f (λ count. count ≡ count_in (logs_of new)) → CameInCall (count_in (logs_of old)) (count_in (logs_of new)) f
      by_failed None counts count = record { later = counts.later; rose = tt; no_fault = λ none. counts.worked refl }
      by_failed (Some n) counts count =
          let rose : Rose (count_in (logs_of old)) (count_in (logs_of new)) = counts.rose in
          record {
            later = counts.later;
            rose = (omega (arith, rose, count), omega (arith, count));
            no_fault = λ none. counts.worked none;
          }

  pub came_in_set : (c : GroupCall) (old new : LogSet D ghosts) → fault_in old ≡ None → AddsTo c old new → CameInCall (count_in (logs_of old)) (count_in (logs_of new)) c.failed
  came_in_set c old new alive adds = by_over (adds.put alive)
    where
      by_over : AddsOver c old new → CameInCall (count_in (logs_of old)) (count_in (logs_of new)) c.failed
      by_over (here room a) = came_here c old new alive a
      by_over (next between g a) = subst (λ (n : ℕ). CameInCall n (count_in (logs_of new)) c.failed) (gone_on old between g) (came_here c between new g.fault a)
      by_over (stuck count failed s) =
          let counts = stuck_counts count old new s in
          let rose : Rose (count_in (logs_of old)) (count_in (logs_of new)) = counts.rose in
          subst (CameInCall (count_in (logs_of old)) (count_in (logs_of new))) (sym failed) (record {
            later = counts.later;
            rose = (omega (arith, rose, s.count_is), omega (arith, s.count_is));
            no_fault = λ none. counts.worked none;
          })
