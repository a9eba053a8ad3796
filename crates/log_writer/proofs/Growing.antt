-- What a log held is where it was after a call, and what the call has written comes after it.
use Rattle.std.proofs.Common.{◌≡◌, ℕ, ◌+◌, Bool, true, List, [], ◌∷◌, ◌++◌, length, take, map, Option, Some, None, IfSome, MatchOption, refl, sym, ◌∙◌, ap, subst, arith, append_assoc, append-nil, length-append}
use Rattle.std.proofs.lemmas.Option.{same_Some}
use Rattle.std.specs.List.{AllByRecursion, AllZip}
use Rattle.base_devices.specs.Disk.{Disk, IsDisk, Told}
use Rattle.base_devices.specs.declared.disk.Disk.{Ghosts}
use Rattle.log_writer.specs.declared.writer.LogWriter.{LogWriter}
use Rattle.log_writer.specs.declared.set.LogSet.{LogSet}
use Rattle.log_writer.specs.Puts.{StandPut, IsPutInPart, ArePut}
use Rattle.log_writer.specs.Words.{disk_of, len_of, fault_of}
use Rattle.log_writer.specs.Adding.{GroupCall, answer_of, text_at_end, Grows, Stops, Adds, Syncs}
use Rattle.log_writer.specs.Reads.{front_of}
use Rattle.log_writer.specs.ReadableLogs.{HasBytes, no_bytes, IsOneFile, AreSetFiles}
use Rattle.log_writer.specs.Sets.{counted, full_of, current_of, later_of, logs_of, fault_in, GoesOn, AddsHere, AddsOver, here, next, stuck, AddsTo}
use Rattle.log_writer.specs.GoOn.{GoOn}
use Rattle.log_writer.proofs.Putting.{put_there}
use Rattle.log_writer.proofs.Setting.{stuck_adds}

-- the second file is the first one, and perhaps more after it
abbrev Follows : List ℕ → List ℕ → Type 0
Follows file later = (more : List ℕ) × (later ≡ file ++ more)

same_follows : (file later : List ℕ) → later ≡ file → Follows file later
same_follows file later same = ([], same ∙ sym (append-nil file))

-- Bytes that are put at the end of a log come after what it had.
put_after : (x y : Disk) (len end : ℕ) (bytes : List ℕ) (sync : Bool) → IsDisk x → x.place ≡ len → end ≡ len + length bytes → StandPut x y bytes sync → take end y.content ≡ take len x.content ++ bytes
put_after x y len end bytes sync is at end_is put =
    ap (λ (n : ℕ). take n y.content) (end_is ∙ ap (λ (n : ℕ). n + length bytes) (sym at))
    ∙ (ap (take (x.place + length bytes)) put.content
    ∙ (put_there x.place bytes x.content is.placed
    ∙ ap (λ (n : ℕ). take n x.content ++ bytes) at))

told_after : (old new : Option Disk) (len end : ℕ) (bytes : List ℕ) (sync : Bool) (file later : List ℕ) → IfSome old IsDisk → IfSome old (λ d. d.place ≡ len) → end ≡ len + length bytes → Told old new (λ x y. StandPut x y bytes sync) → front_of len old ≡ Some file → front_of end new ≡ Some later
    → later ≡ file ++ bytes
told_after None new len end bytes sync file later is at end_is put has has_later = let wrong : ◌≡◌ {A = Option (List ℕ)} None (Some file) = has in absurd (cc)
told_after (Some x) None len end bytes sync file later is at end_is put has has_later = absurd put
told_after (Some x) (Some y) len end bytes sync file later is at end_is put has has_later =
    sym (same_Some (take end y.content) later has_later)
    ∙ (put_after x y len end bytes sync is at end_is put
    ∙ ap (λ (l : List ℕ). l ++ bytes) (same_Some (take len x.content) file has))

-- Where putting them failed, it has what it had.
told_kept : (old new : Option Disk) (len : ℕ) (bytes file later : List ℕ) → IfSome old (λ d. d.place ≡ len) → Told old new (λ x y. IsPutInPart x y bytes) → front_of len old ≡ Some file → front_of len new ≡ Some later → later ≡ file
told_kept None new len bytes file later at put has has_later = let wrong : ◌≡◌ {A = Option (List ℕ)} None (Some file) = has in absurd (cc)
told_kept (Some x) None len bytes file later at put has has_later = absurd put
told_kept (Some x) (Some y) len bytes file later at put has has_later =
    let front : take len y.content ≡ take len x.content = subst (λ (n : ℕ). take n y.content ≡ take n x.content) at put.stays.content in
    sym (same_Some (take len y.content) later has_later) ∙ (front ∙ same_Some (take len x.content) file has)

module _ {D : Type 0} {ghosts : Ghosts D} where
  -- a log has one file
  one_file : (log : LogWriter D ghosts) (a b : List ℕ) → HasBytes log a → HasBytes log b → a ≡ b
  one_file log a b first second = same_Some a b (sym first ∙ second)

  same_files : (logs : List (LogWriter D ghosts)) (xs ys : List (List ℕ)) → AllZip HasBytes logs xs → AllZip HasBytes logs ys → xs ≡ ys
  same_files [] [] [] first second = refl
  same_files [] [] (y ∷ ys) first second = absurd second
  same_files [] (x ∷ xs) ys first second = absurd first
  same_files (log ∷ logs) [] ys first second = absurd first
  same_files (log ∷ logs) (x ∷ xs) [] first second = absurd second
  same_files (log ∷ logs) (x ∷ xs) (y ∷ ys) first second =
      let one = one_file log x y first.0 second.0 in
      let others = same_files logs xs ys first.1 second.1 in
      λ i. one i ∷ others i

  -- the files of some logs, and that of one more after them
  record HaveFiles (full : List (LogWriter D ghosts)) (current : LogWriter D ghosts) (files : List (List ℕ)) : Type 0 where
    firsts : List (List ℕ)
    last : List ℕ
    are : files ≡ firsts ++ last ∷ []
    have : AllZip HasBytes full firsts
    has : HasBytes current last

  have_files : (full : List (LogWriter D ghosts)) (current : LogWriter D ghosts) (files : List (List ℕ)) → AllZip HasBytes (full ++ current ∷ []) files → HaveFiles full current files
  have_files [] current [] have = absurd have
  have_files [] current (f ∷ []) have = record { firsts = []; last = f; are = refl; have = tt; has = have.0 }
  have_files [] current (f ∷ g ∷ files) have = absurd have.1
  have_files (log ∷ full) current [] have = absurd have
  have_files (log ∷ full) current (f ∷ files) have =
      let rest = have_files full current files have.1 in
      record { firsts = f ∷ rest.firsts; last = rest.last; are = ap (λ (l : List (List ℕ)). f ∷ l) rest.are; have = (have.0, rest.have); has = rest.has }

  -- what there is of logs that have not begun
  none_there : (logs : List (LogWriter D ghosts)) → AllByRecursion (λ (file : List ℕ). file ≡ []) (map no_bytes logs)
  none_there [] = tt
  none_there (log ∷ logs) = (refl, none_there logs)

module _ {D : Type 0} {ghosts : Ghosts D} (is_disk : (disk : D) → IfSome (ghosts.told disk) IsDisk) where
  -- One log

  call_follows : (c : GroupCall) (old new : LogWriter D ghosts) (file later : List ℕ) → Adds c old new → HasBytes old file → HasBytes new later → Follows file later
  call_follows c old new file later adds has has_later = by_fault (fault_of old) refl adds.dead
    where
      by_failed : fault_of old ≡ None → (f : Option ℕ) → MatchOption f (Grows (text_at_end c old) old new) (Stops old new) → Told (ghosts.told (disk_of old)) (ghosts.told (disk_of new)) (λ x y. ArePut x y (text_at_end c old) c.sync (answer_of f)) → Follows file later
      by_failed alive None grows put = (
        text_at_end c old,
        told_after (ghosts.told (disk_of old)) (ghosts.told (disk_of new)) (len_of old) (len_of new) (text_at_end c old) c.sync file later (is_disk (disk_of old)) (old.told_len alive) grows.len put has has_later,
      )
      by_failed alive (Some count) stops put =
          same_follows file later (told_kept (ghosts.told (disk_of old)) (ghosts.told (disk_of new)) (len_of old) (text_at_end c old) file later (old.told_len alive) put has
          (subst (λ (n : ℕ). front_of n (ghosts.told (disk_of new)) ≡ Some later) stops.len has_later))

      by_fault : (f : Option ℕ) → fault_of old ≡ f → IfSome f (λ count. (c.failed ≡ Some count) × (new ≡ old)) → Follows file later
      by_fault None alive kept = by_failed alive c.failed (adds.kept alive) (adds.put alive).are_put
      by_fault (Some count) dead kept = same_follows file later (one_file old later file (subst (λ (log : LogWriter D ghosts). HasBytes log later) kept.1 has_later) has)

  pub one_goes_on : (c : GroupCall) (old new : LogWriter D ghosts) (files later : List (List ℕ)) → Adds c old new → IsOneFile old files → IsOneFile new later → GoOn files later
  one_goes_on c old new files later adds is is_later =
      let on = call_follows c old new is.file is_later.file adds is.has is_later.has in
      record { full = []; current = is.file; none = []; before = is.only; empty = tt; more = on.0; others = []; after = is_later.only ∙ ap (λ (l : List ℕ). l ∷ []) on.1 }

  sync_follows : (old new : LogWriter D ghosts) (file later : List ℕ) → fault_of old ≡ None → Syncs old new → HasBytes old file → HasBytes new later → Follows file later
  sync_follows old new file later alive s has has_later = (
    [],
    told_after (ghosts.told (disk_of old)) (ghosts.told (disk_of new)) (len_of old) (len_of new) [] true file later (is_disk (disk_of old)) (old.told_len alive) (omega (arith, s.len)) s.put.are_put has has_later,
  )

  -- A set

  -- where what its current log had is followed by more, and the others are as they were
  current_goes_on : (old new : LogSet D ghosts) (files later : List (List ℕ)) → full_of new ≡ full_of old → ((file more : List ℕ) → HasBytes (current_of old) file → HasBytes (current_of new) more → Follows file more) → AreSetFiles old files → AreSetFiles new later → GoOn files later
  current_goes_on old new files later full_is follows are are_later =
      let a = have_files (full_of old) (current_of old) are.begun are.have in
      let b = have_files (full_of new) (current_of new) are_later.begun are_later.have in
      let firsts : b.firsts ≡ a.firsts = same_files (full_of old) b.firsts a.firsts (subst (λ (l : List (LogWriter D ghosts)). AllZip HasBytes l b.firsts) full_is b.have) a.have in
      let on = follows a.last b.last a.has b.has in
      let begun : are_later.begun ≡ a.firsts ++ (a.last ++ on.0) ∷ [] = b.are ∙ (ap (λ (l : List (List ℕ)). l ++ b.last ∷ []) firsts ∙ ap (λ (f : List ℕ). a.firsts ++ f ∷ []) on.1) in
      record {
        full = a.firsts;
        current = a.last;
        none = map no_bytes (later_of old);
        before = are.all ∙ (ap (λ (l : List (List ℕ)). l ++ map no_bytes (later_of old)) a.are ∙ append_assoc a.firsts (a.last ∷ []) (map no_bytes (later_of old)));
        empty = none_there (later_of old);
        more = on.0;
        others = map no_bytes (later_of new);
        after = are_later.all ∙ (ap (λ (l : List (List ℕ)). l ++ map no_bytes (later_of new)) begun ∙ append_assoc a.firsts ((a.last ++ on.0) ∷ []) (map no_bytes (later_of new)));
      }

  here_goes_on : (c : GroupCall) (old new : LogSet D ghosts) (files later : List (List ℕ)) → AddsHere c old new → AreSetFiles old files → AreSetFiles new later → GoOn files later
  here_goes_on c old new files later h are are_later =
      current_goes_on old new files later h.full (λ file more has has_more. call_follows (counted (ghosts.faults (disk_of (current_of new))) c) (current_of old) (current_of new) file more h.adds has has_more) are are_later

  -- where its current log is full, and was synced
  next_goes_on : (c : GroupCall) (old between new : LogSet D ghosts) (files later : List (List ℕ)) → fault_in old ≡ None → GoesOn old between → AddsHere c between new → AreSetFiles old files → AreSetFiles new later → GoOn files later
  next_goes_on c old between new files later alive g h are are_later =
      let a = have_files (full_of old) (current_of old) are.begun are.have in
      let b = have_files (full_of new) (current_of new) are_later.begun are_later.have in
      let full = have_files (full_of old) g.synced b.firsts (subst (λ (l : List (LogWriter D ghosts)). AllZip HasBytes l b.firsts) (h.full ∙ g.full) b.have) in
      let firsts : full.firsts ≡ a.firsts = same_files (full_of old) full.firsts a.firsts full.have a.have in
      let on = sync_follows (current_of old) g.synced a.last full.last (old.alive alive) g.syncs a.has full.has in
      let rest : List (List ℕ) = b.last ∷ map no_bytes (later_of new) in
      let begun : b.firsts ≡ a.firsts ++ (a.last ++ on.0) ∷ [] = full.are ∙ (ap (λ (l : List (List ℕ)). l ++ full.last ∷ []) firsts ∙ ap (λ (f : List ℕ). a.firsts ++ f ∷ []) on.1) in
      record {
        full = a.firsts;
        current = a.last;
        none = map no_bytes (later_of old);
        before = are.all ∙ (ap (λ (l : List (List ℕ)). l ++ map no_bytes (later_of old)) a.are ∙ append_assoc a.firsts (a.last ∷ []) (map no_bytes (later_of old)));
        empty = none_there (later_of old);
        more = on.0;
        others = rest;
        after = are_later.all ∙ (ap (λ (l : List (List ℕ)). l ++ map no_bytes (later_of new)) b.are
            ∙ (append_assoc b.firsts (b.last ∷ []) (map no_bytes (later_of new))
            ∙ (ap (λ (l : List (List ℕ)). l ++ rest) begun ∙ append_assoc a.firsts ((a.last ++ on.0) ∷ []) rest)));
      }

  pub set_goes_on : (c : GroupCall) (old new : LogSet D ghosts) (files later : List (List ℕ)) → AddsTo c old new → AreSetFiles old files → AreSetFiles new later → GoOn files later
  set_goes_on c old new files later adds are are_later = by_fault (fault_in old) refl adds.dead
    where
      by_over : fault_in old ≡ None → AddsOver c old new → GoOn files later
      by_over alive (here room h) = here_goes_on c old new files later h are are_later
      by_over alive (next between g h) = next_goes_on c old between new files later alive g h are are_later
      by_over alive (stuck count failed s) = here_goes_on c old new files later (stuck_adds c old new count alive failed s) are are_later

      by_fault : (f : Option ℕ) → fault_in old ≡ f → IfSome f (λ count. (c.failed ≡ Some count) × (new ≡ old)) → GoOn files later
      by_fault None alive kept = by_over alive (adds.put alive)
      by_fault (Some count) dead kept =
          current_goes_on old old files later refl (λ file more has has_more. same_follows file more (one_file (current_of old) more file has_more has)) are
          (subst (λ (set : LogSet D ghosts). AreSetFiles set later) kept.1 are_later)

-- A set has as many logs.
module _ {D : Type 0} {ghosts : Ghosts D} where
  here_many : (c : GroupCall) (old new : LogSet D ghosts) → AddsHere c old new → length (logs_of new) ≡ length (logs_of old)
  here_many c old new h = omega (arith, ap length h.full, ap length h.later, length-append (full_of old) (current_of old ∷ later_of old), length-append (full_of new) (current_of new ∷ later_of new))

  next_many : (old between : LogSet D ghosts) → GoesOn old between → length (logs_of between) ≡ length (logs_of old)
  next_many old between g =
      omega (
        arith,
        ap length g.full,
        ap length g.later,
        length-append (full_of old) (g.synced ∷ []),
        length-append (full_of old) (current_of old ∷ later_of old),
        length-append (full_of between) (current_of between ∷ later_of between),
      )

  pub set_many : (c : GroupCall) (old new : LogSet D ghosts) → AddsTo c old new → length (logs_of new) ≡ length (logs_of old)
  set_many c old new adds = by_fault (fault_in old) refl adds.dead
    where
      by_over : fault_in old ≡ None → AddsOver c old new → length (logs_of new) ≡ length (logs_of old)
      by_over alive (here room h) = here_many c old new h
      by_over alive (next between g h) = here_many c between new h ∙ next_many old between g
      by_over alive (stuck count failed s) = here_many c old new (stuck_adds c old new count alive failed s)

      by_fault : (f : Option ℕ) → fault_in old ≡ f → IfSome f (λ count. (c.failed ≡ Some count) × (new ≡ old)) → length (logs_of new) ≡ length (logs_of old)
      by_fault None alive kept = by_over alive (adds.put alive)
      by_fault (Some count) dead kept = ap (λ (set : LogSet D ghosts). length (logs_of set)) kept.1
