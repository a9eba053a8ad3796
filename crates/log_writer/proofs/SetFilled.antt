-- Each log of a set but the last one that was begun is full by its last record.
use Rattle.std.proofs.Common.{◌≡◌, ⊎_elim, ℕ, ◌+◌, ◌-◌, ◌<◌, ◌≤◌, List, [], ◌∷◌, ◌++◌, length, map, take, Option, None, Some, IfSome, refl, sym, ◌∙◌, ap, subst, arith, append-nil, length-append}
use Rattle.std.proofs.Math.Seq.{take-append_seam}
use Rattle.std.proofs.lemmas.List.{map-append}
use Rattle.std.specs.List.{AllByRecursion}
use Rattle.base_devices.specs.declared.disk.Disk.{Ghosts}
use Rattle.log_laws.specs.Fronts.{plain_text, HadRoom, AreFilledTo, last_one, full}
use Rattle.log_writer.specs.declared.set.LogSet.{LogSet}
use Rattle.log_writer.specs.Words.{disk_of, len_of}
use Rattle.log_writer.specs.Adding.{GroupCall, record_of_call}
use Rattle.log_writer.specs.Written.{if_worked, first_fault, written_by}
use Rattle.log_writer.specs.Sets.{counted, current_of, later_of, limit_of, fault_in, HasRoom, GoesOn, AddsHere, AddsOver, here, next, stuck, AddsTo, SetWasRead, WroteSet, no_call, one_more, read}
use Rattle.log_writer.specs.SetSplits.{IsSplit}
use Rattle.log_writer.specs.SetCrashes.{HasOpenedSet}
use Rattle.log_writer.specs.SetContents.{HoldLogs}
use Rattle.log_writer.proofs.Calls.{all_more, written_more}
use Rattle.log_writer.proofs.Cutting.{one_cut}
use Rattle.log_writer.proofs.Setting.{stuck_adds}
use Rattle.log_writer.proofs.SetContents.{on_current, hold_logs}
use Rattle.log_writer.proofs.SetRecords.{alive_calls}
use Rattle.log_writer.proofs.SetStates.{on_stands}
use Rattle.log_writer.proofs.Splitting.{more_here, more_next, more_dead, split_none, split_read}
use Rattle.log_writer.proofs.Surviving.{Laws}

-- the log is full by its last record
abbrev IsFullTo : ℕ → List (List ℕ) → Type 0
IsFullTo limit records = (limit ≤ length (plain_text records)) × HadRoom limit records

filled_to : (limit left : ℕ) (logs : List (List (List ℕ))) (records : List (List ℕ)) → AllByRecursion (IsFullTo limit) logs → (0 < left → HadRoom limit records) → AreFilledTo limit left (logs ++ records ∷ [])
filled_to limit left [] records are room = last_one room
filled_to limit left (log ∷ logs) records are room = full are.0.0 are.0.1 (filled_to limit left logs records are.1 room)

-- a log that wasn't full before its last record
had_room : (limit : ℕ) (records : List (List ℕ)) (r : List ℕ) → (0 < length records → length (plain_text records) < limit) → HadRoom limit (records ++ r ∷ [])
had_room limit records r room = λ several.
    let len : length (records ++ r ∷ []) ≡ length records + 1 = omega (arith, length-append records (r ∷ [])) in
    let before : length (records ++ r ∷ []) - 1 ≡ length records = omega (arith, len) in
    let front : take (length (records ++ r ∷ []) - 1) (records ++ r ∷ []) ≡ records = ap (λ (n : ℕ). take n (records ++ r ∷ [])) before ∙ take-append_seam records (r ∷ []) in
    subst (λ (l : List (List ℕ)). length (plain_text l) < limit) (sym front) (room (omega (arith, several, len)))

-- with one call more, whose record was put only where the log had room
room_more : (limit : ℕ) (calls : List GroupCall) (c : GroupCall) → first_fault calls ≡ None → HadRoom limit (written_by calls) → (c.failed ≡ None → 0 < length (written_by calls) → length (plain_text (written_by calls)) < limit) → HadRoom limit (written_by (calls ++ c ∷ []))
room_more limit calls c none had room = subst (HadRoom limit) (sym (written_more calls c none)) (by_answer c.failed room)
  where
    by_answer : (f : Option ℕ) → (f ≡ None → 0 < length (written_by calls) → length (plain_text (written_by calls)) < limit) → HadRoom limit (written_by calls ++ if_worked f (record_of_call c ∷ []) [])
    by_answer None room = had_room limit (written_by calls) (record_of_call c) (room refl)
    by_answer (Some n) room = subst (HadRoom limit) (sym (append-nil (written_by calls))) had

-- whether a call worked doesn't depend on how its fault is counted
not_failed : (n : ℕ) (c : GroupCall) → (counted n c).failed ≡ None → c.failed ≡ None
not_failed n c worked = by_failed c.failed refl
  where
    by_failed : (f : Option ℕ) → c.failed ≡ f → c.failed ≡ None
    by_failed None e = e
    by_failed (Some m) e =
        let wrong : ◌≡◌ {A = Option ℕ} (Some n) None = sym (ap (λ (g : Option ℕ). (counted n (record c { failed = g })).failed) e) ∙ worked in absurd (cc)

module _ {D : Type 0} {ghosts : Ghosts D} (laws : Laws ghosts) (disks : List D) (opened : LogSet D ghosts) (has : HasOpenedSet disks opened) where
  record Filled (calls : List GroupCall) (now : LogSet D ghosts) : Type 0 where
    split : IsSplit opened calls now
    limit : limit_of now ≡ limit_of opened
    are_full : AllByRecursion (IsFullTo (limit_of opened)) (map written_by split.parts)
    room : 0 < length (later_of now) → HadRoom (limit_of opened) (written_by split.own)

  module _ (calls : List GroupCall) (now : LogSet D ghosts) (f : Filled calls now) where
    len_is : len_of (current_of now) ≡ length (plain_text (written_by f.split.own))
    len_is = (on_stands laws f.split.own (current_of now) (on_current laws disks opened now calls has f.split)).len

    -- the group was to go into the current log, and was put there only if that had room
    filled_here : (new : LogSet D ghosts) (c : GroupCall) (alive : fault_in now ≡ None) → AddsHere c now new → (c.failed ≡ None → HasRoom now) → Filled (calls ++ c ∷ []) new
    unfolding more_here
    filled_here new c alive a room =
        let n : ℕ = ghosts.faults (disk_of (current_of new)) in
        let none : first_fault f.split.own ≡ None = alive_calls f.split.last f.split.own (current_of now) f.split.wrote (now.alive alive) in
        let same : length (later_of new) ≡ length (later_of now) = ap length a.later in
        record {
          split = more_here opened calls now new c f.split alive a;
          limit = a.limit ∙ f.limit;
          are_full = f.are_full;
          room = λ some. room_more (limit_of opened) f.split.own (counted n c) none (f.room (omega (arith, some, same))) (λ worked several. ⊎_elim
              (λ less. omega (arith, less, len_is, f.limit))
              (λ last. absurd (omega (arith, some, same, ap length last)))
              (room (not_failed n c worked)));
        }

    -- the current log was full, and the group was to go into the next one
    filled_next : (between new : LogSet D ghosts) (c : GroupCall) (alive : fault_in now ≡ None) → GoesOn now between → AddsHere c between new → Filled (calls ++ c ∷ []) new
    unfolding more_next
    filled_next between new c alive g a =
        let n : ℕ = ghosts.faults (disk_of (current_of new)) in
        let some : 0 < length (later_of now) = omega (arith, ap length g.later) in
        record {
          split = more_next opened calls now between new c f.split alive g a;
          limit = a.limit ∙ (g.limit ∙ f.limit);
          are_full = subst (AllByRecursion (IsFullTo (limit_of opened))) (sym (map-append written_by f.split.parts (f.split.own ∷ [])))
              (all_more (IsFullTo (limit_of opened)) (map written_by f.split.parts) (written_by f.split.own) f.are_full (omega (arith, g.is_full, len_is, f.limit), f.room some));
          room = λ left. room_more (limit_of opened) [] (counted n c) refl (λ several. absurd (omega (arith, several))) (λ worked several. absurd (omega (arith, several)));
        }

    filled_dead : (c : GroupCall) (count : ℕ) (dead : fault_in now ≡ Some count) → Filled (calls ++ c ∷ []) now
    unfolding more_dead
    filled_dead c count dead = record { split = more_dead opened calls now c count f.split dead; limit = f.limit; are_full = f.are_full; room = f.room }

    filled_read : (new : LogSet D ghosts) → SetWasRead now new → Filled calls new
    unfolding split_read
    filled_read new r = record {
      split = split_read opened calls now new f.split r;
      limit = r.limit ∙ f.limit;
      are_full = f.are_full;
      room = λ some. f.room (omega (arith, some, ap length r.later));
    }

    filled_more : (new : LogSet D ghosts) (c : GroupCall) → AddsTo c now new → Filled (calls ++ c ∷ []) new
    filled_more new c adds = by_fault (fault_in now) refl adds.dead
      where
        by_over : fault_in now ≡ None → AddsOver c now new → Filled (calls ++ c ∷ []) new
        by_over alive (here room a) = filled_here new c alive a (λ worked. room)
        by_over alive (next between g a) = filled_next between new c alive g a
        by_over alive (stuck count failed is) = filled_here new c alive (stuck_adds c now new count alive failed is)
            (λ worked. let wrong : ◌≡◌ {A = Option ℕ} None (Some count) = sym worked ∙ failed in absurd (cc))

        by_fault : (f : Option ℕ) → fault_in now ≡ f → IfSome f (λ count. (c.failed ≡ Some count) × (new ≡ now)) → Filled (calls ++ c ∷ []) new
        by_fault None alive kept = by_over alive (adds.put alive)
        by_fault (Some count) dead kept = subst (λ (set : LogSet D ghosts). Filled (calls ++ c ∷ []) set) (sym kept.1) (filled_dead c count dead)

  filled_none : Filled [] opened
  unfolding split_none
  filled_none = record {
    split = split_none opened has.fault;
    limit = refl;
    are_full = tt;
    room = λ some several. absurd (omega (arith, several));
  }

  filled_all : (calls : List GroupCall) (now : LogSet D ghosts) → WroteSet opened calls now → Filled calls now
  filled_all calls now no_call = filled_none
  filled_all calls now (one_more {calls = before} {now = old} c wrote adds) = filled_more before old (filled_all before old wrote) now c adds
  filled_all calls now (read {now = old} wrote r) = filled_read calls old (filled_all calls old wrote) now r

  pub filled_set : (calls : List GroupCall) (now : LogSet D ghosts) → WroteSet opened calls now → (hold : HoldLogs now calls) → AreFilledTo (limit_of opened) (length (later_of now)) (hold.full ++ hold.written ∷ [])
  unfolding hold_logs
  filled_set calls now wrote hold =
      let f = filled_all calls now wrote in
      let h : HoldLogs now calls = hold_logs laws disks opened now calls has f.split in
      subst (AreFilledTo (limit_of opened) (length (later_of now))) (one_cut now calls h hold)
      (filled_to (limit_of opened) (length (later_of now)) (map written_by f.split.parts) (written_by f.split.own) f.are_full f.room)
