-- What a set of logs holds after a run of many clients, and what a crash leaves of it.
use Rattle.std.proofs.Common.{◌≡◌, ◌⊎◌, inl, inr, ℕ, ◌+◌, ◌-◌, ◌<◌, ◌≤◌, min, List, [], ◌∷◌, ◌++◌, length, take, drop, map, flat_map, replicate, Option, Some, None, IfSome, MatchOption, refl, ap, sym, ◌∙◌, subst, arith, length-append, length-take, take-append-drop}
use Rattle.std.proofs.lemmas.List.{length-map, append_cancel_left}
use Rattle.std.proofs.lemmas.Simd.{splat_is_map}
use Rattle.std.specs.Prelude.{⊤}
use Rattle.std.specs.List.{AllByRecursion, AllZip}
use Rattle.base_devices.specs.Disk.{Disk}
use Rattle.base_devices.specs.declared.disk.Disk.{Ghosts}
use Rattle.model_base.specs.Log.{new_log}
use Rattle.model_base.specs.History.{Entry, RunsFollow, IsHistory, last_sequence, logged_entries}
use Rattle.model_base.specs.Attempts.{Attempt}
use Rattle.model_base.specs.Trace.{Trace}
use Rattle.model_base.specs.Calls.{Outcome}
use Rattle.model_base.specs.LogContents.{record_of_call, record_of_entries, records_of, AreGroupsOf}
use Rattle.model_base.specs.Recovery.{Logged, logged_bytes}
use Rattle.log_laws.specs.Prefixes.{IsPrefix, AreTheseBatches, HoldsFront}
use Rattle.log_laws.specs.Fronts.{plain_text, records_in, AreFront, HaveFront, NoChances, AreFilledTo, RecoverPrefix}
use Rattle.log_writer.specs.declared.writer.LogWriter.{LogWriter}
use Rattle.log_writer.specs.declared.set.LogSet.{LogSet}
use Rattle.log_writer.specs.Words.{disk_of, len_of}
use Rattle.log_writer.specs.Crashes.{AreRisingBatches}
use Rattle.log_writer.specs.Adding.{GroupCall}
use Rattle.log_writer.specs.Written.{first_fault, written_by, begun_by, HaveSynced as HaveCallsSynced}
use Rattle.log_writer.specs.Sets.{full_of, current_of, later_of, begun_in, limit_of, fault_in, WroteSet, no_call}
use Rattle.log_writer.specs.SetSplits.{IsSplit}
use Rattle.log_writer.specs.SetCrashes.{IsLeftNow, AreLeft, HasOpenedSet, AreSafeAfterFirst, LeavesFront}
use Rattle.log_writer.specs.SetContents.{HoldsBegun, HoldLogs}
use Rattle.log_writer.specs.SetWritten.{HoldEach, AreLeftSince, begun_logs, disks_of}
use Rattle.log_writer.proofs.Cutting.{same_cut}
use Rattle.log_writer.proofs.SetEnd.{wrote_more}
use Rattle.log_writer.proofs.SetRecords.{filled_alive}
use Rattle.model_runs.specs.Crashes.{with_failed_record, failed_record, HaveSynced, IsFailedWrite}
use Rattle.model_runs.specs.SeveralLogs as several
use Rattle.model_runs.specs.SeveralLogs.{Held, begun_records, HoldEachSynced, LeaveFrontPrefix, LeaveFront, AreCrashSafe}
use Rattle.model_runs.specs.Written.{WroteEntries, AreLost}
use Rattle.run_execution.specs.SetEnds.{TellHeld, TellReach}
use Rattle.run_execution.proofs.LoggedGroups.{Suits, each_has_entries, rising_groups}
use Rattle.run_execution.proofs.GroupCalls.{written_is, with_lost, fault_is, is_failed, synced_is, synced_first, synced_on}
use Rattle.run_execution.proofs.Cuts.{AreCut, IsFrontToo, text_len, records_push, cut_groups, begun_of, begun_is, begun_last, begun_all, with_append, with_first, front_other}
use Rattle.run_execution.proofs.HeldGroups.{AreFirst, are_first, held_each}
use Rattle.run_execution.proofs.SetShapes.{set_size}

-- The laws of sets of logs, and of what several logs recover
pub record SetLaws {D : Type 0} (ghosts : Ghosts D) : Type 0 where
  pub split : (old new : LogSet D ghosts) (calls : List GroupCall) → fault_in old ≡ None → WroteSet old calls new → IsSplit old calls new
  pub hold : (disks : List D) (opened last : LogSet D ghosts) (calls : List GroupCall) → HasOpenedSet disks opened → IsSplit opened calls last → HoldLogs last calls
  pub filled : (disks : List D) (opened last : LogSet D ghosts) (calls : List GroupCall) → HasOpenedSet disks opened → WroteSet opened calls last → (hold : HoldLogs last calls)
      → AreFilledTo (limit_of opened) (length (later_of last)) (hold.full ++ hold.written ∷ [])
  pub front : (disks : List D) (opened between last : LogSet D ghosts) (before after : List GroupCall) → AreSafeAfterFirst ghosts disks → HasOpenedSet disks opened → WroteSet opened before between → WroteSet between after last
      → (hold : HoldLogs last (before ++ after)) → (safe : ℕ) × HaveCallsSynced before safe × LeavesFront between last safe (begun_logs hold)
  pub at_end : (disks : List D) (opened last : LogSet D ghosts) (calls : List GroupCall) → AreSafeAfterFirst ghosts disks → HasOpenedSet disks opened → WroteSet opened calls last
      → (hold : HoldLogs last calls) → (safe : ℕ) × HaveCallsSynced calls safe × ((images : List (List ℕ)) → AllZip (IsLeftNow ghosts) (disks_of last) images → HaveFront safe (begun_logs hold) images)
  pub handed_in : (disks : List D) (opened last : LogSet D ghosts) (calls : List GroupCall) → AreSafeAfterFirst ghosts disks → HasOpenedSet disks opened → WroteSet opened calls last
      → (hold : HoldLogs last calls) → (images : List (List ℕ)) → AreLeft ghosts disks (disks_of last) images → HaveFront 0 (begun_logs hold) images
  pub unused : (disks : List D) (opened between last : LogSet D ghosts) (before after : List GroupCall) → AreSafeAfterFirst ghosts disks → HasOpenedSet disks opened → WroteSet opened before between → WroteSet between after last
      → (images : List (List ℕ)) → AreLeft ghosts disks (disks_of last) images ⊎ AreLeft ghosts (disks_of between) (disks_of last) images ⊎ AllZip (IsLeftNow ghosts) (disks_of last) images
      → AllByRecursion (λ (image : List ℕ). image ≡ []) (drop (length (begun_in last)) images)
  pub of_calls : (disks : List D) (opened last : LogSet D ghosts) (calls : List GroupCall) → HasOpenedSet disks opened → (split : IsSplit opened calls last) → (hold : HoldLogs last calls)
      → hold.full ++ hold.written ∷ [] ≡ map written_by split.parts ++ written_by split.own ∷ []
  pub held : (disks : List D) (opened last : LogSet D ghosts) (calls : List GroupCall) (reached : List ℕ) → AreSafeAfterFirst ghosts disks → HasOpenedSet disks opened → (split : IsSplit opened calls last)
      → AllZip (λ (disk : D) (reach : ℕ). IfSome (ghosts.told disk) (λ d. d.reach ≡ reach)) disks reached → (images : List (List ℕ)) → AreLeft ghosts disks (disks_of last) images → HoldEach reached (split.parts ++ split.own ∷ []) images
  pub prefix : (safe : ℕ) (logs : List (List (List ℕ))) (images : List (List ℕ)) → AreFront safe logs images → NoChances logs images → RecoverPrefix (records_in logs) images (λ n. ⊤)
  pub certain : (safe : ℕ) (logs : List (List (List ℕ))) (images : List (List ℕ)) (batches : List Logged) → AreFront safe logs images → NoChances logs images
      → AreTheseBatches (take safe (records_in logs)) batches → RecoverPrefix (records_in logs) images (λ n. safe ≤ n)

-- a prefix of which more is known is one of which less is known
weaker_prefix : (found records : List (List ℕ)) (P Q : ℕ → Type 0) → ((n : ℕ) → P n → Q n) → IsPrefix found records P → IsPrefix found records Q
weaker_prefix found records P Q to prefix = record { many = prefix.many; some = prefix.some; same = prefix.same; enough = to prefix.many prefix.enough }

pub zip_so : {A B : Type 0} (P Q : A → B → Type 0) → ((a : A) (b : B) → P a b → Q a b) → (xs : List A) (ys : List B) → AllZip P xs ys → AllZip Q xs ys
zip_so P Q to [] [] zip = tt
zip_so P Q to [] (y ∷ ys) zip = absurd zip
zip_so P Q to (x ∷ xs) [] zip = absurd zip
zip_so P Q to (x ∷ xs) (y ∷ ys) zip = (to x y zip.0, zip_so P Q to xs ys zip.1)

module _ {D : Type 0} {ghosts : Ghosts D} where
  abbrev pub lens_of : List (LogWriter D ghosts) → List ℕ
  lens_of logs = map (λ (log : LogWriter D ghosts). len_of log) logs

  abbrev pub DisksOf : List (LogWriter D ghosts) → List D
  DisksOf logs = map (λ (log : LogWriter D ghosts). disk_of log) logs

  -- The logs that have begun, with the record that may have failed, by how their records are cut. The same records that
  -- are cut into logs of the same lengths are the same logs.
  begun_same : (cut : List (List (List ℕ))) (set : LogSet D ghosts) (calls : List GroupCall) (hold : HoldLogs set calls) (x : Option (List ℕ)) (unused : ℕ) → records_in cut ≡ written_by calls → lens_of (begun_in set) ≡ map text_len cut
      → length (later_of set) ≡ unused → begun_by calls ≡ with_failed_record (written_by calls) x → begun_logs hold ≡ begun_of cut x unused
  begun_same cut set calls hold x unused written lens many begun =
      let all : records_in (hold.full ++ hold.written ∷ []) ≡ records_in cut = records_push hold.full hold.written ∙ (hold.all_written ∙ sym written) in
      let same : hold.full ++ hold.written ∷ [] ≡ cut = same_cut (hold.full ++ hold.written ∷ []) cut (sym hold.lens ∙ lens) all in
      let own : hold.begun ≡ with_failed_record hold.written x = append_cancel_left (records_in hold.full) hold.begun (with_failed_record hold.written x)
      (hold.all_begun ∙ (begun ∙ (ap (λ (l : List (List ℕ)). with_failed_record l x) (sym hold.all_written) ∙ sym (with_append (records_in hold.full) hold.written x)))) in
      let none : map (λ (log : LogWriter D ghosts). []) (later_of set) ≡ replicate unused [] = sym (splat_is_map (later_of set) unused [] many) in
      (λ i. hold.full ++ own i ∷ none i) ∙ (sym (begun_last hold.full hold.written x unused) ∙ ap (λ (l : List (List (List ℕ))). begun_of l x unused) same)

no_last : (full : List (List (List ℕ))) (own : List (List ℕ)) → ◌≡◌ {A = List (List (List ℕ))} [] (full ++ own ∷ []) → ⊥
no_last [] own e = absurd (cc)
no_last (r ∷ full) own e = absurd (cc)

-- What the disks hold at the end
module _ {D : Type 0} (ghosts : Ghosts D) where
  abbrev Tells : D → Held → Type 0
  Tells disk h = (d : Disk) × (ghosts.told disk ≡ Some d) × (d.content ≡ h.content) × (d.place ≡ h.place)

  abbrev HoldsText : LogWriter D ghosts → List (List ℕ) → Type 0
  HoldsText log records = IfSome (ghosts.told (disk_of log)) (λ d. d.content ≡ plain_text records)

  abbrev HoldsNothing : LogWriter D ghosts → Type 0
  HoldsNothing log = IfSome (ghosts.told (disk_of log)) (λ d. d.content ≡ [])

  holds_text : (log : LogWriter D ghosts) (records : List (List ℕ)) (h : Held) → Tells (disk_of log) h → HoldsText log records → h.content ≡ plain_text records
  holds_text log records h tells text = sym tells.2 ∙ subst (λ (t : Option Disk). IfSome t (λ d. d.content ≡ plain_text records)) tells.1 text

  hold_nothing : (logs : List (LogWriter D ghosts)) (held : List Held) → AllByRecursion HoldsNothing logs → AllZip Tells (DisksOf logs) held → AllByRecursion (λ (h : Held). h.content ≡ []) held
  hold_nothing [] [] none tells = tt
  hold_nothing [] (h ∷ held) none tells = absurd tells
  hold_nothing (log ∷ logs) [] none tells = absurd tells
  hold_nothing (log ∷ logs) (h ∷ held) none tells = (sym (tells.0).2 ∙ subst (λ (t : Option Disk). IfSome t (λ d. d.content ≡ [])) (tells.0).1 none.0, hold_nothing logs held none.1 tells.1)

  module _ (x : Option (List ℕ)) (fault : Option ℕ) (alive : x ≡ None → fault ≡ None) (current : LogWriter D ghosts) (later : List (LogWriter D ghosts)) (written begun : List (List ℕ)) (holds : IfSome (ghosts.told (disk_of current)) (HoldsBegun written begun fault)) (own : begun ≡ with_failed_record written x)
      (nothing : AllByRecursion HoldsNothing later) where
    hold_last : (log : List (List Entry)) (h : Held) (held : List Held) → records_of log ≡ written → AllZip Tells (DisksOf (current ∷ later)) (h ∷ held) → several.HoldLogs x (log ∷ []) (h ∷ held)
    hold_last log h held same tells =
        let d : Disk = (tells.0).0 in
        let content : d.content ≡ h.content = (tells.0).2 in
        let place : d.place ≡ h.place = (tells.0).3 in
        let is : HoldsBegun written begun fault d = subst (λ (t : Option Disk). IfSome t (HoldsBegun written begun fault)) (tells.0).1 holds in
        let behind : length (plain_text written) ≤ d.place = is.behind in
        let long : length (plain_text (records_of log)) ≡ length (plain_text written) = ap (λ (l : List (List ℕ)). length (plain_text l)) same in
        let records : begun ≡ with_failed_record (records_of log) x = own ∙ ap (λ (l : List (List ℕ)). with_failed_record l x) (sym same) in
        several.last_one
        (λ none. sym content ∙ (is.whole (alive none) ∙ ap plain_text (sym same)))
        (omega (arith, behind, long, place))
        (subst (λ (z : List (List ℕ) × ℕ × List ℕ). HoldsFront (plain_text z.0) z.1 z.2) (λ i. (records i, place i, content i)) is.front)
        (hold_nothing later held nothing tells.1)

    hold_disks : (logs : List (List (List Entry))) (fulls : List (LogWriter D ghosts)) (full : List (List (List ℕ))) (held : List Held) → map records_of logs ≡ full ++ written ∷ [] → AllZip HoldsText fulls full → AllZip Tells (DisksOf (fulls ++ current ∷ later)) held
        → several.HoldLogs x logs held
    hold_disks logs [] (r ∷ full) held same texts tells = absurd texts
    hold_disks logs (f ∷ fulls) [] held same texts tells = absurd texts
    hold_disks [] fulls full held same texts tells = absurd (no_last full written same)
    hold_disks (log ∷ []) [] [] [] same texts tells = absurd tells
    hold_disks (log ∷ []) [] [] (h ∷ held) same texts tells = let head : records_of log ≡ written = cc in hold_last log h held head tells
    hold_disks (log ∷ next ∷ logs) [] [] held same texts tells = absurd (cc)
    hold_disks (log ∷ []) (f ∷ fulls) (r ∷ full) held same texts tells = let tail : ◌≡◌ {A = List (List (List ℕ))} [] (full ++ written ∷ []) = cc in absurd (no_last full written tail)
    hold_disks (log ∷ next ∷ logs) (f ∷ fulls) (r ∷ full) [] same texts tells = absurd tells
    hold_disks (log ∷ next ∷ logs) (f ∷ fulls) (r ∷ full) (h ∷ held) same texts tells =
        let head : records_of log ≡ r = cc in
        let tail : map records_of (next ∷ logs) ≡ full ++ written ∷ [] = cc in
        several.full (holds_text f r h tells.0 texts.0 ∙ ap plain_text (sym head)) (hold_disks (next ∷ logs) fulls full held tail texts.1 tells.1)

-- The calls of a run over a set that was opened on some disks
module _ {D : Type 0} {ghosts : Ghosts D} (laws : SetLaws ghosts) (limit : ℕ) (disks : List D) (opened : LogSet D ghosts) (has : HasOpenedSet disks opened) (limit_is : limit_of opened ≡ limit) (trace : Trace) (attempts : List (List Attempt)) (group_bytes : ℕ) (fault : Option ℕ)
    (is_history : IsHistory trace.start trace.entries) (groups : List (List Entry)) (calls lost : List GroupCall) (cut : flat_map (λ (group : List Entry). group) groups ≡ logged_entries trace.entries)
    (runs : AllByRecursion RunsFollow groups) (each : AllZip WroteEntries groups calls) (are : AreLost group_bytes attempts fault (last_sequence trace.start trace.entries) lost) (set : LogSet D ghosts) (wrote : WroteSet opened (calls ++ lost) set) where
  abbrev made : List GroupCall
  made = calls ++ lost

  abbrev last : ℕ
  last = last_sequence trace.start trace.entries

  abbrev lost_record : Option (List ℕ)
  lost_record = failed_record lost

  split : IsSplit opened made set
  split = laws.split opened set made has.fault wrote

  pub hold : HoldLogs set made
  hold = laws.hold disks opened set made has split

  -- the records, log by log
  abbrev records : List (List (List ℕ))
  records = hold.full ++ hold.written ∷ []

  all_written : records_in records ≡ written_by made
  all_written = records_push hold.full hold.written ∙ hold.all_written

  all_records : records_in records ≡ records_of groups
  all_records = all_written ∙ written_is new_log group_bytes attempts last groups calls lost each fault are

  all_many : length (records_in records) ≡ length groups
  all_many = ap length all_records ∙ length-map groups record_of_entries

  -- the groups, log by log
  pub in_logs : AreCut groups records
  in_logs = cut_groups records groups (sym all_records)

  abbrev pub logs : List (List (List Entry))
  logs = in_logs.logs

  lens : lens_of (begun_in set) ≡ map text_len records
  lens = hold.lens

  some : 0 < length records
  some = omega (arith, length-append hold.full (hold.written ∷ []))

  many_begun : length (begun_in set) ≡ length records
  many_begun = sym (length-map (begun_in set) (λ (log : LogWriter D ghosts). len_of log)) ∙ (ap length lens ∙ length-map records text_len)

  many_logs : length logs ≡ length records
  many_logs = sym (length-map logs records_of) ∙ ap length in_logs.records

  many_disks : length records + length (later_of set) ≡ length disks
  many_disks = omega (arith, many_begun, length-append (full_of set) (current_of set ∷ []), set_size disks opened has made set wrote)

  unused_is : length disks - length logs ≡ length (later_of set)
  unused_is = omega (arith, many_logs, many_disks)

  -- the printed lengths, and how the logs were filled

  twice : (l : List (List (List Entry))) → map text_len (map records_of l) ≡ map (λ (log : List (List Entry)). length (plain_text (records_of log))) l
  twice [] = refl
  twice (log ∷ l) = ap (λ (ns : List ℕ). length (plain_text (records_of log)) ∷ ns) (twice l)

  pub lens_are : lens_of (begun_in set) ≡ map (λ (log : List (List Entry)). length (plain_text (records_of log))) logs
  lens_are = lens ∙ (ap (map text_len) (sym in_logs.records) ∙ twice logs)

  pub some_log : 0 < length logs
  some_log = omega (arith, some, many_logs)

  pub few_logs : length logs ≤ length disks
  few_logs = omega (arith, many_logs, many_disks)

  pub are_filled : AreFilledTo limit (length disks - length logs) (map records_of logs)
  are_filled =
      let filled : AreFilledTo (limit_of opened) (length (later_of set)) records = laws.filled disks opened set made has wrote hold in
      subst (λ (z : ℕ × ℕ × List (List (List ℕ))). AreFilledTo z.0 z.1 z.2) (λ i. (limit_is i, sym unused_is i, sym in_logs.records i)) filled

  -- The logs that were begun, with the record that may have failed

  begun_made : begun_by made ≡ with_failed_record (written_by made) lost_record
  begun_made = with_lost new_log group_bytes attempts last groups calls lost each fault are

  begun_here : begun_logs hold ≡ begun_of records lost_record (length (later_of set))
  begun_here = begun_same records set made hold lost_record (length (later_of set)) all_written lens refl begun_made

  begun_groups : (x : Option (List ℕ)) → begun_records logs x (length disks - length logs) ≡ begun_of records x (length (later_of set))
  begun_groups x = begun_is logs x (length disks - length logs) ∙ (λ i. begun_of (in_logs.records i) x (unused_is i))

  -- Of images that are a front of these logs

  record IsFront (safe : ℕ) (images : List (List ℕ)) : Type 0 where
    certain : ℕ
    enough : safe ≤ certain
    front : AreFront certain (begun_of records lost_record (length (later_of set))) images
    none : AllByRecursion (λ (image : List ℕ). image ≡ []) (drop (length records) images)

  is_front : (safe : ℕ) (begun : List (List (List ℕ))) (images : List (List ℕ)) → HaveFront safe begun images → begun ≡ begun_of records lost_record (length (later_of set)) → AllByRecursion (λ (image : List ℕ). image ≡ []) (drop (length records) images) → IsFront safe images
  is_front safe begun images have same none = record { certain = have.certain; enough = have.enough; front = subst (λ (l : List (List (List ℕ))). AreFront have.certain l images) same have.front; none = none }

  have_front : (safe : ℕ) (images : List (List ℕ)) → IsFront safe images → HaveFront safe (begun_records logs lost_record (length disks - length logs)) images
  have_front safe images f = subst (λ (l : List (List (List ℕ))). HaveFront safe l images) (sym (begun_groups lost_record)) (record { certain = f.certain; enough = f.enough; front = f.front })

  -- what they recover, whichever record may be the failed one
  module _ (suit : AllByRecursion Suits trace.entries) (safe : ℕ) (images : List (List ℕ)) (f : IsFront safe images) (x : Option (List ℕ)) (chance : NoChances (begun_records logs x (length disks - length logs)) images) where
    other : IsFrontToo f.certain (length (records_in records)) (begun_of records x (length (later_of set))) images
    other = front_other records lost_record x (length (later_of set)) f.certain images some f.none f.front

    no_chance : NoChances (begun_of records x (length (later_of set))) images
    no_chance = subst (λ (l : List (List (List ℕ))). NoChances l images) (begun_groups x) chance

    all_begun : records_in (begun_of records x (length (later_of set))) ≡ with_failed_record (records_of groups) x
    all_begun = begun_all records x (length (later_of set)) some ∙ ap (λ (l : List (List ℕ)). with_failed_record l x) all_records

    rising : AreRisingBatches (take other.many (records_of groups))
    rising = rising_groups trace.start trace.entries groups calls other.many is_history suit cut runs each [] (record { batches = []; same = refl; each = tt; rising = tt; below = omega arith })

    these : AreTheseBatches (take other.many (records_in (begun_of records x (length (later_of set))))) rising.batches
    these =
        let most : other.many ≤ length (records_of groups) = omega (arith, other.most, ap length all_records) in
        let same : take other.many (records_in (begun_of records x (length (later_of set)))) ≡ take other.many (records_of groups) = ap (take other.many) all_begun ∙ with_first other.many (records_of groups) x most in
        (rising.same ∙ sym same, rising.each, rising.rising)

    recover : RecoverPrefix (with_failed_record (records_of groups) x) images (λ n. min safe (length groups) ≤ n)
    recover r is =
        let prefix = laws.certain other.many (begun_of records x (length (later_of set))) images rising.batches other.front no_chance these r is in
        let found : List (List ℕ) = map logged_bytes r.batches in
        subst (λ (l : List (List ℕ)). IsPrefix found l (λ n. min safe (length groups) ≤ n)) all_begun
        (weaker_prefix found (records_in (begun_of records x (length (later_of set)))) (λ n. other.many ≤ n) (λ n. min safe (length groups) ≤ n) (λ n more. omega (arith, more, other.enough, f.enough, all_many)) prefix)

  -- The images that a crash leaves
  module _ (safe_disks : AreSafeAfterFirst ghosts disks) where
    none_of : (images : List (List ℕ)) → AreLeft ghosts disks (disks_of set) images ⊎ AreLeft ghosts (disks_of opened) (disks_of set) images ⊎ AllZip (IsLeftNow ghosts) (disks_of set) images → AllByRecursion (λ (image : List ℕ). image ≡ []) (drop (length records) images)
    none_of images left =
        subst (λ (n : ℕ). AllByRecursion (λ (image : List ℕ). image ≡ []) (drop n images)) many_begun (laws.unused disks opened opened set [] made safe_disks has no_call wrote images left)

    any_front : (images : List (List ℕ)) → AreLeft ghosts disks (disks_of set) images → IsFront 0 images
    any_front images left = is_front 0 (begun_logs hold) images (laws.handed_in disks opened set made safe_disks has wrote hold images left) begun_here (none_of images (inl left))

    now_front : (safe : ℕ) × HaveCallsSynced made safe × ((images : List (List ℕ)) → AllZip (IsLeftNow ghosts) (disks_of set) images → IsFront safe images)
    now_front =
        let end = laws.at_end disks opened set made safe_disks has wrote hold in
        (end.0, end.1, λ images left. is_front end.0 (begun_logs hold) images (end.2 images left) begun_here (none_of images (inr (inr left))))

    module _ (n : ℕ) (images : List (List ℕ)) (left : AreLeftSince ghosts limit disks (disks_of set) (lens_of (begun_in set)) (take n made) (drop n made) images) where
      abbrev Since : Type 0
      Since = (safe : ℕ) × HaveCallsSynced (take n made) safe × IsFront safe images

      since_front : Since
      since_front =
          let w = left.written in
          let same_calls : take n made ++ drop n made ≡ made = take-append-drop n made in
          let all_wrote = wrote_more w.opened left.between left.last (take n made) (drop n made) w.wrote left.wrote in
          let also : HoldLogs left.last (take n made ++ drop n made) = laws.hold disks w.opened left.last (take n made ++ drop n made) w.has_opened (laws.split w.opened left.last (take n made ++ drop n made) (w.has_opened).fault all_wrote) in
          let there = laws.front disks w.opened left.between left.last (take n made) (drop n made) safe_disks w.has_opened w.wrote left.wrote also in
          let ended : AreLeft ghosts (disks_of left.between) (disks_of left.last) images = subst (λ (ds : List D). AreLeft ghosts (disks_of left.between) ds images) (sym left.is_ended) left.left in
          let also_lens : lens_of (begun_in left.last) ≡ map text_len records = sym left.lens_are ∙ lens in
          let many : length (begun_in left.last) ≡ length records = sym (length-map (begun_in left.last) (λ (log : LogWriter D ghosts). len_of log)) ∙ (ap length also_lens ∙ length-map records text_len) in
          let unused : length (later_of left.last) ≡ length (later_of set) =
          omega (arith, many, length-append (full_of left.last) (current_of left.last ∷ []), set_size disks w.opened w.has_opened (take n made ++ drop n made) left.last all_wrote, many_disks) in
          let same : begun_logs also ≡ begun_of records lost_record (length (later_of set)) =
          begun_same records left.last (take n made ++ drop n made) also lost_record (length (later_of set)) (all_written ∙ ap written_by (sym same_calls)) also_lens unused
          (subst (λ (l : List GroupCall). begun_by l ≡ with_failed_record (written_by l) lost_record) (sym same_calls) begun_made) in
          let none = subst (λ (m : ℕ). AllByRecursion (λ (image : List ℕ). image ≡ []) (drop m images)) many (laws.unused disks w.opened left.between left.last (take n made) (drop n made) safe_disks w.has_opened w.wrote left.wrote images (inr (inl ended))) in
          (there.0, there.1, is_front there.0 (begun_logs also) images (there.2 images ended) same none)

    -- what a crash leaves, and what the disks hold
    module _ (suit : AllByRecursion Suits trace.entries) (o : Outcome) (end : o.last ≡ last) (fault_is_its : o.fault ≡ fault) (held : List Held) (tells : TellHeld ghosts (disks_of set) held) (reached : List ℕ) (reach : TellReach ghosts disks reached) where
      abbrev Recovered : (ℕ → Type 0) → List (List ℕ) → Option (List ℕ) → Type 0
      Recovered enough images x = NoChances (begun_records logs x (length disks - length logs)) images → RecoverPrefix (with_failed_record (records_of (flat_map (λ (log : List (List Entry)). log) logs)) x) images enough

      found : (enough : ℕ → Type 0) (safe : ℕ) (images : List (List ℕ)) (x : Option (List ℕ)) → IsFront safe images → ((n : ℕ) → min safe (length groups) ≤ n → enough n) → Recovered enough images x
      found enough safe images x f to chance =
          subst (λ (l : List (List Entry)). RecoverPrefix (with_failed_record (records_of l) x) images enough) (sym in_logs.all)
          (λ r is. weaker_prefix (map logged_bytes r.batches) (with_failed_record (records_of groups) x) (λ n. min safe (length groups) ≤ n) enough to (recover suit safe images f x chance r is))

      all_is : flat_map (λ (log : List (List Entry)). log) logs ≡ groups
      all_is = in_logs.all

      few_first : (n : ℕ) → length (take n groups) ≤ length groups
      few_first n = omega (arith, length-take n groups)

      synced_all : (m : ℕ) → HaveSynced groups m → (n : ℕ) → min m (length groups) ≤ n → HaveSynced (flat_map (λ (log : List (List Entry)). log) logs) n
      synced_all m have n less = subst (λ (l : List (List Entry)). HaveSynced l n) (sym all_is) (synced_on groups m n (length groups) (omega arith) less have)

      synced_some : (k m : ℕ) → HaveSynced (take k groups) m → (n : ℕ) → min m (length groups) ≤ n → HaveSynced (take k (flat_map (λ (log : List (List Entry)). log) logs)) n
      synced_some k m have n less = subst (λ (l : List (List Entry)). HaveSynced (take k l) n) (sym all_is) (synced_on (take k groups) m n (length groups) (few_first k) less have)

      abbrev ReachIs : D → ℕ → Type 0
      ReachIs disk n = (d : Disk) × (ghosts.told disk ≡ Some d) × (d.reach ≡ n)

      abbrev ReachIsSo : D → ℕ → Type 0
      ReachIsSo disk n = IfSome (ghosts.told disk) (λ d. d.reach ≡ n)

      held_here : (images : List (List ℕ)) → AreLeft ghosts disks (disks_of set) images → HoldEachSynced reached logs images
      held_here images left =
          let reach_so = zip_so ReachIs ReachIsSo (λ disk n t. subst (λ (s : Option Disk). IfSome s (λ d. d.reach ≡ n)) (sym t.1) t.2) disks reached reach in
          held_each logs split.parts split.own reached images (in_logs.records ∙ laws.of_calls disks opened set made has split hold) (filled_alive split.started split.parts split.filled split.are_filled)
          (subst (λ (l : List (List Entry)). AreFirst l (flat_map (λ (part : List GroupCall). part) split.parts ++ split.own)) (sym all_is) (are_first groups calls lost (flat_map (λ (part : List GroupCall). part) split.parts ++ split.own) each split.same))
          (laws.held disks opened set made reached safe_disks has split reach_so images left)

      own_is : hold.begun ≡ with_failed_record hold.written lost_record
      own_is = append_cancel_left (records_in hold.full) hold.begun (with_failed_record hold.written lost_record)
          (hold.all_begun ∙ (begun_made ∙ (ap (λ (l : List (List ℕ)). with_failed_record l lost_record) (sym hold.all_written) ∙ sym (with_append (records_in hold.full) hold.written lost_record))))

      holds_with : (x : Option (List ℕ)) → lost_record ≡ x → (x ≡ None → first_fault made ≡ None) → several.HoldLogs x logs held
      holds_with x same alive =
          hold_disks ghosts x (first_fault made) alive (current_of set) (later_of set) hold.written hold.begun hold.current_holds (own_is ∙ ap (with_failed_record hold.written) same) hold.later_hold logs (full_of set) hold.full held in_logs.records hold.full_hold tells

      failed_by : (f : Option ℕ) → fault ≡ f → AreLost group_bytes attempts f last lost
          → MatchOption f (several.HoldLogs None logs held) (λ count. (x : List ℕ) × (failed_record lost ≡ Some x) × IsFailedWrite group_bytes attempts o x × several.HoldLogs (Some x) logs held)
      failed_by None e none = holds_with None (ap failed_record none) (λ is. fault_is new_log group_bytes attempts last groups calls lost each None none)
      failed_by (Some count) e one =
          let x : List ℕ = record_of_call one.0 in
          let same : failed_record lost ≡ Some x = ap failed_record one.1 in
          (x, same, is_failed new_log group_bytes attempts last groups calls lost each count one o end (fault_is_its ∙ e), holds_with (Some x) same (λ wrong. absurd (cc)))

      pub crash_safe : AreCrashSafe group_bytes attempts o logs (length disks - length logs) held reached made lost (AreLeft ghosts disks (disks_of set)) (AreLeftSince ghosts limit disks (disks_of set) (lens_of (begun_in set))) (AllZip (IsLeftNow ghosts) (disks_of set))
      crash_safe = record {
        failed = subst (λ (f : Option ℕ). MatchOption f (several.HoldLogs None logs held) (λ count. (x : List ℕ) × (failed_record lost ≡ Some x) × IsFailedWrite group_bytes attempts o x × several.HoldLogs (Some x) logs held)) (sym fault_is_its) (failed_by fault refl are);
        any_moment = λ x may images left. found (λ n. ⊤) 0 images x (any_front images left) (λ n less. tt);
        held = held_here;
        by_calls = λ n x may images left.
            let since = since_front n images left in
            found (HaveSynced (take n (flat_map (λ (log : List (List Entry)). log) logs))) since.0 images x since.2 (synced_some n since.0 (synced_first n groups calls lost since.0 each since.1));
        fronts = λ n images left.
            let since = since_front n images left in
            (since.0, subst (λ (l : List (List Entry)). HaveSynced (take n l) since.0) (sym all_is) (synced_first n groups calls lost since.0 each since.1), have_front since.0 images since.2);
        at_end = λ x may images left.
            let end = now_front in
            found (HaveSynced (flat_map (λ (log : List (List Entry)). log) logs)) end.0 images x (end.2 images left) (synced_all end.0 (synced_is new_log group_bytes attempts last groups calls lost each end.0 end.1));
      }

  -- the groups are those of the history
  pub of_history : (o : Outcome) → o.history ≡ trace.entries → AreGroupsOf o.history groups
  of_history o history = record { cut = ap logged_entries history ∙ sym cut; none_empty = each_has_entries groups calls each; runs = runs }
