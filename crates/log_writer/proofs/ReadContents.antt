-- What is read of a log that is open: the text of the batches that it kept, and of those that calls wrote.
use Rattle.std.proofs.Common.{◌≡◌, ℕ, List, [], ◌∷◌, ◌++◌, length, take, drop, map, flat_map, Option, Some, None, IfSome, refl, sym, ◌∙◌, ap, subst, append-nil, append_assoc}
use Rattle.std.proofs.Math.Seq.{take-append_seam, drop-append_seam}
use Rattle.std.proofs.lemmas.List.{map-append, take-append-drop, take-map, drop-map}
use Rattle.std.proofs.lemmas.Option.{same_Some}
use Rattle.std.specs.List.{AllByRecursion, AllZip}
use Rattle.base_devices.specs.Disk.{Disk}
use Rattle.base_devices.specs.declared.disk.Disk.{Ghosts}
use Rattle.model_base.specs.Log.{plain_log, new_log, Beginning, SpellsWhole, text_after}
use Rattle.model_base.specs.Recovery.{Logged, logged_bytes}
use Rattle.log_laws.specs.Fronts.{plain_text, records_in}
use Rattle.log_laws.proofs.Written.{text_spells, spells_on}
use Rattle.log_writer.specs.declared.writer.LogWriter.{LogWriter}
use Rattle.log_writer.specs.declared.set.LogSet.{LogSet}
use Rattle.log_writer.specs.Words.{disk_of, number_of, len_of}
use Rattle.log_writer.specs.Adding.{GroupCall, record_of_call, HasBatch}
use Rattle.log_writer.specs.Reads.{front_of}
use Rattle.log_writer.specs.ReadableLogs.{batch_of_call, batches_by, AreBatches, IsTextOf, HoldInTurn, HasBytes, no_bytes, IsOneFile, AreSetFiles, KeepsBatches}
use Rattle.log_writer.specs.Written.{Wrote, no_call, one_more, read, if_worked, written_by, HoldsCalls, Stands}
use Rattle.log_writer.specs.Sets.{counted, current_of, later_of, fault_in, AddsHere, AddsOver, here, next, stuck, WroteSet}
use Rattle.log_writer.specs.Sets as sets
use Rattle.log_writer.specs.SetSplits.{AreFilled, IsSplit}
use Rattle.log_writer.specs.SetCrashes.{HasOpenedSet}
use Rattle.log_writer.specs.SetContents.{HoldLogs}
use Rattle.log_writer.proofs.Standing.{stands_written}
use Rattle.log_writer.proofs.Surviving.{Laws}
use Rattle.log_writer.proofs.SetStates.{IsOn, on_stands, filled_content, filled_len}
use Rattle.log_writer.proofs.SetContents.{full_is, hold_logs, on_current, on_started}
use Rattle.log_writer.proofs.Splitting.{split_so}

-- the bytes of the batches are the records that calls wrote
pub bytes_by : (calls : List GroupCall) → map logged_bytes (batches_by calls) ≡ written_by calls
bytes_by [] = refl
bytes_by (c ∷ calls) = with_failed c.failed (bytes_by calls)
  where
    with_failed : (f : Option ℕ) → map logged_bytes (batches_by calls) ≡ written_by calls → map logged_bytes (if_worked f (batch_of_call c ∷ batches_by calls) []) ≡ if_worked f (record_of_call c ∷ written_by calls) []
    with_failed None later = ap (λ (l : List (List ℕ)). record_of_call c ∷ l) later
    with_failed (Some n) later = refl

-- one call more, whose record is a batch
batches_more : (calls : List GroupCall) (c : GroupCall) → AreBatches (batches_by calls) → (c.failed ≡ None → HasBatch c) → AreBatches (batches_by (calls ++ c ∷ []))
batches_more [] c all one = by_failed c.failed refl
  where
    by_failed : (f : Option ℕ) → c.failed ≡ f → AreBatches (if_worked f (batch_of_call c ∷ []) [])
    by_failed None e = (one e, tt)
    by_failed (Some n) e = tt
batches_more (d ∷ calls) c all one = with_failed d.failed all (λ earlier. batches_more calls c earlier one)
  where
    with_failed : (f : Option ℕ) → AreBatches (if_worked f (batch_of_call d ∷ batches_by calls) []) → (AreBatches (batches_by calls) → AreBatches (batches_by (calls ++ c ∷ []))) → AreBatches (if_worked f (batch_of_call d ∷ batches_by (calls ++ c ∷ [])) [])
    with_failed None all more = (all.0, more all.1)
    with_failed (Some n) all more = tt

both_batches : (front back : List Logged) → AreBatches front → AreBatches back → AreBatches (front ++ back)
both_batches [] back first second = second
both_batches (b ∷ front) back first second = (first.0, both_batches front back first.1 second)

-- the record of a call of a set is a batch, however its fault is counted
same_batch : (n : ℕ) (c : GroupCall) → ((counted n c).failed ≡ None → HasBatch (counted n c)) → c.failed ≡ None → HasBatch c
same_batch n c has worked = has (ap (λ (f : Option ℕ). (counted n (record c { failed = f })).failed) worked)

module _ {D : Type 0} {ghosts : Ghosts D} where
  written_batches : (old : LogWriter D ghosts) (calls : List GroupCall) (new : LogWriter D ghosts) → Wrote old calls new → AreBatches (batches_by calls)
  written_batches old calls new no_call = tt
  written_batches old calls new (one_more {calls = before} {now = now} c wrote adds) = batches_more before c (written_batches old before now wrote) adds.batch
  written_batches old calls new (read {now = now} wrote r) = written_batches old calls now wrote

  set_written_batches : (old : LogSet D ghosts) (calls : List GroupCall) (new : LogSet D ghosts) → WroteSet old calls new → AreBatches (batches_by calls)
  set_written_batches old calls new sets.no_call = tt
  set_written_batches old calls new (sets.read {now = now} wrote r) = set_written_batches old calls now wrote
  set_written_batches old calls new (sets.one_more {calls = before} {now = now} c wrote adds) = batches_more before c (set_written_batches old before now wrote) (λ worked. by_fault worked (fault_in now) refl adds.dead)
    where
      here_batch : (a b : LogSet D ghosts) → AddsHere c a b → c.failed ≡ None → HasBatch c
      here_batch a b adds_here worked = same_batch (ghosts.faults (disk_of (current_of b))) c (adds_here.adds).batch worked

      by_over : c.failed ≡ None → AddsOver c now new → HasBatch c
      by_over worked (here room a) = here_batch now new a worked
      by_over worked (next between g a) = here_batch between new a worked
      by_over worked (stuck count failed s) = let wrong : ◌≡◌ {A = Option ℕ} None (Some count) = sym worked ∙ failed in absurd (cc)

      by_fault : c.failed ≡ None → (f : Option ℕ) → fault_in now ≡ f → IfSome f (λ count. (c.failed ≡ Some count) × (new ≡ now)) → HasBatch c
      by_fault worked None alive kept = by_over worked (adds.put alive)
      by_fault worked (Some count) dead kept = let wrong : ◌≡◌ {A = Option ℕ} None (Some count) = sym worked ∙ kept.0 in absurd (cc)

-- the bytes up to the log's end are its text
held_text : (b : Beginning) (calls : List GroupCall) (len : ℕ) (told : Option Disk) (file : List ℕ) → front_of len told ≡ Some file → len ≡ length (text_after b (written_by calls)) → IfSome told (λ d. (safe : ℕ) × HoldsCalls b d calls safe)
    → file ≡ text_after b (written_by calls)
held_text b calls len None file has long holds = let wrong : ◌≡◌ {A = Option (List ℕ)} None (Some file) = has in absurd (cc)
held_text b calls len (Some d) file has long holds = sym (same_Some (take len d.content) file has) ∙ (ap (λ (n : ℕ). take n d.content) long ∙ (holds.1.content).1)

whole_text : (t : List ℕ) (len : ℕ) (told : Option Disk) (file : List ℕ) → front_of len told ≡ Some file → len ≡ length t → IfSome told (λ d. d.content ≡ t) → file ≡ t
whole_text t len None file has long holds = let wrong : ◌≡◌ {A = Option (List ℕ)} None (Some file) = has in absurd (cc)
whole_text t len (Some d) file has long holds =
    sym (same_Some (take len d.content) file has) ∙ (ap (λ (n : ℕ). take n d.content) long ∙ (ap (take (length t)) (holds ∙ sym (append-nil t)) ∙ take-append_seam t []))

module _ {D : Type 0} {ghosts : Ghosts D} (laws : Laws ghosts) where
  -- One log holds what it kept, and what the calls wrote.
  pub log_holds : (opened log : LogWriter D ghosts) (kept : List Logged) (calls : List GroupCall) (files : List (List ℕ)) → KeepsBatches opened kept → Wrote opened calls log → IsOneFile log files → HoldInTurn (number_of log) files (kept ++ batches_by calls)
  log_holds opened log kept calls files keeps wrote is =
      let b : Beginning = keeps.beginning in
      let stands : Stands b calls log = stands_written laws.is_disk b opened calls log keeps.stands wrote in
      let text : is.file ≡ text_after b (written_by calls) = held_text b calls (len_of log) (ghosts.told (disk_of log)) is.file is.has stands.len stands.told in
      let records : map logged_bytes kept ++ written_by calls ≡ map logged_bytes (kept ++ batches_by calls) =
      ap (λ (l : List (List ℕ)). map logged_bytes kept ++ l) (sym (bytes_by calls)) ∙ sym (map-append logged_bytes kept (batches_by calls)) in
      let spelled : IsTextOf b.number is.file (kept ++ batches_by calls) =
      subst (λ (z : List ℕ × List (List ℕ)). SpellsWhole b.number z.0 z.1) (λ i. (sym text i, records i)) (spells_on b.number b.kept (map logged_bytes kept) (written_by calls) keeps.text) in
      let one : AllZip (IsTextOf (number_of log)) (is.file ∷ []) ((kept ++ batches_by calls) ∷ []) = (subst (λ (n : Option ℕ). IsTextOf n is.file (kept ++ batches_by calls)) (sym stands.number_is) spelled, tt) in
      record {
        parts = (kept ++ batches_by calls) ∷ [];
        all = append-nil (kept ++ batches_by calls);
        each = subst (λ (l : List (List ℕ)). AllZip (IsTextOf (number_of log)) l ((kept ++ batches_by calls) ∷ [])) (sym is.only) one;
        are_batches = both_batches kept (batches_by calls) keeps.are_batches (written_batches opened calls log wrote);
      }

-- Of several logs.

-- batches cut as their records are
record AreCutAs (texts : List (List (List ℕ))) (batches : List Logged) : Type 0 where
  parts : List (List Logged)
  all : flat_map (λ (part : List Logged). part) parts ≡ batches
  same : map (λ (part : List Logged). map logged_bytes part) parts ≡ texts

cut_as : (texts : List (List (List ℕ))) (batches : List Logged) → records_in texts ≡ map logged_bytes batches → AreCutAs texts batches
cut_as [] batches e = record { parts = []; all = sym (none_left batches e); same = refl }
  where
    none_left : (batches : List Logged) → ◌≡◌ {A = List (List ℕ)} [] (map logged_bytes batches) → batches ≡ []
    none_left [] e = refl
    none_left (b ∷ batches) e = absurd (cc)
cut_as (t ∷ texts) batches e =
    let n : ℕ = length t in
    let in_two : t ++ records_in texts ≡ map logged_bytes (take n batches) ++ map logged_bytes (drop n batches) = e ∙ (ap (map logged_bytes) (sym (take-append-drop n batches)) ∙ map-append logged_bytes (take n batches) (drop n batches)) in
    let front : map logged_bytes (take n batches) ≡ t = sym (take-map logged_bytes n batches) ∙ (ap (take n) (sym e) ∙ take-append_seam t (records_in texts)) in
    let back : records_in texts ≡ map logged_bytes (drop n batches) = sym (drop-append_seam t (records_in texts)) ∙ (ap (drop n) e ∙ drop-map logged_bytes n batches) in
    let rest = cut_as texts (drop n batches) back in
    record {
      parts = take n batches ∷ rest.parts;
      all = ap (λ (l : List Logged). take n batches ++ l) rest.all ∙ take-append-drop n batches;
      same = λ i. front i ∷ rest.same i;
    }

-- each file is the text of its part
each_text : (texts : List (List (List ℕ))) (parts : List (List Logged)) → map (λ (part : List Logged). map logged_bytes part) parts ≡ texts → AllZip (IsTextOf plain_log) (map plain_text texts) parts
each_text [] [] same = tt
each_text [] (p ∷ parts) same = absurd (cc)
each_text (t ∷ texts) [] same = absurd (cc)
each_text (t ∷ texts) (p ∷ parts) same =
    let first : map logged_bytes p ≡ t = cc in
    let others : map (λ (part : List Logged). map logged_bytes part) parts ≡ texts = cc in
    (subst (λ (l : List (List ℕ)). SpellsWhole plain_log (plain_text t) l) (sym first) (text_spells plain_log t), each_text texts parts others)

nothing_in : {A : Type 0} (xs : List A) → records_in (map (λ (x : A). []) xs) ≡ []
nothing_in [] = refl
nothing_in (x ∷ xs) = nothing_in xs

records_joined : (texts others : List (List (List ℕ))) → records_in (texts ++ others) ≡ records_in texts ++ records_in others
records_joined [] others = refl
records_joined (t ∷ texts) others = ap (λ (l : List (List ℕ)). t ++ l) (records_joined texts others) ∙ sym (append_assoc t (records_in texts) (records_in others))

module _ {D : Type 0} {ghosts : Ghosts D} (laws : Laws ghosts) where
  -- of the logs that have begun
  texts_of : (started : List (LogWriter D ghosts)) (parts : List (List GroupCall)) (filled : List (LogWriter D ghosts)) (current : LogWriter D ghosts) (own : List GroupCall) (files : List (List ℕ)) → AreFilled started parts filled → AllByRecursion (IsOn laws []) started → Stands new_log own current
      → AllZip HasBytes (filled ++ current ∷ []) files → files ≡ map plain_text (map written_by parts ++ written_by own ∷ [])
  texts_of [] [] [] current own [] are on stands have = absurd have
  texts_of [] [] [] current own (f ∷ g ∷ files) are on stands have = absurd have.1
  texts_of [] [] [] current own (f ∷ []) are on stands have = ap (λ (l : List ℕ). l ∷ []) (held_text new_log own (len_of current) (ghosts.told (disk_of current)) f have.0 stands.len stands.told)
  texts_of [] [] (n ∷ filled) current own files are on stands have = absurd are
  texts_of [] (p ∷ parts) filled current own files are on stands have = absurd are
  texts_of (s ∷ started) [] filled current own files are on stands have = absurd are
  texts_of (s ∷ started) (p ∷ parts) [] current own files are on stands have = absurd are
  texts_of (s ∷ started) (p ∷ parts) (n ∷ filled) current own [] are on stands have = absurd have
  texts_of (s ∷ started) (p ∷ parts) (n ∷ filled) current own (f ∷ files) are on stands have =
      let first : f ≡ plain_text (written_by p) = whole_text (plain_text (written_by p)) (len_of n) (ghosts.told (disk_of n)) f have.0 (filled_len laws s on.0 p n are.0) (filled_content laws s on.0 p n are.0) in
      let others = texts_of started parts filled current own files are.1 on.1 stands have.1 in
      λ i. first i ∷ others i

  -- A set holds what the calls wrote.
  pub set_holds : (disks : List D) (opened set : LogSet D ghosts) (calls : List GroupCall) (files : List (List ℕ)) → HasOpenedSet disks opened → WroteSet opened calls set → AreSetFiles set files → HoldInTurn plain_log files (batches_by calls)
  unfolding hold_logs
  set_holds disks opened set calls files has wrote are =
      let s : IsSplit opened calls set = split_so opened calls set has.fault wrote in
      let hold : HoldLogs set calls = hold_logs laws disks opened set calls has s in
      let stands : Stands new_log s.own (current_of set) = on_stands laws s.own (current_of set) (on_current laws disks opened set calls has s) in
      let have : AllZip HasBytes (s.filled ++ current_of set ∷ []) are.begun = subst (λ (l : List (LogWriter D ghosts)). AllZip HasBytes (l ++ current_of set ∷ []) are.begun) (full_is laws disks opened set calls has s) are.have in
      let begun : List (List (List ℕ)) = map written_by s.parts ++ written_by s.own ∷ [] in
      let none : List (List (List ℕ)) = map (λ (log : LogWriter D ghosts). []) (later_of set) in
      let begun_is : are.begun ≡ map plain_text begun = texts_of s.started s.parts s.filled (current_of set) s.own are.begun s.are_filled (on_started laws disks opened set calls has s) stands have in
      let files_are : files ≡ map plain_text (begun ++ none) = are.all ∙ (ap (λ (l : List (List ℕ)). l ++ map no_bytes (later_of set)) begun_is ∙ (ap (λ (l : List (List ℕ)). map plain_text begun ++ l) (no_texts (later_of set)) ∙ sym (map-append plain_text begun none))) in
      let written : records_in (begun ++ none) ≡ map logged_bytes (batches_by calls) =
      records_joined begun none ∙ (ap (λ (l : List (List ℕ)). records_in begun ++ l) (nothing_in (later_of set)) ∙ (append-nil (records_in begun) ∙ (records_joined (map written_by s.parts) (written_by s.own ∷ [])
      ∙ (ap (λ (l : List (List ℕ)). records_in (map written_by s.parts) ++ l) (append-nil (written_by s.own)) ∙ (hold.all_written ∙ sym (bytes_by calls)))))) in
      let cut = cut_as (begun ++ none) (batches_by calls) written in
      record {
        parts = cut.parts;
        all = cut.all;
        each = subst (λ (l : List (List ℕ)). AllZip (IsTextOf plain_log) l cut.parts) (sym files_are) (each_text (begun ++ none) cut.parts cut.same);
        are_batches = set_written_batches opened calls set wrote;
      }
    where
      no_texts : (logs : List (LogWriter D ghosts)) → map no_bytes logs ≡ map plain_text (map (λ (log : LogWriter D ghosts). []) logs)
      no_texts [] = refl
      no_texts (log ∷ logs) = ap (λ (l : List (List ℕ)). [] ∷ l) (no_texts logs)
