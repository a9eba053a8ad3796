-- What steps keep, one after another.
use Rattle.std.proofs.Common.{◌≡◌, ℕ, ◌+◌, ◌^◌, ◌≤◌, Bool, true, List, [], ◌∷◌, ◌++◌, length, Option, Some, None, IfSome, unwrap_or, refl, sym, ◌∙◌, ap, subst, append_assoc, append-nil, length-append, add-zero, arith}
use Rattle.std.specs.Io.KnownBytes.{Appends}
use Rattle.std.proofs.KnownBytes.{Appends-trans}
use Rattle.model_base.specs.Log.{record_text, text_from}
use Rattle.model_base.specs.declared.log.EndReason.{EndReason}
use Rattle.log_scan.specs.Scanner.{FindsRecord, IsAt, IsGoing, ScannerState, unread_before}
use Rattle.log_scan.specs.Scanning.{Item, Ends, Finds, found_none, items_with}
use Rattle.log_scan.specs.declared.scanner.Lost.{Lost}
use Rattle.log_scan.specs.declared.scanner.Unread.{Unread}
use Rattle.list_log.proofs.Joined.{finds_join}
use Rattle.list_log.proofs.Stepped.{finds_one}
use Rattle.log_salvage.specs.Counting.{AreCounts, no_counts, with_record, with_skipped, with_step, with_unread, with_verdict}
use Rattle.log_salvage.specs.Keeping.{AreKept, HasVerdict, no_records, with_kept, with_left_out, with_stretch}
use Rattle.log_salvage.specs.NewLogs.{NewLogState, longer, text_of}
use Rattle.log_salvage.specs.Salvaging.{AddsAll, AnswersSalvage, AreFound, IsKeptNext, Source, Written, ended, text_of_all}
use Rattle.log_salvage.specs.Steps.{AddsUnless, FindsStep, HasCauses, WhereItGoesOn, WritesStep}
use Rattle.log_salvage.specs.declared.counts.Counts.{Counts}
use Rattle.log_salvage.specs.declared.keeping.LeftOut.{LeftOut}
use Rattle.log_salvage.specs.declared.keeping.Range.{Range}
use Rattle.log_salvage.specs.declared.salvaged.Salvaged.{Salvaged}
use Rattle.log_salvage.specs.declared.salvaged.Salvaged.TheVariants as salvaged
use Rattle.log_salvage.specs.declared.salvaging.Step.{Step}
use Rattle.log_salvage.specs.declared.salvaging.Step.TheVariants as step

-- ---- items and records

kept_join : (range : Range) (a b : List Item) (r s : List (List ℕ)) → AreKept range a r → AreKept range b s → AreKept range (a ++ b) (r ++ s)
kept_join range a b r s no_records second = second
kept_join range a b r s (with_kept {items = items} {records = records} is rest) second = with_kept is (kept_join range items b records s rest second)
kept_join range a b r s (with_left_out {items = items} {records = records} is rest) second = with_left_out is (kept_join range items b records s rest second)
kept_join range a b r s (with_stretch {items = items} {records = records} rest) second = with_stretch (kept_join range items b records s rest second)

counts_join : (range : Range) (c mid after : Counts) (a b : List Item) → AreCounts range c a mid → AreCounts range mid b after → AreCounts range c (a ++ b) after
counts_join range c mid after a b no_counts second = second
counts_join range c mid after a b (with_record {items = items} {left_out = answer} is rest) second = with_record is (counts_join range (with_verdict answer c) mid after items b rest second)
counts_join range c mid after a b (with_skipped {u = u} {items = items} rest) second = with_skipped (counts_join range _ mid after items b rest second)

-- the records that one more adds
abbrev kept_of : Option LeftOut → List ℕ → List (List ℕ)
kept_of None bytes = bytes ∷ []
kept_of (Some why) bytes = []

items_kept : (range : Range) (lost : Option Lost) (from start end : ℕ) (bytes : List ℕ) (answer : Option LeftOut) → HasVerdict range bytes answer → AreKept range (items_with lost from start end bytes) (kept_of answer bytes)
items_kept range None from start end bytes None is = with_kept is no_records
items_kept range None from start end bytes (Some why) is = with_left_out is no_records
items_kept range (Some lost) from start end bytes None is = with_stretch (with_kept is no_records)
items_kept range (Some lost) from start end bytes (Some why) is = with_stretch (with_left_out is no_records)

items_counted : (range : Range) (c : Counts) (lost : Option Lost) (from start end : ℕ) (bytes : List ℕ) (answer : Option LeftOut) → HasVerdict range bytes answer
    → AreCounts range c (items_with lost from start end bytes) (with_verdict answer (with_unread (unread_before lost from start) c))
items_counted range c None from start end bytes answer is = with_record is no_counts
items_counted range c (Some lost) from start end bytes answer is = with_skipped (with_record is no_counts)

-- ---- the text

text_append : (number : Option ℕ) (offset : ℕ) (xs ys : List (List ℕ)) → text_from number offset (xs ++ ys) ≡ text_from number offset xs ++ text_from number (offset + length (text_from number offset xs)) ys
text_append number offset [] ys = ap (λ (n : ℕ). text_from number n ys) (sym (add-zero offset))
text_append number offset (x ∷ xs) ys =
    let one : List ℕ = record_text number offset x in
    let later : List ℕ = text_from number (offset + length one) xs in
    ap (λ (l : List ℕ). one ++ l) (text_append number (offset + length one) xs ys)
    ∙ (sym (append_assoc one later (text_from number (offset + length one + length later) ys))
    ∙ ap (λ (n : ℕ). (one ++ later) ++ text_from number n ys) (omega (arith, length-append one later)))

-- one more record's text, at the end of the log that is longer by the text so far
text_more : (log now : NewLogState) (records : List (List ℕ)) (bytes : List ℕ) → now ≡ longer log (text_of_all log records) → text_of_all log (records ++ bytes ∷ []) ≡ text_of_all log records ++ text_of now bytes
text_more log now records bytes is =
    let so_far = text_of_all log records in
    let there = record_text log.number (log.len + length so_far) bytes in
    text_append log.number log.len records (bytes ∷ [])
    ∙ (ap (λ (l : List ℕ). so_far ++ l) (append-nil there) ∙ ap (λ (l : NewLogState). so_far ++ text_of l bytes) (sym is))

abbrev pub log_with : Option ℕ → ℕ → NewLogState
log_with number len = record { number = number; len = len }

longer_more : (log now new : NewLogState) (text more : List ℕ) → now ≡ longer log text → new ≡ longer now more → new ≡ longer log (text ++ more)
longer_more log now new text more is new_is =
    new_is ∙ (ap (λ (l : NewLogState). longer l more) is ∙ ap (log_with log.number) (omega (arith, length-append text more)))

-- ---- what is found

-- a scanner of this log
pub record IsOf (source : Source) (s : ScannerState) : Type 0 where
  pub number : s.number ≡ source.number
  pub goes_on : s.goes_on ≡ true

finds_next : (source : Source) (old new : ScannerState) (stretch : Option Unread) (start end : ℕ) (items : List Item) → IsOf source old → IsAt source.file old → FindsRecord source.file old new stretch start end
    → Finds source.number true source.file 0 items old.place → Finds source.number true source.file 0 (items ++ items_with old.lost old.place start end new.reader.in_hand) new.place
finds_next source old new stretch start end items of at found so_far =
    let more = items_with old.lost old.place start end new.reader.in_hand in
    let one = subst (λ (n : Option ℕ). Finds n true source.file old.place more new.place) of.number
    (subst (λ (g : Bool). Finds old.number g source.file old.place more new.place) of.goes_on (finds_one source.file old new stretch start end at found)) in
    finds_join source.number true source.file 0 old.place new.place items more so_far one

found_next : (range : Range) (source : Source) (old new : ScannerState) (stretch : Option Unread) (start end : ℕ) (items : List Item) (records : List (List ℕ)) (answer : Option LeftOut) → IsOf source old → IsAt source.file old
    → FindsRecord source.file old new stretch start end → HasVerdict range new.reader.in_hand answer → AreFound range source old.place items records
    → AreFound range source new.place (items ++ items_with old.lost old.place start end new.reader.in_hand) (records ++ kept_of answer new.reader.in_hand)
found_next range source old new stretch start end items records answer of at found verdict so_far =
    let bytes = new.reader.in_hand in
    let more = items_with old.lost old.place start end bytes in
    record {
      finds = finds_next source old new stretch start end items of at found so_far.finds;
      are = kept_join range items more records (kept_of answer bytes) so_far.are (items_kept range old.lost old.place start end bytes answer verdict);
    }

kept_next : (range : Range) (source : Source) (old new : ScannerState) (stretch : Option Unread) (start end : ℕ) (items : List Item) (records : List (List ℕ)) → IsOf source old → IsAt source.file old
    → FindsRecord source.file old new stretch start end → HasVerdict range new.reader.in_hand None → AreFound range source old.place items records → IsKeptNext range source items records new.reader.in_hand
kept_next range source old new stretch start end items records of at found verdict so_far = (
  new.place,
  items_with old.lost old.place start end new.reader.in_hand,
  found_next range source old new stretch start end items records None of at found verdict so_far,
)

-- ---- what was added

-- up to a place of the file
abbrev pub AddsTo : Range → Source → ℕ → Written → Written → Type 0
AddsTo range source place first now = (items : List Item) × AddsAll range source place items first now

pub adds_none : (range : Range) (source : Source) (place : ℕ) (first : Written) → place ≡ 0 → Appends first.taken first.taken [] → AddsTo range source place first first
adds_none range source place first start none = (
  [],
  record {
    records = [];
    found = record { finds = subst (λ (p : ℕ). Finds source.number true source.file 0 [] p) (sym start) found_none; are = no_records };
    taken = none;
    log_is = ap (log_with first.log.number) (sym (add-zero first.log.len));
    counted = no_counts;
  },
)

-- where nothing changed
abbrev same_written : (range : Range) (source : Source) (place : ℕ) (items : List Item) (first mid after : Written) → after.log ≡ mid.log → after.taken ≡ mid.taken → after.counts ≡ mid.counts
    → AddsAll range source place items first mid → AddsAll range source place items first after
same_written range source place items first mid after log taken counts adds = record {
  records = adds.records;
  found = adds.found;
  taken = subst (λ (t : Option (List ℕ)). Appends first.taken t (text_of_all first.log adds.records)) (sym taken) adds.taken;
  log_is = log ∙ adds.log_is;
  counted = subst (AreCounts range first.counts items) (sym counts) adds.counted;
}

-- one more record
adds_next : (range : Range) (source : Source) (place : ℕ) (items more : List Item) (first mid after : Written) (records : List (List ℕ)) (answer : Option LeftOut) (bytes : List ℕ)
    → AreFound range source place (items ++ more) (records ++ kept_of answer bytes) → Appends first.taken mid.taken (text_of_all first.log records) → mid.log ≡ longer first.log (text_of_all first.log records)
    → AddsUnless answer bytes mid.log after.log mid.taken after.taken → AreCounts range first.counts (items ++ more) after.counts → AddsAll range source place (items ++ more) first after
adds_next range source place items more first mid after records None bytes found taken log_is adds counted =
    let text = text_more first.log mid.log records bytes log_is in
    record {
      records = records ++ bytes ∷ [];
      found = found;
      taken = subst (Appends first.taken after.taken) (sym text) (Appends-trans first.taken mid.taken after.taken (text_of_all first.log records) (text_of mid.log bytes) taken adds.taken);
      log_is = longer_more first.log mid.log after.log (text_of_all first.log records) (text_of mid.log bytes) log_is adds.log_is ∙ ap (longer first.log) (sym text);
      counted = counted;
    }
adds_next range source place items more first mid after records (Some why) bytes found taken log_is adds counted = record {
  records = records;
  found = subst (AreFound range source place (items ++ more)) (append-nil records) found;
  taken = subst (λ (t : Option (List ℕ)). Appends first.taken t (text_of_all first.log records)) (sym adds.1) taken;
  log_is = adds.0 ∙ log_is;
  counted = counted;
}

-- a step after which it goes on
pub adds_on : (range : Range) (source : Source) (old new : ScannerState) (first mid after : Written) (s : Step) → IsOf source old → IsAt source.file old → ended s ≡ None → FindsStep source.file old new s
    → WritesStep range new.reader.in_hand mid.log after.log mid.taken after.taken s → after.counts ≡ with_step s mid.counts → AddsTo range source old.place first mid → AddsTo range source new.place first after
adds_on range source old new first mid after (step.Record stretch start end answer) of at on found written counts so_far =
    let bytes = new.reader.in_hand in
    let more = items_with old.lost old.place start end bytes in
    let adds = so_far.1 in
    let counted : after.counts ≡ with_verdict answer (with_unread (unread_before old.lost old.place start) mid.counts) = counts ∙ ap (λ (u : Option Unread). with_verdict answer (with_unread u mid.counts)) found.stretch in (
      so_far.0 ++ more,
      adds_next range source new.place so_far.0 more first mid after adds.records answer bytes (found_next range source old new stretch start end so_far.0 adds.records answer of at found written.0 adds.found) adds.taken adds.log_is written.1
          (counts_join range first.counts mid.counts after.counts so_far.0 more adds.counted
          (subst (AreCounts range mid.counts more) (sym counted) (items_counted range mid.counts old.lost old.place start end bytes answer written.0))),
    )
adds_on range source old new first mid after step.Passed of at on found written counts so_far =
    subst (λ (p : ℕ). AddsTo range source p first after) (sym found) (so_far.0, same_written range source old.place so_far.0 first mid after written.0 written.1 counts so_far.1)
adds_on range source old new first mid after (step.End a why) of at on found written counts so_far = absurd (cc on)
adds_on range source old new first mid after (step.Fault count) of at on found written counts so_far = absurd (cc on)
adds_on range source old new first mid after step.SinkFailed of at on found written counts so_far = absurd (cc on)
adds_on range source old new first mid after step.TooLong of at on found written counts so_far = absurd (cc on)
adds_on range source old new first mid after step.NoMemory of at on found written counts so_far = absurd (cc on)

became : (x y : Salvaged) → Some x ≡ Some y → x ≡ y
became x y same = ap (λ (o : Option Salvaged). unwrap_or o x) same

same_ends : (source : Source) (s : ScannerState) (at : ℕ) (why : EndReason) → IsOf source s → Ends s.number s.goes_on source.file s.place at why → Ends source.number true source.file s.place at why
same_ends source s at why of ends =
    subst (λ (n : Option ℕ). Ends n true source.file s.place at why) of.number (subst (λ (g : Bool). Ends s.number g source.file s.place at why) of.goes_on ends)

-- the step that ends it
pub adds_at_end : (range : Range) (source : Source) (old new : ScannerState) (first mid after : Written) (s : Step) (result : Salvaged) → IsOf source old → IsAt source.file old → ended s ≡ Some result
    → FindsStep source.file old new s → WritesStep range new.reader.in_hand mid.log after.log mid.taken after.taken s → after.counts ≡ mid.counts → AddsTo range source old.place first mid
    → AnswersSalvage range source first after result
adds_at_end range source old new first mid after (step.Record stretch start end answer) result of at is found written counts so_far = absurd (cc is)
adds_at_end range source old new first mid after step.Passed result of at is found written counts so_far = absurd (cc is)
adds_at_end range source old new first mid after (step.End a why) result of at is found written counts so_far =
    subst (AnswersSalvage range source first after) (became (salvaged.All a why) result is) (
      old.place,
      so_far.0,
      same_written range source old.place so_far.0 first mid after written.0 written.1 counts so_far.1,
      record { place = old.place; finds = so_far.1.found.finds; ends = same_ends source old a why of found },
    )
adds_at_end range source old new first mid after (step.Fault count) result of at is found written counts so_far =
    subst (AnswersSalvage range source first after) (became (salvaged.Fault count) result is)
    (old.place, so_far.0, same_written range source old.place so_far.0 first mid after written.0 written.1 counts so_far.1)
adds_at_end range source old new first mid after step.NoMemory result of at is found written counts so_far =
    subst (AnswersSalvage range source first after) (became salvaged.NoMemory result is)
    (old.place, so_far.0, same_written range source old.place so_far.0 first mid after written.0 written.1 counts so_far.1)
adds_at_end range source old new first mid after step.TooLong result of at is found written counts so_far =
    let bytes = new.reader.in_hand in
    subst (AnswersSalvage range source first after) (became salvaged.TooLong result is) (
      old.place,
      so_far.0,
      same_written range source old.place so_far.0 first mid after written.1.1 written.1.2 counts so_far.1,
      bytes,
      kept_next range source old new found.0 found.1 found.2 so_far.0 so_far.1.records of at found.3 written.0 so_far.1.found,
      subst (λ (log : NewLogState). 2 ^ 63 ≤ log.len + length (text_of log bytes)) (sym written.1.1) written.1.0,
    )
adds_at_end range source old new first mid after step.SinkFailed result of at is found written counts so_far =
    subst (AnswersSalvage range source first after) (became salvaged.SinkFailed result is) (
      mid,
      old.place,
      so_far.0,
      so_far.1,
      new.reader.in_hand,
      kept_next range source old new found.0 found.1 found.2 so_far.0 so_far.1.records of at found.3 written.0 so_far.1.found,
      (counts, written.1.0, written.1.1, written.1.2),
    )

-- ---- what holds where it goes on

pub goes : (s : Step) (P : Type 0) → ended s ≡ None → WhereItGoesOn s P → P
goes (step.Record stretch start end answer) P is p = p
goes step.Passed P is p = p
goes (step.End at why) P is p = absurd (cc is)
goes (step.Fault count) P is p = absurd (cc is)
goes step.SinkFailed P is p = absurd (cc is)
goes step.TooLong P is p = absurd (cc is)
goes step.NoMemory P is p = absurd (cc is)

pub uncaused : (s : Step) (disk now sink fails : ℕ) → ended s ≡ None → HasCauses disk now sink fails s → (now ≡ disk) × (fails ≡ sink)
uncaused (step.Record stretch start end answer) disk now sink fails is causes = causes
uncaused step.Passed disk now sink fails is causes = causes
uncaused (step.End at why) disk now sink fails is causes = absurd (cc is)
uncaused (step.Fault count) disk now sink fails is causes = absurd (cc is)
uncaused step.SinkFailed disk now sink fails is causes = absurd (cc is)
uncaused step.TooLong disk now sink fails is causes = absurd (cc is)
uncaused step.NoMemory disk now sink fails is causes = absurd (cc is)

-- ---- of a disk, whether it tells its bytes or not

abbrev pub source_of : Option ℕ → List ℕ → Source
source_of number file = record { number = number; file = file }

abbrev pub written : NewLogState → Counts → Option (List ℕ) → Written
written log counts taken = record { log = log; counts = counts; taken = taken }

pub if_all : (told : Option (List ℕ)) (P : List ℕ → Type 0) → ((file : List ℕ) → P file) → IfSome told P
if_all None P all = tt
if_all (Some file) P all = all file

-- what a step says of a file
abbrev Says : ScannerState → ScannerState → Step → List ℕ → Type 0
Says old new s file = IsAt file old → IsGoing old → FindsStep file old new s

abbrev Stays : ScannerState → ScannerState → Step → List ℕ → Type 0
Stays old new s file = IsAt file old → IsGoing old → WhereItGoesOn s (IsAt file new)

pub at_told : (told before : Option (List ℕ)) (old new : ScannerState) (s : Step) → before ≡ told → IsGoing old → ended s ≡ None → IfSome told (λ file. IsAt file old) → IfSome before (Stays old new s)
    → IfSome told (λ file. IsAt file new)
at_told None before old new s same going on at stays = tt
at_told (Some file) before old new s same going on at stays = goes s (IsAt file new) on (subst (λ (t : Option (List ℕ)). IfSome t (Stays old new s)) same stays at going)

pub on_told : (told before : Option (List ℕ)) (range now_range : Range) (number : Option ℕ) (old new : ScannerState) (first mid after : Written) (s : Step) → before ≡ told → now_range ≡ range → old.number ≡ number → old.goes_on ≡ true
    → IsGoing old → ended s ≡ None → IfSome before (Says old new s) → WritesStep now_range new.reader.in_hand mid.log after.log mid.taken after.taken s → after.counts ≡ with_step s mid.counts
    → IfSome told (λ file. IsAt file old) → IfSome told (λ file. AddsTo range (source_of number file) old.place first mid) → IfSome told (λ file. AddsTo range (source_of number file) new.place first after)
on_told None before range now_range number old new first mid after s same range_is number_is goes_on going on says writes counts at so_far = tt
on_told (Some file) before range now_range number old new first mid after s same range_is number_is goes_on going on says writes counts at so_far =
    adds_on range (source_of number file) old new first mid after s (record { number = number_is; goes_on = goes_on }) at on (subst (λ (t : Option (List ℕ)). IfSome t (Says old new s)) same says at going)
    (subst (λ (r : Range). WritesStep r new.reader.in_hand mid.log after.log mid.taken after.taken s) range_is writes) counts so_far

pub end_told : (told before : Option (List ℕ)) (range now_range : Range) (number : Option ℕ) (old new : ScannerState) (first mid after : Written) (s : Step) (result : Salvaged) → before ≡ told → now_range ≡ range → old.number ≡ number
    → old.goes_on ≡ true → IsGoing old → ended s ≡ Some result → IfSome before (Says old new s) → WritesStep now_range new.reader.in_hand mid.log after.log mid.taken after.taken s → after.counts ≡ mid.counts
    → IfSome told (λ file. IsAt file old) → IfSome told (λ file. AddsTo range (source_of number file) old.place first mid) → IfSome told (λ file. AnswersSalvage range (source_of number file) first after result)
end_told None before range now_range number old new first mid after s result same range_is number_is goes_on going is says writes counts at so_far = tt
end_told (Some file) before range now_range number old new first mid after s result same range_is number_is goes_on going is says writes counts at so_far =
    adds_at_end range (source_of number file) old new first mid after s result (record { number = number_is; goes_on = goes_on }) at is (subst (λ (t : Option (List ℕ)). IfSome t (Says old new s)) same says at going)
    (subst (λ (r : Range). WritesStep r new.reader.in_hand mid.log after.log mid.taken after.taken s) range_is writes) counts so_far

-- nothing was added yet
pub none_told : (told : Option (List ℕ)) (range : Range) (number : Option ℕ) (place : ℕ) (first : Written) → place ≡ 0 → Appends first.taken first.taken [] → IfSome told (λ file. AddsTo range (source_of number file) place first first)
none_told None range number place first start none = tt
none_told (Some file) range number place first start none = adds_none range (source_of number file) place first start none

pub no_room_told : (told : Option (List ℕ)) (range : Range) (number : Option ℕ) (first : Written) → Appends first.taken first.taken [] → IfSome told (λ file. AnswersSalvage range (source_of number file) first first salvaged.NoMemory)
no_room_told None range number first none = tt
no_room_told (Some file) range number first none = let adds = adds_none range (source_of number file) 0 first refl none in (0, adds.0, adds.1)

pub no_bytes : (taken : Option (List ℕ)) → Appends taken taken []
no_bytes None = tt
no_bytes (Some bytes) = sym (append-nil bytes)
