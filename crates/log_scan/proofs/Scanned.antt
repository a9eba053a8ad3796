-- What a call of a scanner answers, where the disk tells its content.
use Rattle.std.proofs.Common.{◌≡◌, ℕ, List, Option, Some, None, refl, sym, ◌∙◌, subst}
use Rattle.std.specs.Option.{unwrap_or}
use Rattle.model_base.specs.Reading.{IsRecord, ReadingEnds}
use Rattle.log_reader.specs.declared.reader.Next.{Next}
use Rattle.log_reader.specs.Reader.{Reader, Follows}
use Rattle.log_reader.specs.Records.{Reads}
use Rattle.log_scan.specs.declared.scanner.Found.{Found}
use Rattle.log_scan.specs.declared.scanner.Found.TheVariants as found
use Rattle.log_scan.specs.declared.scanner.Lost.{Lost}
use Rattle.log_scan.specs.declared.scanner.Unread.{Unread}
use Rattle.log_scan.specs.Scanning.{not_skipped, first_end}
use Rattle.log_scan.specs.Scanner.{ScannerState, AnswersScan, IsAt, IsGoing, Passes, WhereItGoesOn, unread_before}
use Rattle.log_scan.proofs.Skipping.{skips_more, ends_there}

-- the reader's answer is what reading the file from the scanner's place gives
pub reads_here : (file : List ℕ) (inside s : ScannerState) (in_hand : List ℕ) (answer : Next) → inside ≡ s → IsGoing s → IsAt file s → inside.reader.number ≡ inside.number
    → (Follows file inside.reader → inside.reader.stopped ≡ None → Reads inside.reader.number file inside.reader.place in_hand answer) → Reads s.number file s.here in_hand answer
reads_here file inside s in_hand answer same going at numbered reads =
    let at_inside = subst (IsAt file) (sym same) at in
    let is_going = subst IsGoing (sym same) going in
    subst (λ (s : ScannerState). Reads s.number file s.here in_hand answer) same
    (subst (λ (n : Option ℕ). Reads n file inside.here in_hand answer) numbered
    (subst (λ (place : ℕ). Reads inside.reader.number file place in_hand answer) at_inside.there (reads at_inside.follows is_going.going)))

-- the scanner after a record, which its reader has read
abbrev pub after_record : ScannerState → Reader → ℕ → ScannerState
after_record s reader end = record s { reader = reader; place = end; here = end; lost = None }

pub finds_record : (file : List ℕ) (old new : ScannerState) (reader : Reader) (start end : ℕ) (result : Found) → new ≡ after_record old reader end → result ≡ found.Record (unread_before old.lost old.place start) start end
    → IsRecord old.number file old.here start end reader.in_hand → AnswersScan file old new result
finds_record file old new reader start end result now is read =
    subst (λ (s : ScannerState). AnswersScan file old s result) (sym now)
    (subst (λ (r : Found). AnswersScan file old (after_record old reader end) r) (sym is) (record { is = read; stretch = refl; place = refl; nothing_lost = refl }))

-- then it is at the record's end, and nothing was lost since
pub is_after : (file : List ℕ) (old new : ScannerState) (reader : Reader) (start end : ℕ) (unread : Option Unread) (result : Found) → new ≡ after_record old reader end → result ≡ found.Record unread start end
    → Follows file reader → reader.place ≡ end → WhereItGoesOn result (IsAt file new)
is_after file old new reader start end unread result now is follows there =
    subst (λ (s : ScannerState). WhereItGoesOn result (IsAt file s)) (sym now)
    (subst (λ (r : Found). WhereItGoesOn r (IsAt file (after_record old reader end))) (sym is) (record { follows = follows; there = there; skips = not_skipped }))

-- an end of reading is passed over, or is the end of the scan
pub passes_on : (file : List ℕ) (old new : ScannerState) (reader : Reader) (end : Lost) (result : Found) → IsAt file old → ReadingEnds old.number file old.here end.at end.why → Passes file (record old { reader = reader }) new end result → AnswersScan file old new result
passes_on file old new reader end found.Passed at ends passes = passes.2.place_is
passes_on file old new reader end (found.End place why) at ends passes = ends_there old.number old.goes_on file old.place old.here place why old.lost end at.skips ends passes.0 passes.1
passes_on file old new reader end (found.Fault count) at ends passes = tt
passes_on file old new reader end found.NoMemory at ends passes = tt
passes_on file old new reader end (found.Record unread start place) at ends passes = absurd passes

pub passes_at : (file : List ℕ) (old new : ScannerState) (reader : Reader) (end : Lost) (result : Found) → new.number ≡ old.number → new.goes_on ≡ old.goes_on → IsAt file old → ReadingEnds old.number file old.here end.at end.why
    → Passes file (record old { reader = reader }) new end result → WhereItGoesOn result (IsAt file new)
passes_at file old new reader end found.Passed number goes_on at ends passes =
    let begins = passes.2 in
    record {
      follows = begins.follows;
      there = begins.there ∙ sym begins.here;
      skips = rw (number, goes_on, begins.place_is, begins.here, begins.lost) (skips_more old.number old.goes_on file old.place old.here passes.0 old.lost end at.skips ends passes.1);
    }
passes_at file old new reader end (found.End place why) number goes_on at ends passes = tt
passes_at file old new reader end (found.Fault count) number goes_on at ends passes = tt
passes_at file old new reader end found.NoMemory number goes_on at ends passes = tt
passes_at file old new reader end (found.Record unread start place) number goes_on at ends passes = absurd passes

-- the first end since the last record, as the code picks it
pub first_is : (lost : Option Lost) (end first : Lost) → first ≡ unwrap_or lost end → first ≡ first_end lost end
first_is None end first is = is
first_is (Some lost) end first is = is
