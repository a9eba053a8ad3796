-- One step of what is shown of a log.
use Rattle.std.specs.Prelude.{◌≡◌, ◌⊎◌, ℕ, ◌<◌, List, [], ◌∷◌, ◌++◌, length, take, Option, Some, None, ⊤}
use Rattle.std.specs.Io.KnownBytes.{Appends}
use Rattle.base_devices.specs.Faults.{Rose}
use Rattle.model_base.specs.declared.log.EndReason.{EndReason}
use Rattle.batch_operations.specs.Shown.{ShownRecord, Shows}
use Rattle.log_scan.specs.Scanner.{IsAt, ScannerState}
use Rattle.log_scan.specs.Scanning.{Item, Finds, Ends, whole, unread}
use Rattle.log_scan.specs.declared.scanner.Unread.{Unread}
use Rattle.list_text.specs.Lines.{unread_line, end_line}
use Rattle.list_text.specs.declared.form.Form.{Form}
use Rattle.list_log.specs.Texts.{IsText, last_after, place_of, record_lines}
use Rattle.list_log.specs.declared.listing.Listed.{Listed}
use Rattle.list_log.specs.declared.listing.Listed.TheVariants as listed
use Rattle.list_log.specs.declared.settings.Settings.{Settings}

-- what is shown, the scanner, the last sequence so far, and the lines of the step
pub record State : Type 0 where
  pub settings : Settings
  pub scanner : ScannerState
  pub last : Option ℕ
  pub text : List ℕ

-- what one step finds: nothing, a record, or a record after a stretch
abbrev pub IsStep : List Item → Type 0
IsStep [] = ⊤
IsStep (whole start end bytes ∷ []) = ⊤
IsStep (unread u ∷ whole start end bytes ∷ []) = ⊤
IsStep other = ⊥

-- Between the places of two moments these items are found, a record at most and the stretch before it, and the text is
-- theirs.
pub record ShowsBetween (file : List ℕ) (old new : State) (text : List ℕ) : Type 0 where
  pub items : List Item
  pub few : IsStep items
  pub finds : Finds old.scanner.number old.scanner.goes_on file old.scanner.place items new.scanner.place
  pub text_is : IsText old.settings old.last items text new.last
  pub stays : IsAt file new.scanner

-- the text that a step would write from here: that of the next items, or that of the end
abbrev pub StepText : List ℕ → State → List ℕ → Type 0
StepText file old text = ((new : State) × ShowsBetween file old new text)
    ⊎ ((at : ℕ) × (why : EndReason) × Ends old.scanner.number old.scanner.goes_on file old.scanner.place at why
    × (text ≡ end_line old.settings.form at why))

-- A step that found something wrote exactly its text; the last one wrote the end. A sink that failed took a part of it,
-- not all; and if the disk failed or memory ran out nothing was written.
abbrev pub AnswersStep : List ℕ → State → State → Option (List ℕ) → Option (List ℕ) → Listed → Type 0
AnswersStep file old new before after listed.More =
    (text : List ℕ) × ShowsBetween file old new text × Appends before after text
AnswersStep file old new before after (listed.End at why) =
    Ends old.scanner.number old.scanner.goes_on file old.scanner.place at why
    × Appends before after (end_line old.settings.form at why)
AnswersStep file old new before after listed.SinkFailed = (n : ℕ) × (text : List ℕ) × (n < length text)
    × StepText file old text × Appends before after (take n text)
AnswersStep file old new before after (listed.Fault count) = after ≡ before
AnswersStep file old new before after listed.NoMemory = after ≡ before

-- the line of a stretch, if there is one
abbrev pub stretch_lines : Form → Option Unread → List ℕ
stretch_lines form None = []
stretch_lines form (Some u) = unread_line form u

-- The last sequence and the lines of the record in hand, with the stretch before it.
pub record HasLines (old : State) (stretch : Option Unread) (start end : ℕ) (last : Option ℕ) (text : List ℕ)
    : Type 0 where
  pub shown : ShownRecord
  pub shows : Shows old.scanner.reader.in_hand shown
  pub last_is : last ≡ last_after old.last shown.head
  pub text_is : text ≡ stretch_lines old.settings.form stretch
      ++ record_lines old.settings old.last (place_of start end old.scanner.reader.in_hand) shown

-- the text was written whole, and the answer is the one that was meant; or the sink failed, and took a part of it
abbrev pub Writes : List ℕ → Listed → Option (List ℕ) → Option (List ℕ) → ℕ → ℕ → Listed → Type 0
Writes text done before after failed fails result =
    ((result ≡ done) × Appends before after text × (fails ≡ failed))
    ⊎ ((result ≡ listed.SinkFailed) × Rose failed fails
    × ((n : ℕ) × (n < length text) × Appends before after (take n text)))

-- or there was no memory for it, and nothing was written
abbrev pub WritesIfRoom : List ℕ → Listed → Option (List ℕ) → Option (List ℕ) → ℕ → ℕ → Listed → Type 0
WritesIfRoom text done before after failed fails result = Writes text done before after failed fails result
    ⊎ ((result ≡ listed.NoMemory) × (after ≡ before) × (fails ≡ failed))

-- the lines of the record in hand were written
abbrev pub WritesRecord : State → State → Option Unread → ℕ → ℕ → Option (List ℕ) → Option (List ℕ) → ℕ → ℕ → Listed
    → Type 0
WritesRecord old new stretch start end before after failed fails result =
    (HasLines old stretch start end new.last new.text × Writes new.text listed.More before after failed fails result)
    ⊎ ((result ≡ listed.NoMemory) × (after ≡ before) × (fails ≡ failed))

-- A count of faults rose with the fault that is answered, and stayed with any other answer. A fault of the disk is the
-- count that it then has.
abbrev pub HasCauses : ℕ → ℕ → ℕ → ℕ → Listed → Type 0
HasCauses disk_before disk_now sink_before sink_now listed.More =
    (disk_now ≡ disk_before) × (sink_now ≡ sink_before)
HasCauses disk_before disk_now sink_before sink_now (listed.End at why) =
    (disk_now ≡ disk_before) × (sink_now ≡ sink_before)
HasCauses disk_before disk_now sink_before sink_now (listed.Fault count) =
    Rose disk_before count × (count ≡ disk_now) × (sink_now ≡ sink_before)
HasCauses disk_before disk_now sink_before sink_now listed.SinkFailed =
    (disk_now ≡ disk_before) × Rose sink_before sink_now
HasCauses disk_before disk_now sink_before sink_now listed.NoMemory =
    (disk_now ≡ disk_before) × (sink_now ≡ sink_before)

-- this holds where a listing may be asked again
abbrev pub WhereItGoesOn : Listed → Type 0 → Type 0
WhereItGoesOn listed.More P = P
WhereItGoesOn (listed.End at why) P = ⊤
WhereItGoesOn (listed.Fault count) P = ⊤
WhereItGoesOn listed.SinkFailed P = ⊤
WhereItGoesOn listed.NoMemory P = ⊤
