-- The text of what is shown of a log.
use Rattle.std.specs.Prelude.{◌≡◌, ℕ, ◌+◌, ◌-◌, ◌==◌, Bool, not, List, [], ◌∷◌, ◌++◌, length, max, filter, nat_le, nat_lt, Option, Some, None, if◌then◌else◌}
use Rattle.std.specs.List.{list_any}
use Rattle.model_base.specs.declared.batch.BatchError.{BatchError}
use Rattle.model_base.specs.declared.batch.BatchError.TheVariants.{Count}
use Rattle.batch_operations.specs.Operations.{Operation}
use Rattle.batch_operations.specs.Shown.{ShownRecord, Shows, Have, shown_short, with_count}
use Rattle.batch_operations.specs.declared.head.Head.{Head}
use Rattle.log_scan.specs.Scanning.{Item, Scan, IsScan, Finds, whole, unread}
use Rattle.log_scan.specs.declared.scanner.Unread.{Unread}
use Rattle.list_text.specs.Lines.{record_text, operation_text, operations_text, gap_line, order_line, unread_line, end_line, scan_front}
use Rattle.list_text.specs.declared.form.Form.{Form}
use Rattle.list_text.specs.declared.form.RecordPlace.{RecordPlace}
use Rattle.list_log.specs.Wanted.{chosen, is_shown, is_wanted, key_in, last_of}
use Rattle.list_log.specs.declared.settings.Settings.{Settings}

-- ---- sequences

-- the greater of the last sequence so far, if there is one, and another one
abbrev greatest : Option ℕ → ℕ → ℕ
greatest None sequence = sequence
greatest (Some last) sequence = max last sequence

-- the last sequence so far, which is the greatest one, after a record; one of which none counts leaves it as it was
abbrev pub last_after : Option ℕ → Option Head → Option ℕ
last_after last None = last
last_after last (Some head) = if head.count == 0 then last else Some (greatest last (last_of head))

-- what is between a last sequence and a record's first one
abbrev pub step : Form → ℕ → ℕ → List ℕ
step form last first = if nat_le first last then order_line form first last
    else if nat_lt (last + 1) first then gap_line form (last + 1) (first - 1) else []

abbrev pub between : Form → Option ℕ → Head → List ℕ
between form None head = []
between form (Some last) head = if head.count == 0 then [] else step form last head.sequence

-- the same of a record that may have no head
abbrev before_record : Form → Option ℕ → Option Head → List ℕ
before_record form last None = []
before_record form last (Some head) = between form last head

-- ---- a record

abbrev pub count_fault : ℕ → ℕ → Option BatchError
count_fault said found = if said == found then None else Some (Count said found)

-- the text of the operations that are shown of these bytes, whether there are some, and what is wrong with the bytes
pub record TellsBody (settings : Settings) (said : ℕ) (body old new : List ℕ) (any : Bool) (fault : Option BatchError)
    : Type 0 where
  pub operations : List Operation
  pub broken : Option BatchError
  pub have : Have body operations broken
  pub text : new ≡ old ++ operations_text settings.form (filter (is_wanted (key_in settings)) operations)
  pub any_is : any ≡ list_any (is_wanted (key_in settings)) operations
  pub fault_is : fault ≡ with_count said operations broken

-- what is said before a record; gaps are named only in a scan
abbrev pub gap_lines : Settings → Option ℕ → Option Head → List ℕ
gap_lines settings last head = if settings.scan then before_record settings.form last head else []

-- the text of an operation, if it is shown; `any` says whether one was shown before it
abbrev pub wanted_text : Settings → Bool → Operation → List ℕ
wanted_text settings any o =
    if is_wanted (key_in settings) o then operation_text settings.form (not any) o else []

-- the lines of a record that is shown
abbrev pub all_lines : Settings → Option ℕ → RecordPlace → ShownRecord → List ℕ
all_lines settings last place shown = gap_lines settings last shown.head
    ++ record_text settings.form place (chosen (key_in settings) shown)

-- the lines of a record, if it is shown
abbrev pub record_lines : Settings → Option ℕ → RecordPlace → ShownRecord → List ℕ
record_lines settings last place shown = if is_shown settings shown then all_lines settings last place shown else []

-- those of a record of fewer bytes than a head
abbrev pub short_lines : Settings → RecordPlace → List ℕ
short_lines settings place = record_lines settings None place shown_short

-- what a record with this head and these operations shows
abbrev pub shown_of : Head → List Operation → Option BatchError → ShownRecord
shown_of head operations broken = record {
  head = Some head;
  operations = operations;
  fault = with_count head.count operations broken;
}

-- All lines of a record with this head were appended, and `any` says whether one of its operations is shown.
pub record TellsWhole (settings : Settings) (last : Option ℕ) (place : RecordPlace) (head : Head)
    (body old new : List ℕ) (any : Bool) : Type 0 where
  pub operations : List Operation
  pub broken : Option BatchError
  pub have : Have body operations broken
  pub any_is : any ≡ list_any (is_wanted (key_in settings)) operations
  pub text : new ≡ old ++ all_lines settings last place (shown_of head operations broken)

-- the lines of a record with this head were appended, if it is shown
pub record TellsBatch (settings : Settings) (last : Option ℕ) (place : RecordPlace) (head : Head)
    (body old new : List ℕ) : Type 0 where
  pub operations : List Operation
  pub broken : Option BatchError
  pub have : Have body operations broken
  pub text : new ≡ old ++ record_lines settings last place (shown_of head operations broken)

-- where a record is, and how many bytes it has
abbrev pub place_of : ℕ → ℕ → List ℕ → RecordPlace
place_of start end bytes = record { start = start; end = end; size = length bytes }

-- ---- several

-- This is the text of items, where the last sequence before them is the first one, and after them the second.
pub data IsText (settings : Settings) : Option ℕ → List Item → List ℕ → Option ℕ → Type 0 where
  no_items : {last : Option ℕ} → IsText settings last [] [] last
  with_record : {last after : Option ℕ} {start end : ℕ} {bytes text : List ℕ} {items : List Item} {shown : ShownRecord}
      → Shows bytes shown → IsText settings (last_after last shown.head) items text after
      → IsText settings last (whole start end bytes ∷ items)
      (record_lines settings last (place_of start end bytes) shown ++ text) after
  with_stretch : {last after : Option ℕ} {stretch : Unread} {text : List ℕ} {items : List Item}
      → IsText settings last items text after
      → IsText settings last (unread stretch ∷ items) (unread_line settings.form stretch ++ text) after

-- the first line, if there is one
abbrev pub front_of : Settings → List ℕ
front_of settings = if settings.scan then scan_front settings.form else []

-- The whole text of what is shown of a file, read with this number or with none.
pub record IsListing (settings : Settings) (number : Option ℕ) (file text : List ℕ) : Type 0 where
  pub scan : Scan
  pub is : IsScan number settings.scan file scan
  pub last : Option ℕ
  pub lines : List ℕ
  pub of_items : IsText settings None scan.items lines last
  pub text_is : text ≡ front_of settings ++ lines ++ end_line settings.form scan.at scan.why

-- The text of the first items of what is shown of a file, whole lines: reading was ended by a fault, or memory ran out.
pub record IsListingFront (settings : Settings) (number : Option ℕ) (file text : List ℕ) : Type 0 where
  pub place : ℕ
  pub items : List Item
  pub finds : Finds number settings.scan file 0 items place
  pub last : Option ℕ
  pub lines : List ℕ
  pub of_items : IsText settings None items lines last
  pub text_is : text ≡ front_of settings ++ lines
