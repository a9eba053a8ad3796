-- What is counted of a log, in place of showing it.
use Rattle.std.specs.Prelude.{◌≡◌, ◌⊎◌, ℕ, ◌+◌, ◌-◌, ◌^◌, ◌&&◌, ◌==◌, min, Bool, List, [], ◌∷◌, ◌++◌, take, filter, fold, flat_map, nat_eq, Option, Some, None, Result, Ok, Err, if◌then◌else◌}
use Rattle.std.specs.List.{list_any}
use Rattle.std.specs.Option.{option_eq, option_or}
use Rattle.std.specs.Io.KnownBytes.{Appends}
use Rattle.base_devices.specs.Faults.{Rose}
use Rattle.model_base.specs.declared.batch.BatchError.{BatchError}
use Rattle.model_base.specs.declared.log.EndReason.{EndReason}
use Rattle.batch_operations.specs.Operations.{Operation}
use Rattle.batch_operations.specs.Shown.{ShownRecord, Shows, Have}
use Rattle.batch_operations.specs.declared.head.Head.{Head}
use Rattle.log_scan.specs.Scanning.{Item, Scan, IsScan, whole, unread}
use Rattle.log_scan.specs.declared.scanner.Found.{Found}
use Rattle.log_scan.specs.declared.scanner.Found.TheVariants as found
use Rattle.log_scan.specs.declared.scanner.Lost.{Lost}
use Rattle.log_scan.specs.declared.scanner.Unread.{Unread}
use Rattle.list_text.specs.Lines.{records_line, sequences_line, count_line, stretches_line, end_line}
use Rattle.list_text.specs.declared.form.Form.{Form}
use Rattle.list_log.specs.Texts.{front_of, last_after}
use Rattle.list_log.specs.Wanted.{is_shown, is_wanted, key_in}
use Rattle.list_log.specs.declared.settings.Settings.{Settings}
use Rattle.list_log.specs.declared.showing.Shown.{Shown}
use Rattle.list_log.specs.declared.showing.Shown.TheVariants as shown
use Rattle.list_log.specs.declared.summary.CountError.{CountError}
use Rattle.list_log.specs.declared.summary.CountError.TheVariants as failed
use Rattle.list_log.specs.declared.tallies.Tally.{Tally}
use Rattle.list_log.specs.declared.totals.Totals.{Totals}

-- a count that stops at the greatest u64
abbrev pub at_most : ℕ → ℕ
at_most n = min n (2 ^ 64 - 1)

-- a count is of this tag, and of this family or of none
abbrev pub is_of : ℕ → Option ℕ → Tally → Bool
is_of tag family t = (t.tag == tag) && option_eq nat_eq t.family family

abbrev pub one_more : Tally → Tally
one_more t = record t { count = at_most (t.count + 1) }

abbrev pub first_one : ℕ → Option ℕ → Tally
first_one tag family = record { tag = tag; family = family; count = 1 }

-- the counts with one more of this tag and family; a kind that hadn't come yet is added at the end
abbrev pub counted : ℕ → Option ℕ → List Tally → List Tally
counted tag family [] = first_one tag family ∷ []
counted tag family (t ∷ tallies) =
    if is_of tag family t then one_more t ∷ tallies else t ∷ counted tag family tallies

abbrev pub all_counted : List Operation → List Tally → List Tally
all_counted operations tallies = fold (λ ts (o : Operation). counted o.tag o.family ts) tallies operations

-- the counts with an operation, if it would be shown
abbrev pub with_wanted : Settings → Operation → List Tally → List Tally
with_wanted settings o tallies =
    if is_wanted (key_in settings) o then counted o.tag o.family tallies else tallies

abbrev pub nothing : Totals
nothing = record { records = 0; first = None; last = None; tallies = []; stretches = 0; bytes = 0 }

-- the first sequence of a record, if it takes some
abbrev pub first_of : Option Head → Option ℕ
first_of None = None
first_of (Some head) = if head.count == 0 then None else Some head.sequence

abbrev pub with_head : Option Head → Totals → Totals
with_head head t = record t {
  records = at_most (t.records + 1);
  first = option_or t.first (first_of head);
  last = last_after t.last head;
}

abbrev pub with_stretch : Unread → Totals → Totals
with_stretch u t = record t { stretches = at_most (t.stretches + 1); bytes = at_most (t.bytes + (u.to - u.from)) }

-- the same, if there is a stretch
abbrev pub with_unread : Option Unread → Totals → Totals
with_unread None t = t
with_unread (Some u) t = with_stretch u t

-- the totals with a record, if it would be shown
abbrev pub with_record : Settings → ShownRecord → Totals → Totals
with_record settings shown t = if is_shown settings shown
    then with_head shown.head
    (record t { tallies = all_counted (filter (is_wanted (key_in settings)) shown.operations) t.tallies }) else t

-- the operations of these bytes that would be shown are counted, and whether there is one
pub record CountsBody (settings : Settings) (body : List ℕ) (old new : Totals) (any : Bool) : Type 0 where
  pub operations : List Operation
  pub broken : Option BatchError
  pub have : Have body operations broken
  pub new_is : new
      ≡ record old { tallies = all_counted (filter (is_wanted (key_in settings)) operations) old.tallies }
  pub any_is : any ≡ list_any (is_wanted (key_in settings)) operations

-- a record with this head was counted, if it would be shown
pub record CountsBatch (settings : Settings) (head : Head) (body : List ℕ) (old new : Totals) : Type 0 where
  pub operations : List Operation
  pub broken : Option BatchError
  pub have : Have body operations broken
  pub new_is : new ≡ with_record settings (record { head = Some head; operations = operations; fault = broken }) old

-- what was found was counted
abbrev pub CountsFound : Settings → Found → List ℕ → Totals → Totals → Type 0
CountsFound settings (found.Record stretch start end) bytes old new =
    (shown : ShownRecord) × Shows bytes shown × (new ≡ with_record settings shown (with_unread stretch old))
CountsFound settings found.Passed bytes old new = new ≡ old
CountsFound settings (found.End at why) bytes old new = new ≡ old
CountsFound settings (found.Fault count) bytes old new = new ≡ old
CountsFound settings found.NoMemory bytes old new = new ≡ old

-- how counting ended with this, if it did
abbrev pub counted_end : Found → Option (Result Lost CountError)
counted_end (found.Record stretch start end) = None
counted_end found.Passed = None
counted_end (found.End at why) = Some (Ok (record { at = at; why = why }))
counted_end (found.Fault count) = Some (Err (failed.Fault count))
counted_end found.NoMemory = Some (Err failed.NoMemory)

-- a fault is one of the disk: its count of faults rose, and this is what it is
abbrev pub IsCountError : ℕ → ℕ → CountError → Type 0
IsCountError before now (failed.Fault count) = Rose before count × (count ≡ now)
IsCountError before now failed.NoMemory = now ≡ before

-- These are the totals of items, after those that were counted before.
pub data AreTotals (settings : Settings) : Totals → List Item → Totals → Type 0 where
  no_totals : {t : Totals} → AreTotals settings t [] t
  with_one : {t after : Totals} {start end : ℕ} {bytes : List ℕ} {items : List Item} {shown : ShownRecord}
      → Shows bytes shown → AreTotals settings (with_record settings shown t) items after
      → AreTotals settings t (whole start end bytes ∷ items) after
  with_skipped : {t after : Totals} {u : Unread} {items : List Item}
      → AreTotals settings (with_stretch u t) items after → AreTotals settings t (unread u ∷ items) after

-- all that is found in a file was counted, and this is the end
pub record CountsAll (settings : Settings) (number : Option ℕ) (file : List ℕ) (old new : Totals) (end : Lost)
    : Type 0 where
  pub items : List Item
  pub is : IsScan number settings.scan file (record { items = items; at = end.at; why = end.why })
  pub are : AreTotals settings old items new

abbrev pub both : Option ℕ → Option ℕ → Option (ℕ × ℕ)
both (Some first) (Some last) = Some (first, last)
both _ _ = None

abbrev pub count_lines : Form → List Tally → List ℕ
count_lines form tallies = flat_map (λ (y : Tally). count_line form y.tag y.family y.count) tallies

-- only a scan has stretches
abbrev pub all_stretches : Settings → Totals → List ℕ
all_stretches settings t = if settings.scan then stretches_line settings.form t.stretches t.bytes else []

-- the text of the totals and of the end
abbrev pub totals_text : Settings → Totals → ℕ → EndReason → List ℕ
totals_text settings t at why = front_of settings ++ records_line settings.form t.records
    ++ sequences_line settings.form (both t.first t.last) ++ count_lines settings.form t.tallies
    ++ all_stretches settings t ++ end_line settings.form at why

-- the text of what is counted of a file, read with this number or with none
pub record IsSummary (settings : Settings) (number : Option ℕ) (file text : List ℕ) : Type 0 where
  pub scan : Scan
  pub is : IsScan number settings.scan file scan
  pub totals : Totals
  pub are : AreTotals settings nothing scan.items totals
  pub text_is : text ≡ totals_text settings totals scan.at scan.why

-- The whole text was written, or a part of it if the sink failed, and otherwise nothing.
abbrev pub AnswersSummary : Settings → Option ℕ → List ℕ → Option (List ℕ) → Option (List ℕ) → Shown → Type 0
AnswersSummary settings number file before after (shown.All at why) = (text : List ℕ)
    × (is : IsSummary settings number file text) × (is.scan.at ≡ at) × (is.scan.why ≡ why) × Appends before after text
AnswersSummary settings number file before after shown.SinkFailed = (text : List ℕ) × (n : ℕ)
    × IsSummary settings number file text × Appends before after (take n text)
AnswersSummary settings number file before after (shown.Fault count) = after ≡ before
AnswersSummary settings number file before after shown.NoMemory = after ≡ before

abbrev pub WritesTotals : List ℕ → ℕ → EndReason → Option (List ℕ) → Option (List ℕ) → ℕ → ℕ → Shown → Type 0
WritesTotals text at why before after failed fails result =
    ((result ≡ shown.All at why) × Appends before after text × (fails ≡ failed))
    ⊎ ((result ≡ shown.SinkFailed) × Rose failed fails × ((n : ℕ) × Appends before after (take n text)))
    ⊎ ((result ≡ shown.NoMemory) × (after ≡ before) × (fails ≡ failed))
