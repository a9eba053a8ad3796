-- What is found in a file, by reading on after damage or without. Where a definition takes `number` first, that is the
-- log's number, if it has one; `goes_on` says whether reading goes on after damage.
--
-- This is shown, and not recovered: between two records that are found something may be missing.
use Rattle.std.specs.Prelude.{◌≡◌, ℕ, Bool, List, [], ◌∷◌, ◌++◌, Option, Some, None, if◌then◌else◌}
use Rattle.model_base.specs.declared.log.EndReason.{EndReason}
use Rattle.model_base.specs.Reading.{IsRecord, ReadingEnds}
use Rattle.log_scan.specs.Resuming.{resumes_at}
use Rattle.log_scan.specs.declared.scanner.Lost.{Lost}
use Rattle.log_scan.specs.declared.scanner.Unread.{Unread}

-- what is found: a record, with the places where it begins and ends and its bytes; or a stretch in which none reads
pub data Item : Type 0 where
  whole : ℕ → ℕ → List ℕ → Item
  unread : Unread → Item

-- where reading is tried again, if it goes on after damage
abbrev pub later_place : Option ℕ → Bool → List ℕ → ℕ → EndReason → Option ℕ
later_place number goes_on file at why = if goes_on then resumes_at number file at why else None

-- From a place on no record reads, and reading was tried again, the last time at `here`. `lost` is where and why it
-- ended first, and `None` if it never did.
pub data Skips (number : Option ℕ) (goes_on : Bool) (file : List ℕ) (from : ℕ) : ℕ → Option Lost → Type 0 where
  not_skipped : Skips number goes_on file from from None
  skipped_first : {at here : ℕ} {why : EndReason} → ReadingEnds number file from at why
      → later_place number goes_on file at why ≡ Some here
      → Skips number goes_on file from here (Some (record { at = at; why = why }))
  skipped_again : {before at here : ℕ} {why : EndReason} {lost : Lost}
      → Skips number goes_on file from before (Some lost)
      → ReadingEnds number file before at why → later_place number goes_on file at why ≡ Some here
      → Skips number goes_on file from here (Some lost)

-- the items that a record makes: before it the stretch since the record before it, if something was skipped
abbrev pub items_with : Option Lost → ℕ → ℕ → ℕ → List ℕ → List Item
items_with None from start end bytes = whole start end bytes ∷ []
items_with (Some lost) from start end bytes =
    unread (record { from = from; to = start; at = lost.at; why = lost.why }) ∷ whole start end bytes ∷ []

-- Between a place and a later one, the end of a record, these items are found.
pub data Finds (number : Option ℕ) (goes_on : Bool) (file : List ℕ) (from : ℕ) : List Item → ℕ → Type 0 where
  found_none : Finds number goes_on file from [] from
  found_more : {items : List Item} {place here start end : ℕ} {lost : Option Lost} {bytes : List ℕ}
      → Finds number goes_on file from items place → Skips number goes_on file place here lost
      → IsRecord number file here start end bytes
      → Finds number goes_on file from (items ++ items_with lost place start end bytes) end

-- the first end since the last record
abbrev pub first_end : Option Lost → Lost → Lost
first_end None end = end
first_end (Some lost) end = lost

-- After this place no record is found, and like this reading first ended.
pub record Ends (number : Option ℕ) (goes_on : Bool) (file : List ℕ) (place at : ℕ) (why : EndReason) : Type 0 where
  pub here : ℕ
  pub lost : Option Lost
  pub skips : Skips number goes_on file place here lost
  pub last : Lost
  pub ends : ReadingEnds number file here last.at last.why
  pub no_more : later_place number goes_on file last.at last.why ≡ None
  pub first_is : first_end lost last ≡ record { at = at; why = why }

-- all that is found in a file, and the end
pub record Scan : Type 0 where
  pub items : List Item
  pub at : ℕ
  pub why : EndReason

pub record IsScan (number : Option ℕ) (goes_on : Bool) (file : List ℕ) (scan : Scan) : Type 0 where
  pub place : ℕ
  pub finds : Finds number goes_on file 0 scan.items place
  pub ends : Ends number goes_on file place scan.at scan.why
