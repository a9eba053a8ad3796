-- The calls of a scan, one after another.
use Rattle.std.specs.Prelude.{◌≡◌, ℕ, List, [], ◌∷◌, ◌++◌, Option, Some, None}
use Rattle.model_base.specs.declared.log.EndReason.{EndReason}
use Rattle.log_scan.specs.Scanner.{IsAt}
use Rattle.log_scan.specs.Scanning.{Item, whole, unread}
use Rattle.log_scan.specs.declared.scanner.Unread.{Unread}
use Rattle.log_in_memory.specs.Scans.{ScansOn}
use Rattle.log_in_memory.specs.declared.scanning.Scan.{Scan}
use Rattle.log_in_memory.specs.declared.scanning.Scanned.TheVariants as scanned

-- what an answer shows: the stretch before the record, if there is one, and the record
abbrev pub items_shown : Option Unread → ℕ → ℕ → List ℕ → List Item
items_shown None start end bytes = whole start end bytes ∷ []
items_shown (Some stretch) start end bytes = unread stretch ∷ whole start end bytes ∷ []

-- Each of some calls, one after another, found a record, and together they showed these items.
pub data HasShown (file : List ℕ) (first : Scan) : List Item → Scan → Type 0 where
  not_asked : HasShown file first [] first
  one_more : {items : List Item} {old new : Scan} {stretch : Option Unread} {start end : ℕ}
      → HasShown file first items old → ScansOn file old new (scanned.Record stretch start end)
      → HasShown file first (items ++ items_shown stretch start end new.scanner.reader.in_hand) new

-- a scan that had found nothing yet showed these items, and then ended like this
pub record ScansAll (file : List ℕ) (first : Scan) (items : List Item) (at : ℕ) (why : EndReason) : Type 0 where
  pub new : first.last ≡ None
  pub is_at : IsAt file first.scanner
  pub last : Scan
  pub shown : HasShown file first items last
  pub ended : Scan
  pub ends : ScansOn file last ended (scanned.End at why)
