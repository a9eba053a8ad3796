-- What is shown of a file from its parts: each line is worked out alone, and the whole text never.
use Rattle.std.proofs.Common.{◌≡◌, ℕ, List, [], ◌∷◌, ◌++◌, Option, None, sym, ◌∙◌, ap, ap₂, subst, append_assoc, append-nil}
use Rattle.batch_operations.specs.Shown.{ShownRecord, Shows}
use Rattle.log_scan.specs.Scanning.{Item, Scan, IsScan, whole, unread}
use Rattle.log_scan.specs.declared.scanner.Unread.{Unread}
use Rattle.list_text.specs.Lines.{unread_line, end_line}
use Rattle.list_log.specs.Texts.{IsListing, IsText, no_items, with_record, with_stretch, record_lines, place_of, last_after, front_of}
use Rattle.list_log.specs.Totals.{AreTotals, IsSummary, nothing, totals_text, with_one, with_skipped}
use Rattle.list_log.specs.Totals as counting
use Rattle.list_log.specs.declared.settings.Settings.{Settings}
use Rattle.list_log.specs.declared.totals.Totals.{Totals}

-- ---- the text of items

pub last_record : (settings : Settings) (last : Option ℕ) (start end : ℕ) (bytes line : List ℕ) (shown : ShownRecord) → Shows bytes shown
    → record_lines settings last (place_of start end bytes) shown ≡ line → IsText settings last (whole start end bytes ∷ []) line (last_after last shown.head)
last_record settings last start end bytes line shown shows is =
    subst (λ (t : List ℕ). IsText settings last (whole start end bytes ∷ []) t (last_after last shown.head)) (append-nil (record_lines settings last (place_of start end bytes) shown) ∙ is) (with_record shows no_items)

pub record_before : (settings : Settings) (last after : Option ℕ) (start end : ℕ) (bytes line text : List ℕ) (items : List Item) (shown : ShownRecord) → Shows bytes shown
    → record_lines settings last (place_of start end bytes) shown ≡ line → IsText settings (last_after last shown.head) items text after → IsText settings last (whole start end bytes ∷ items) (line ++ text) after
record_before settings last after start end bytes line text items shown shows is rest = subst (λ (t : List ℕ). IsText settings last (whole start end bytes ∷ items) (t ++ text) after) is (with_record shows rest)

pub stretch_before : (settings : Settings) (last after : Option ℕ) (stretch : Unread) (line text : List ℕ) (items : List Item) → unread_line settings.form stretch ≡ line → IsText settings last items text after
    → IsText settings last (unread stretch ∷ items) (line ++ text) after
stretch_before settings last after stretch line text items is rest = subst (λ (t : List ℕ). IsText settings last (unread stretch ∷ items) (t ++ text) after) is (with_stretch rest)

-- the whole text, with its first line, or none, and its last one
pub listing : (settings : Settings) (number : Option ℕ) (file : List ℕ) (found : Scan) (last : Option ℕ) (front lines back : List ℕ) → IsScan number settings.scan file found
    → IsText settings None found.items lines last → front_of settings ≡ front → end_line settings.form found.at found.why ≡ back → IsListing settings number file (front ++ lines ++ back)
listing settings number file found last front lines back is of_items front_is back_is = record {
  scan = found;
  is = is;
  last = last;
  lines = lines;
  of_items = of_items;
  text_is = sym (ap₂ (λ (f b : List ℕ). f ++ lines ++ b) front_is back_is);
}

-- the same of five parts, of which the items have three
pub five_parts : (f a b c e : List ℕ) → f ++ (a ++ (b ++ c)) ++ e ≡ f ++ a ++ b ++ c ++ e
five_parts f a b c e = ap (λ (t : List ℕ). t ++ e) (sym (append_assoc (f ++ a) b c ∙ append_assoc f a (b ++ c)))

-- ---- the totals of items

pub record_counted : (settings : Settings) (old new after : Totals) (start end : ℕ) (bytes : List ℕ) (items : List Item) (shown : ShownRecord) → Shows bytes shown → counting.with_record settings shown old ≡ new
    → AreTotals settings new items after → AreTotals settings old (whole start end bytes ∷ items) after
record_counted settings old new after start end bytes items shown shows is rest = with_one shows (subst (λ (t : Totals). AreTotals settings t items after) (sym is) rest)

pub stretch_counted : (settings : Settings) (old new after : Totals) (stretch : Unread) (items : List Item) → counting.with_stretch stretch old ≡ new → AreTotals settings new items after
    → AreTotals settings old (unread stretch ∷ items) after
stretch_counted settings old new after stretch items is rest = with_skipped (subst (λ (t : Totals). AreTotals settings t items after) (sym is) rest)

pub summary : (settings : Settings) (number : Option ℕ) (file : List ℕ) (found : Scan) (totals : Totals) (text : List ℕ) → IsScan number settings.scan file found → AreTotals settings nothing found.items totals
    → totals_text settings totals found.at found.why ≡ text → IsSummary settings number file text
summary settings number file found totals text is are text_is = record { scan = found; is = is; totals = totals; are = are; text_is = sym text_is }

-- the first of six parts apart from the others
pub front_apart : (f a b c d e : List ℕ) → f ++ a ++ b ++ c ++ d ++ e ≡ f ++ (a ++ b ++ c ++ d ++ e)
front_apart f a b c d e = on (a ++ b ++ c ++ d) e (f ++ a ++ b ++ c ++ d) (on (a ++ b ++ c) d (f ++ a ++ b ++ c) (on (a ++ b) c (f ++ a ++ b) (append_assoc f a b)))
  where
    on : (x y both : List ℕ) → both ≡ f ++ x → both ++ y ≡ f ++ (x ++ y)
    on x y both is = ap (λ (t : List ℕ). t ++ y) is ∙ append_assoc f x y
