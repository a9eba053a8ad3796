-- The text of two lists of items, one after the other.
use Rattle.std.proofs.Common.{ℕ, Bool, List, ◌∷◌, ◌++◌, Option, sym, subst, append_assoc, append-nil}
use Rattle.log_scan.specs.Scanning.{Item, Finds, whole, unread, found_none, found_more, items_with}
use Rattle.list_text.specs.Lines.{unread_line}
use Rattle.list_log.specs.Texts.{IsText, no_items, with_record, with_stretch, place_of, record_lines}
use Rattle.list_log.specs.declared.settings.Settings.{Settings}

pub text_joins : (settings : Settings) (last mid after : Option ℕ) (a b : List Item) (t u : List ℕ) → IsText settings last a t mid → IsText settings mid b u after → IsText settings last (a ++ b) (t ++ u) after
text_joins settings last mid after a b t u no_items second = second
text_joins settings last mid after a b t u (with_record {start = start} {end = end} {bytes = bytes} {text = text} {items = items} {shown = shown} shows rest) second =
    let lines : List ℕ = record_lines settings last (place_of start end bytes) shown in
    subst (λ (v : List ℕ). IsText settings last (whole start end bytes ∷ (items ++ b)) v after) (sym (append_assoc lines text u)) (with_record shows (text_joins settings _ mid after items b text u rest second))
text_joins settings last mid after a b t u (with_stretch {stretch = stretch} {text = text} {items = items} rest) second =
    let line : List ℕ = unread_line settings.form stretch in
    subst (λ (v : List ℕ). IsText settings last (unread stretch ∷ (items ++ b)) v after) (sym (append_assoc line text u)) (with_stretch (text_joins settings last mid after items b text u rest second))

-- what is found between two places, and then between the second and a third one
pub finds_join : (number : Option ℕ) (goes_on : Bool) (file : List ℕ) (from mid to : ℕ) (a b : List Item) → Finds number goes_on file from a mid → Finds number goes_on file mid b to → Finds number goes_on file from (a ++ b) to
finds_join number goes_on file from mid to a b first found_none = subst (λ (l : List Item). Finds number goes_on file from l mid) (sym (append-nil a)) first
finds_join number goes_on file from mid to a b first (found_more {items = items} {place = place} {start = start} {end = end} {lost = lost} {bytes = bytes} second skips is) =
    subst (λ (l : List Item). Finds number goes_on file from l end) (append_assoc a items (items_with lost place start end bytes)) (found_more (finds_join number goes_on file from mid place a items first second) skips is)
