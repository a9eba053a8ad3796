-- From a place of a file there is one scan at most. Scans are put together from the left, and compared from the right:
-- so a scan is first turned into a run, which goes on from a place to the end.
use Rattle.std.proofs.Common.{◌≡◌, ℕ, Bool, true, false, List, [], ◌++◌, Option, Some, None, refl, sym, ◌∙◌, ap, subst, append_assoc, append-nil}
use Rattle.model_base.specs.declared.log.EndReason.{EndReason}
use Rattle.model_base.specs.Reading.{IsRecord, ReadingEnds}
use Rattle.log_recovery_laws.specs.Reads.{Answer, found}
use Rattle.log_recovery_laws.proofs.OneReading.{one_answer, one_end, no_end}
use Rattle.log_scan.specs.declared.scanner.Lost.{Lost}
use Rattle.log_scan.specs.Scanning.{Item, Scan, IsScan, Finds, found_none, found_more, Skips, not_skipped, skipped_first, skipped_again, items_with, first_end, later_place}
use Rattle.log_scan_laws.specs.FromPlace.{IsScanFrom}

-- From the place `here`, with what was lost since the end of a record, these items are found, and then the end.
pub data Runs (number : Option ℕ) (goes_on : Bool) (file : List ℕ) : ℕ → ℕ → Option Lost → List Item → ℕ → EndReason → Type 0 where
  ends : {place here at : ℕ} {why : EndReason} {lost : Option Lost} (end : Lost) → ReadingEnds number file here end.at end.why
      → later_place number goes_on file end.at end.why ≡ None → first_end lost end ≡ record { at = at; why = why }
      → Runs number goes_on file place here lost [] at why
  skips : {place here next at : ℕ} {why : EndReason} {lost : Option Lost} {items : List Item} (end : Lost) → ReadingEnds number file here end.at end.why
      → later_place number goes_on file end.at end.why ≡ Some next → Runs number goes_on file place next (Some (first_end lost end)) items at why
      → Runs number goes_on file place here lost items at why
  finds : {place here start end at : ℕ} {why : EndReason} {lost : Option Lost} {bytes : List ℕ} {items : List Item} → IsRecord number file here start end bytes
      → Runs number goes_on file end end None items at why
      → Runs number goes_on file place here lost (items_with lost place start end bytes ++ items) at why

-- what was skipped before a run belongs to it
run_skipped : (number : Option ℕ) (goes_on : Bool) (file : List ℕ) (place here at : ℕ) (why : EndReason) (lost : Option Lost) (items : List Item) → Skips number goes_on file place here lost
    → Runs number goes_on file place here lost items at why → Runs number goes_on file place place None items at why
run_skipped number goes_on file place here at why lost items not_skipped run = run
run_skipped number goes_on file place here at why lost items (skipped_first {at = p} {why = r} x there) run = skips (record { at = p; why = r }) x there run
run_skipped number goes_on file place here at why lost items (skipped_again {before = b} {at = p} {why = r} {lost = first} before x there) run =
    run_skipped number goes_on file place b at why (Some first) items before (skips (record { at = p; why = r }) x there run)

-- so do the records that were found before it
run_found : (number : Option ℕ) (goes_on : Bool) (file : List ℕ) (from place at : ℕ) (why : EndReason) (before items : List Item) → Finds number goes_on file from before place
    → Runs number goes_on file place place None items at why → Runs number goes_on file from from None (before ++ items) at why
run_found number goes_on file from place at why before items found_none run = run
run_found number goes_on file from place at why before items (found_more {items = earlier} {place = p} {here = h} {start = s} {end = e} {lost = lost} {bytes = bytes} found_before skipped is) run =
    let more : List Item = items_with lost p s e bytes ++ items in
    let on : Runs number goes_on file p p None more at why = run_skipped number goes_on file p h at why lost more skipped (finds is run) in
    subst (λ (l : List Item). Runs number goes_on file from from None l at why) (sym (append_assoc earlier (items_with lost p s e bytes) items))
    (run_found number goes_on file from p at why earlier more found_before on)

-- a scan is a run from where it begins
pub run_from : (number : Option ℕ) (goes_on : Bool) (file : List ℕ) (from : ℕ) (scan : Scan) → IsScanFrom number goes_on file from scan → Runs number goes_on file from from None scan.items scan.at scan.why
run_from number goes_on file from scan is =
    let e = is.2 in
    subst (λ (l : List Item). Runs number goes_on file from from None l scan.at scan.why) (append-nil scan.items)
    (run_found number goes_on file from is.0 scan.at scan.why scan.items [] is.1
    (run_skipped number goes_on file is.0 e.here scan.at scan.why e.lost [] e.skips (ends e.last e.ends e.no_more e.first_is)))

-- a scan of the file begins at its start
pub from_start : (number : Option ℕ) (goes_on : Bool) (file : List ℕ) (scan : Scan) → IsScan number goes_on file scan → IsScanFrom number goes_on file 0 scan
from_start number goes_on file scan is = (is.place, is.finds, is.ends)

-- two ends of reading from one place are the same
same_end : (number : Option ℕ) (file : List ℕ) (here there : ℕ) (a b : Lost) → here ≡ there → ReadingEnds number file here a.at a.why → ReadingEnds number file there b.at b.why → a ≡ b
same_end number file here there a b e x y =
    let same = one_end number file there a.at b.at a.why b.why (subst (λ (n : ℕ). ReadingEnds number file n a.at a.why) e x) y in
    ap (λ (n : ℕ). record a { at = n }) same.0 ∙ ap (λ (r : EndReason). record b { why = r }) same.1

-- and then reading is tried again at the same place, or not at all
same_later : (number : Option ℕ) (goes_on : Bool) (file : List ℕ) (a b : Lost) (p q : Option ℕ) → a ≡ b → later_place number goes_on file a.at a.why ≡ p → later_place number goes_on file b.at b.why ≡ q → p ≡ q
same_later number goes_on file a b p q same x y = sym x ∙ (ap (λ (l : Lost). later_place number goes_on file l.at l.why) same ∙ y)

some_is : (a b : ℕ) → Some a ≡ Some b → a ≡ b
some_is a b e = cc

none_is_not : (a : ℕ) → None ≡ Some a → ⊥
none_is_not a e = cc

-- the first end is the same
same_first : (l : Lost) (at other : ℕ) (why reason : EndReason) → l ≡ record { at = at; why = why } → l ≡ record { at = other; why = reason } → (at ≡ other) × (why ≡ reason)
same_first l at other why reason x y = (ap (λ (l : Lost). l.at) (sym x ∙ y), ap (λ (l : Lost). l.why) (sym x ∙ y))

-- where there is a record reading doesn't end
not_an_end : (number : Option ℕ) (file : List ℕ) (here there start end : ℕ) (bytes : List ℕ) (l : Lost) → here ≡ there → IsRecord number file here start end bytes → ReadingEnds number file there l.at l.why → ⊥
not_an_end number file here there start end bytes l same is x =
    no_end number file here l.at l.why is.fragments is.one is.stand (subst (λ (n : ℕ). ReadingEnds number file n l.at l.why) (sym same) x)

-- two records from one place are the same
record SameRecord (s t e f : ℕ) (xs ys : List ℕ) : Type 0 where
  start : s ≡ t
  end : e ≡ f
  bytes : xs ≡ ys

start_of : Answer → ℕ
start_of (found s e bytes) = s
start_of _ = 0

end_of : Answer → ℕ
end_of (found s e bytes) = e
end_of _ = 0

bytes_of : Answer → List ℕ
bytes_of (found s e bytes) = bytes
bytes_of _ = []

same_record : (number : Option ℕ) (file : List ℕ) (here there s t e f : ℕ) (xs ys : List ℕ) → here ≡ there → IsRecord number file here s e xs → IsRecord number file there t f ys → SameRecord s t e f xs ys
unfolding start_of end_of bytes_of
same_record number file here there s t e f xs ys h x y =
    let same : found s e xs ≡ found t f ys = one_answer number file there (found s e xs) (found t f ys) (subst (λ (n : ℕ). IsRecord number file n s e xs) h x) y in
    record { start = ap start_of same; end = ap end_of same; bytes = ap bytes_of same }

-- the items of a record, from the same places with the same bytes
same_items : (lost other : Option Lost) (place from s t e f : ℕ) (xs ys : List ℕ) (items others : List Item) → lost ≡ other → place ≡ from → SameRecord s t e f xs ys → items ≡ others
    → items_with lost place s e xs ++ items ≡ items_with other from t f ys ++ others
same_items lost other place from s t e f xs ys items others l p same tail =
    ap (λ (o : Option Lost). items_with o place s e xs ++ items) l
    ∙ (ap (λ (n : ℕ). items_with other n s e xs ++ items) p
    ∙ (ap (λ (n : ℕ). items_with other from n e xs ++ items) same.start
    ∙ (ap (λ (n : ℕ). items_with other from t n xs ++ items) same.end
    ∙ (ap (λ (b : List ℕ). items_with other from t f b ++ items) same.bytes ∙ ap (λ (l : List Item). items_with other from t f ys ++ l) tail))))

-- Two runs from the same place are the same.
one_run : (number : Option ℕ) (goes_on : Bool) (file : List ℕ) (place here from there at other : ℕ) (why reason : EndReason) (lost before : Option Lost) (items others : List Item) → place ≡ from → here ≡ there → lost ≡ before
    → Runs number goes_on file place here lost items at why → Runs number goes_on file from there before others other reason → (items ≡ others) × (at ≡ other) × (why ≡ reason)
one_run number goes_on file place here from there at other why reason lost before items others p h l (ends a x none_a first_a) (ends b y none_b first_b) =
    let same : a ≡ b = same_end number file here there a b h x y in
    let first = same_first (first_end before b) at other why reason (ap (first_end before) (sym same) ∙ (ap (λ (o : Option Lost). first_end o a) (sym l) ∙ first_a)) first_b in
    (refl, first.0, first.1)
one_run number goes_on file place here from there at other why reason lost before items others p h l (ends a x none_a first_a) (skips {next = next} b y again rest) =
    absurd (none_is_not next (same_later number goes_on file a b None (Some next) (same_end number file here there a b h x y) none_a again))
one_run number goes_on file place here from there at other why reason lost before items others p h l (ends a x none_a first_a) (finds {start = t} {end = f} {bytes = ys} is rest) =
    absurd (not_an_end number file there here t f ys a (sym h) is x)
one_run number goes_on file place here from there at other why reason lost before items others p h l (skips {next = next} a x again rest) (ends b y none_b first_b) =
    absurd (none_is_not next (sym (same_later number goes_on file a b (Some next) None (same_end number file here there a b h x y) again none_b)))
one_run number goes_on file place here from there at other why reason lost before items others p h l (skips {next = next} {items = xs} a x again_a rest_a) (skips {next = later} {items = ys} b y again_b rest_b) =
    let same : a ≡ b = same_end number file here there a b h x y in
    one_run number goes_on file place next from later at other why reason (Some (first_end lost a)) (Some (first_end before b)) xs ys p
    (some_is next later (same_later number goes_on file a b (Some next) (Some later) same again_a again_b))
    (ap (λ (o : Option Lost). Some (first_end o a)) l ∙ ap (λ (e : Lost). Some (first_end before e)) same) rest_a rest_b
one_run number goes_on file place here from there at other why reason lost before items others p h l (skips a x again rest) (finds {start = t} {end = f} {bytes = ys} is more) =
    absurd (not_an_end number file there here t f ys a (sym h) is x)
one_run number goes_on file place here from there at other why reason lost before items others p h l (finds {start = s} {end = e} {bytes = xs} is more) (ends b y none_b first_b) =
    absurd (not_an_end number file here there s e xs b h is y)
one_run number goes_on file place here from there at other why reason lost before items others p h l (finds {start = s} {end = e} {bytes = xs} is more) (skips b y again rest) =
    absurd (not_an_end number file here there s e xs b h is y)
one_run number goes_on file place here from there at other why reason lost before items others p h l (finds {start = s} {end = e} {bytes = xs} {items = left} is more) (finds {start = t} {end = f} {bytes = ys} {items = right} also rest) =
    let same = same_record number file here there s t e f xs ys h is also in
    let tail = one_run number goes_on file e e f f at other why reason None None left right same.end same.end refl more rest in
    (same_items lost before place from s t e f xs ys left right l p same tail.0, tail.1, tail.2)

pub one_scan_from : (number : Option ℕ) (goes_on : Bool) (file : List ℕ) (from : ℕ) (one other : Scan) → IsScanFrom number goes_on file from one → IsScanFrom number goes_on file from other → one ≡ other
one_scan_from number goes_on file from one other x y =
    let same = one_run number goes_on file from from from from one.at other.at one.why other.why None None one.items other.items refl refl refl
    (run_from number goes_on file from one x) (run_from number goes_on file from other y) in
    ap (λ (l : List Item). record one { items = l }) same.0
    ∙ (ap (λ (n : ℕ). record { items = other.items; at = n; why = one.why }) same.1 ∙ ap (λ (r : EndReason). record other { why = r }) same.2)

pub one_scan : (number : Option ℕ) (goes_on : Bool) (file : List ℕ) (one other : Scan) → IsScan number goes_on file one → IsScan number goes_on file other → one ≡ other
one_scan number goes_on file one other x y = one_scan_from number goes_on file 0 one other (from_start number goes_on file one x) (from_start number goes_on file other y)

-- A run that doesn't go on after damage is the front of one that does.
front_run : (number : Option ℕ) (file : List ℕ) (place here from there at other : ℕ) (why reason : EndReason) (lost before : Option Lost) (items others : List Item) → place ≡ from → here ≡ there → lost ≡ before
    → Runs number false file place here lost items at why → Runs number true file from there before others other reason → (more : List Item) × (others ≡ items ++ more)
front_run number file place here from there at other why reason lost before items others p h l (ends a x none_a first_a) run = (others, refl)
front_run number file place here from there at other why reason lost before items others p h l (skips {next = next} a x again rest) run = absurd (none_is_not next again)
front_run number file place here from there at other why reason lost before items others p h l (finds {start = s} {end = e} {bytes = xs} is more) (ends b y none_b first_b) =
    absurd (not_an_end number file here there s e xs b h is y)
front_run number file place here from there at other why reason lost before items others p h l (finds {start = s} {end = e} {bytes = xs} is more) (skips b y again rest) =
    absurd (not_an_end number file here there s e xs b h is y)
front_run number file place here from there at other why reason lost before items others p h l (finds {start = s} {end = e} {bytes = xs} {items = left} is more) (finds {start = t} {end = f} {bytes = ys} {items = right} also rest) =
    let same = same_record number file here there s t e f xs ys h is also in
    let tail = front_run number file e e f f at other why reason None None left right same.end same.end refl more rest in
    let joined = same_items lost before place from s t e f xs ys (left ++ tail.0) right l p same (sym tail.1) in
    (tail.0, sym joined ∙ sym (append_assoc (items_with lost place s e xs) left tail.0))

pub list_front : (number : Option ℕ) (file : List ℕ) (list scan : Scan) → IsScan number false file list → IsScan number true file scan → (more : List Item) × (scan.items ≡ list.items ++ more)
list_front number file list scan x y =
    front_run number file 0 0 0 0 list.at scan.at list.why scan.why None None list.items scan.items refl refl refl
    (run_from number false file 0 list (from_start number false file list x)) (run_from number true file 0 scan (from_start number true file scan y))
