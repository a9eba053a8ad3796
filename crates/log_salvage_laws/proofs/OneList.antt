-- The records that are kept are one list.
use Rattle.std.proofs.Common.{◌≡◌, ℕ, true, List, [], ◌∷◌, ◌++◌, Option, Some, None, refl, sym, ◌∙◌, ap, subst}
use Rattle.batch_operations.proofs.OneShown.{one_shown}
use Rattle.log_scan.specs.Scanning.{Item, Scan, whole, unread}
use Rattle.log_scan_laws.proofs.OneScan.{one_scan}
use Rattle.log_salvage.specs.Keeping.{AreKept, HasVerdict, no_records, verdict, with_kept, with_left_out, with_stretch}
use Rattle.log_salvage.specs.declared.keeping.LeftOut.{LeftOut}
use Rattle.log_salvage.specs.declared.keeping.Range.{Range}
use Rattle.log_salvage_laws.specs.Kept.{HasRecord, Keeps}

one_verdict : (range : Range) (bytes : List ℕ) (one other : Option LeftOut) → HasVerdict range bytes one → HasVerdict range bytes other → one ≡ other
one_verdict range bytes one other first second = first.2 ∙ (ap (verdict range) (one_shown bytes first.0 second.0 first.1 second.1) ∙ sym second.2)

-- a record isn't both kept and left out
not_both : (range : Range) (bytes : List ℕ) (why : LeftOut) → HasVerdict range bytes None → HasVerdict range bytes (Some why) → ⊥
not_both range bytes why kept out = let same : Option.None ≡ Some why = one_verdict range bytes None (Some why) kept out in cc

pub kept_once : (range : Range) (items : List Item) (records others : List (List ℕ)) → AreKept range items records → AreKept range items others → records ≡ others
kept_once range items _ _ no_records no_records = refl
kept_once range items _ _ (with_kept {bytes = bytes} {items = rest} {records = r} is more) (with_kept {records = s} also other) = ap (λ (l : List (List ℕ)). bytes ∷ l) (kept_once range rest r s more other)
kept_once range items _ _ (with_kept {bytes = bytes} is more) (with_left_out {why = why} out other) = absurd (not_both range bytes why is out)
kept_once range items _ _ (with_left_out {bytes = bytes} {why = why} out more) (with_kept is other) = absurd (not_both range bytes why is out)
kept_once range items _ _ (with_left_out {items = rest} {records = r} out more) (with_left_out {records = s} also other) = kept_once range rest r s more other
kept_once range items _ _ (with_stretch {items = rest} {records = r} more) (with_stretch {records = s} other) = kept_once range rest r s more other

pub one_list : (range : Range) (number : Option ℕ) (file : List ℕ) (records others : List (List ℕ)) → Keeps range number file records → Keeps range number file others → records ≡ others
one_list range number file records others one other =
    kept_once range other.scan.items records others (subst (λ (s : Scan). AreKept range s.items records) (one_scan number true file one.scan other.scan one.is other.is) one.are) other.are

-- ---- a record that is found, and to be kept, is kept

here : (range : Range) (records : List (List ℕ)) (start end : ℕ) (bytes : List ℕ) (rest : List Item) → AreKept range (whole start end bytes ∷ rest) records → HasVerdict range bytes None → HasRecord bytes records
here range _ start end bytes rest (with_kept {records = r} is more) verdict = ([], r, refl)
here range _ start end bytes rest (with_left_out {why = why} out more) verdict = absurd (not_both range bytes why verdict out)

one_before : (b bytes : List ℕ) (records : List (List ℕ)) → HasRecord bytes records → HasRecord bytes (b ∷ records)
one_before b bytes records has = (b ∷ has.0, has.1, ap (λ (l : List (List ℕ)). b ∷ l) has.2)

there : (range : Range) (front rest : List Item) (records : List (List ℕ)) (start end : ℕ) (bytes : List ℕ) → AreKept range (front ++ whole start end bytes ∷ rest) records → HasVerdict range bytes None → HasRecord bytes records
there range [] rest records start end bytes are verdict = here range records start end bytes rest are verdict
there range (whole s e b ∷ front) rest _ start end bytes (with_kept {records = r} is more) verdict = one_before b bytes r (there range front rest r start end bytes more verdict)
there range (whole s e b ∷ front) rest records start end bytes (with_left_out out more) verdict = there range front rest records start end bytes more verdict
there range (unread u ∷ front) rest records start end bytes (with_stretch more) verdict = there range front rest records start end bytes more verdict

pub kept_there : (range : Range) (items front rest : List Item) (records : List (List ℕ)) (start end : ℕ) (bytes : List ℕ) → items ≡ front ++ whole start end bytes ∷ rest → AreKept range items records → HasVerdict range bytes None
    → HasRecord bytes records
kept_there range items front rest records start end bytes is are verdict = there range front rest records start end bytes (subst (λ (l : List Item). AreKept range l records) is are) verdict
