-- Where a batch of a list is in the bytes.
use Rattle.std.proofs.Common.{◌≡◌, ℕ, zero, suc, ◌+◌, ◌-◌, ◌<◌, ◌≤◌, List, [], ◌∷◌, ◌++◌, length, take, drop, get_or, refl, sym, ap, ◌∙◌, subst, arith, append_assoc, length-append}
use Rattle.std.proofs.Math.Seq.{take-length, take-append_seam, drop-append_seam}
use Rattle.std.specs.List.{AllByRecursion}
use Rattle.std.specs.Prelude.{Some, slice_get, slice_range}
use Rattle.log_batch.specs.Contents.{Contents}
use Rattle.run_batches.specs.declared.accepted.AcceptedBatch.{AcceptedBatch}
use Rattle.run_batches.specs.Layout.{bytes_of, body, ends_from}
use Rattle.run_batches.specs.OneList.{Fits, AreBatches}
use Rattle.run_batches.proofs.Additions.{as_before}

-- the batch at a place, between the bytes of the batches before it and of those after it
record Stands (begin : ℕ) (batches : List (AcceptedBatch Contents)) (at : ℕ) : Type 0 where
  pub kept : AcceptedBatch Contents
  pub is : slice_get batches at ≡ Some kept
  pub fits : Fits kept
  pub before : List ℕ
  pub behind : List ℕ
  pub spelled : body batches ≡ before ++ (bytes_of kept ++ behind)
  pub begins : get_or (begin ∷ ends_from begin batches) at 0 ≡ begin + length before
  pub ends : get_or (ends_from begin batches) at 0 ≡ begin + length before + length (bytes_of kept)

stands : (begin : ℕ) (batches : List (AcceptedBatch Contents)) (at : ℕ) → AllByRecursion Fits batches → at < length batches → Stands begin batches at
stands begin [] at fit within = absurd (omega (arith, within))
stands begin (k ∷ batches) zero fit within = record {
  kept = k;
  is = refl;
  fits = fit.0;
  before = [];
  behind = body batches;
  spelled = refl;
  begins = omega arith;
  ends = omega arith;
}
stands begin (k ∷ batches) (suc at) fit within =
    let later = stands (begin + length (bytes_of k)) batches at fit.1 (omega (arith, within)) in
    let long = length-append (bytes_of k) later.before in
    record {
      kept = later.kept;
      is = later.is;
      fits = later.fits;
      before = bytes_of k ++ later.before;
      behind = later.behind;
      spelled = ap (λ (l : List ℕ). bytes_of k ++ l) later.spelled ∙ sym (append_assoc (bytes_of k) later.before (bytes_of later.kept ++ later.behind));
      begins = omega (arith, later.begins, long);
      ends = omega (arith, later.ends, long);
    }

-- There are as many ends as batches.
pub as_many_ends : (begin : ℕ) (batches : List (AcceptedBatch Contents)) → length (ends_from begin batches) ≡ length batches
as_many_ends begin [] = refl
as_many_ends begin (k ∷ batches) = omega (arith, as_many_ends (begin + length (bytes_of k)) batches)

-- The bytes from where the batch at a place begins to where it ends are the batch's.
pub record IsAt (bytes ends : List ℕ) (batches : List (AcceptedBatch Contents)) (at : ℕ) : Type 0 where
  pub kept : AcceptedBatch Contents
  pub is : slice_get batches at ≡ Some kept
  pub fits : Fits kept
  pub at_in : at < length ends
  pub rising : get_or (0 ∷ ends) at 0 ≤ get_or ends at 0
  pub within : get_or ends at 0 ≤ length bytes
  pub part : slice_range bytes (get_or (0 ∷ ends) at 0) (get_or ends at 0) ≡ bytes_of kept

pub is_at : (bytes ends : List ℕ) (h : AreBatches bytes ends) (at : ℕ) → at < length h.batches → IsAt bytes ends h.batches at
is_at bytes ends h at at_in =
    let s = stands 0 h.batches at h.fit at_in in
    let own = bytes_of s.kept in
    let begin = get_or (0 ∷ ends) at 0 in
    let end = get_or ends at 0 in
    let from : begin ≡ length s.before = omega (arith, ap (λ (l : List ℕ). get_or (0 ∷ l) at 0) h.ends_are, s.begins) in
    let long : end ≡ begin + length own = omega (arith, ap (λ (l : List ℕ). get_or l at 0) h.ends_are, s.ends, from) in
    let as_long : end - begin ≡ length own = omega (arith, long) in
    let spelled : bytes ≡ s.before ++ (own ++ s.behind) = h.spelled ∙ s.spelled in
    record {
      kept = s.kept;
      is = s.is;
      fits = s.fits;
      at_in = omega (arith, at_in, ap length h.ends_are, as_many_ends 0 h.batches);
      rising = omega (arith, long);
      within = omega (arith, long, from, ap length spelled, length-append s.before (own ++ s.behind), length-append own s.behind);
      part = ap (λ (n : ℕ). take n (drop begin bytes)) as_long ∙ ap (λ (n : ℕ). take (length own) (drop n bytes)) from
          ∙ ap (λ (l : List ℕ). take (length own) (drop (length s.before) l)) spelled ∙ ap (λ (l : List ℕ). take (length own) l) (drop-append_seam s.before (own ++ s.behind))
          ∙ take-append_seam own s.behind;
    }

-- `IsAt`, from what calls say of the bytes, of the ends and of the list.
pub found_at : (bytes ends : List ℕ) (h : AreBatches bytes ends) (at : ℕ) (slice places : List ℕ) (batches : List (AcceptedBatch Contents)) → slice ≡ bytes → places ≡ ends → h.batches ≡ batches → at < length batches → IsAt slice places batches at
found_at bytes ends h at slice places batches is_slice is_places is at_in =
    let same = as_before bytes slice ends places h is_slice is_places in
    let all : same.0.batches ≡ batches = same.1 ∙ is in
    subst (λ (l : List (AcceptedBatch Contents)). IsAt slice places l at) all (is_at slice places same.0 at (omega (arith, at_in, ap length all)))

-- What comes after the first byte.
pub behind_first : (part : List ℕ) (x : ℕ) (own : List ℕ) → part ≡ x ∷ own → take (length part - 1) (drop 1 part) ≡ own
behind_first part x own is =
    let one_less : length part - 1 ≡ length own = omega (arith, ap length is) in
    ap (λ (n : ℕ). take n (drop 1 part)) one_less ∙ ap (λ (l : List ℕ). take (length own) (drop 1 l)) is ∙ take-length own
