-- What one more batch changes in a list.
use Rattle.std.proofs.Common.{◌≡◌, ℕ, ◌+◌, ◌<◌, ◌^◌, List, [], ◌∷◌, ◌++◌, length, take, drop, refl, sym, ap, ◌∙◌, arith, append-nil, length-append}
use Rattle.std.proofs.lemmas.Grind.{flat_map-append}
use Rattle.std.proofs.lemmas.Nat.{from_le_bytes-to_le_bytes_4}
use Rattle.std.specs.Int.{w32, from_le_bytes}
use Rattle.std.specs.List.{AllByRecursion}
use Rattle.std.specs.Prelude.{Result, Ok, Err, is_err, OnOk, true, false}
use Rattle.model_base.specs.Batch.{IsReadable, count_of}
use Rattle.log_batch.specs.Contents.{Contents}
use Rattle.run_batches.specs.declared.accepted.AcceptedBatch.{AcceptedBatch}
use Rattle.run_batches.specs.OneBatch.{batch_bytes, IsBatchOf}
use Rattle.run_batches.specs.Layout.{bytes_of, body, ends_from}
use Rattle.run_batches.specs.OneList.{Fits, AreBatches, same_batches}

pub count_read : (bytes : List ℕ) (b : Contents) → IsBatchOf bytes b → from_le_bytes w32 (take 4 (drop 8 bytes)) ≡ count_of b.records
count_read bytes b is = ap (λ (l : List ℕ). from_le_bytes w32 (take 4 (drop 8 l))) is.spelled ∙ from_le_bytes-to_le_bytes_4 (count_of b.records) is.count_fits

-- A batch of readable records whose header fits is determined by its bytes.
pub own_batch : (bytes : List ℕ) (b : Contents) → bytes ≡ batch_bytes b → AllByRecursion IsReadable b.records → b.sequence < 2 ^ 64 → count_of b.records < 2 ^ 32 → IsBatchOf bytes b
own_batch bytes b spelled readable sequence count = record {
  spelled = spelled;
  readable = readable;
  sequence_fits = sequence;
  count_fits = count;
}

body-added : (batches : List (AcceptedBatch Contents)) (k : AcceptedBatch Contents) → body (batches ++ k ∷ []) ≡ body batches ++ bytes_of k
body-added batches k = flat_map-append bytes_of batches (k ∷ []) ∙ ap (λ (l : List ℕ). body batches ++ l) (append-nil (bytes_of k))

ends-added : (begin end : ℕ) (batches : List (AcceptedBatch Contents)) (k : AcceptedBatch Contents) → end ≡ begin + length (body (batches ++ k ∷ [])) → ends_from begin (batches ++ k ∷ []) ≡ ends_from begin batches ++ end ∷ []
ends-added begin end [] k is =
    let first : begin + length (bytes_of k) ≡ end = omega (arith, is, length-append (bytes_of k) []) in
    ap (λ (n : ℕ). n ∷ []) first
ends-added begin end (j ∷ batches) k is =
    ap (λ (l : List ℕ). (begin + length (bytes_of j)) ∷ l)
    (ends-added (begin + length (bytes_of j)) end batches k (omega (arith, is, length-append (bytes_of j) (body (batches ++ k ∷ [])))))

all_fit : (batches : List (AcceptedBatch Contents)) (k : AcceptedBatch Contents) → AllByRecursion Fits batches → Fits k → AllByRecursion Fits (batches ++ k ∷ [])
all_fit [] k fit one = (one, tt)
all_fit (j ∷ batches) k fit one = (fit.0, all_fit batches k fit.1 one)

-- the list with one more batch
pub with_batch : (old now ends later : List ℕ) (h : AreBatches old ends) (k : AcceptedBatch Contents) → Fits k → now ≡ old ++ bytes_of k → later ≡ ends ++ length now ∷ []
    → (more : AreBatches now later) × (more.batches ≡ h.batches ++ k ∷ [])
with_batch old now ends later h k fits is is_later =
    let spelled : now ≡ body (h.batches ++ k ∷ []) = is ∙ ap (λ (l : List ℕ). l ++ bytes_of k) h.spelled ∙ sym (body-added h.batches k) in
    let ends_are : later ≡ ends_from 0 (h.batches ++ k ∷ []) =
    is_later ∙ ap (λ (l : List ℕ). l ++ length now ∷ []) h.ends_are ∙ sym (ends-added 0 (length now) h.batches k (omega (arith, ap length spelled))) in
    (record { batches = h.batches ++ k ∷ []; fit = all_fit h.batches k h.fit fits; spelled = spelled; ends_are = ends_are }, refl)

-- equal bytes and equal ends are those of the same list
pub as_before : (old now ends later : List ℕ) (h : AreBatches old ends) → now ≡ old → later ≡ ends → (same : AreBatches now later) × (same.batches ≡ h.batches)
as_before old now ends later h is is_later =
    (record { batches = h.batches; fit = h.fit; spelled = is ∙ h.spelled; ends_are = is_later ∙ h.ends_are }, refl)

-- so they show the same batches
pub still : (old now ends later : List ℕ) (h : AreBatches old ends) → now ≡ old → later ≡ ends → (same : AreBatches now later) → same.batches ≡ h.batches
still old now ends later h is is_later same =
    let one = as_before old now ends later h is is_later in
    same_batches now later same one.0 ∙ one.1

-- what holds where there is no error
pub on_ok : {T E : Type 0} (r : Result T E) (P : Type 0) → is_err r ≡ false → OnOk r P → P
on_ok (Ok x) P ok holds = holds
on_ok (Err e) P ok holds = absurd (no ok) where
  no : true ≡ false → ⊥
  no e = cc
