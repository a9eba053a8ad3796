-- Bytes are those of one batch at most, have one error at most, and never both.
use Rattle.std.proofs.Common.{◌≡◌, ℕ, ◌-◌, ◌^◌, ◌<◌, ◌≤◌, List, [], ◌++◌, length, take, drop, refl, sym, ◌∙◌, ap, subst, arith, append-nil, length-drop}
use Rattle.std.proofs.Math.Seq.{take-length}
use Rattle.std.proofs.lemmas.List.{take-append-drop, drop-drop}
use Rattle.std.proofs.lemmas.Nat.{from_le_bytes-to_le_bytes_4, from_le_bytes-to_le_bytes_8}
use Rattle.std.specs.List.{AllByRecursion}
use Rattle.std.specs.Int.{w32, w64, to_le_bytes, from_le_bytes}
use Rattle.model_base.specs.declared.batch.BatchError.{BatchError}
use Rattle.model_base.specs.declared.batch.BatchError.TheVariants.{Count}
use Rattle.model_base.specs.Batch.{Record, count_of, body, IsReadable, IsBatch, NoRecord, IsBatchError, no_header, no_record, wrong_count}
use Rattle.log_batch.proofs.OneRecord.{one_record_error}
use Rattle.log_batch.proofs.OneReading.{none_in_nothing, none_in_error, one_walk}

-- Taking as many bytes from a place on as there are takes all of them.
pub from_place : (at : ℕ) (bytes : List ℕ) → take (length bytes - at) (drop at bytes) ≡ drop at bytes
from_place at bytes = ap (λ (n : ℕ). take n (drop at bytes)) (sym (length-drop at bytes)) ∙ take-length (drop at bytes)

-- a batch has at least the bytes of a header
long_enough : (bytes : List ℕ) (s : ℕ) (records : List Record) → IsBatch bytes s records → 12 ≤ length bytes
long_enough bytes s records is = omega (arith, ap length is.spelled)

records_behind : (bytes : List ℕ) (s : ℕ) (records : List Record) → IsBatch bytes s records → drop 12 bytes ≡ body records
records_behind bytes s records is = ap (drop 12) is.spelled

count_before : (bytes : List ℕ) (s : ℕ) (records : List Record) → IsBatch bytes s records → from_le_bytes w32 (take 4 (drop 8 bytes)) ≡ count_of records
count_before bytes s records is =
    ap (λ (l : List ℕ). from_le_bytes w32 (take 4 (drop 8 l))) is.spelled ∙ from_le_bytes-to_le_bytes_4 (count_of records) is.count_fits

sequence_before : (bytes : List ℕ) (s : ℕ) (records : List Record) → IsBatch bytes s records → from_le_bytes w64 (take 8 bytes) ≡ s
sequence_before bytes s records is =
    ap (λ (l : List ℕ). from_le_bytes w64 (take 8 l)) is.spelled ∙ from_le_bytes-to_le_bytes_8 s is.sequence_fits

-- the bytes are the two parts of a header and what follows it
joined : (bytes : List ℕ) → bytes ≡ take 8 bytes ++ (take 4 (drop 8 bytes) ++ drop 12 bytes)
joined bytes = sym (take-append-drop 8 bytes)
    ∙ ap (λ (l : List ℕ). take 8 bytes ++ l) (sym (take-append-drop 4 (drop 8 bytes)) ∙ ap (λ (l : List ℕ). take 4 (drop 8 bytes) ++ l) (drop-drop 4 8 bytes))

-- A header followed by records is a batch.
pub is_batch : (bytes : List ℕ) (s said : ℕ) (records : List Record) → to_le_bytes w64 s ≡ take 8 bytes → to_le_bytes w32 said ≡ take 4 (drop 8 bytes) → drop 12 bytes ≡ body records
    → AllByRecursion IsReadable records → said ≡ count_of records → s < 2 ^ 64 → said < 2 ^ 32 → IsBatch bytes s records
is_batch bytes s said records sequence_is said_is body_is readable counted s_fits said_fits = record {
  spelled = joined bytes ∙ ap (λ (l : List ℕ). l ++ (take 4 (drop 8 bytes) ++ drop 12 bytes)) (sym sequence_is) ∙ ap (λ (l : List ℕ). to_le_bytes w64 s ++ (l ++ drop 12 bytes)) (sym said_is)
      ∙ ap (λ (l : List ℕ). to_le_bytes w64 s ++ (to_le_bytes w32 said ++ l)) body_is ∙ ap (λ (n : ℕ). to_le_bytes w64 s ++ (to_le_bytes w32 n ++ body records)) counted;
  readable = readable;
  sequence_fits = s_fits;
  count_fits = rw (sym counted) said_fits;
}

-- Bytes are those of one batch at most.
pub one_batch : (bytes : List ℕ) (s t : ℕ) (a b : List Record) → IsBatch bytes s a → IsBatch bytes t b → (s ≡ t) × (a ≡ b)
one_batch bytes s t a b x y = (
  sym (sequence_before bytes s a x) ∙ sequence_before bytes t b y,
  (one_walk a b [] [] x.readable y.readable none_in_nothing none_in_nothing
      (append-nil (body a) ∙ sym (records_behind bytes s a x) ∙ records_behind bytes t b y ∙ sym (append-nil (body b)))).0,
)

-- The bytes of a batch have no error.
pub no_batch_error : (bytes : List ℕ) (s : ℕ) (records : List Record) (e : BatchError) → IsBatch bytes s records → IsBatchError bytes e → ⊥
no_batch_error bytes s records e is (no_header few) = omega (arith, few, long_enough bytes s records is)
no_batch_error bytes s records e is (no_record others rest long read split wrong) =
    let walk = one_walk records others [] rest is.readable read none_in_nothing (none_in_error rest e wrong) (append-nil (body records) ∙ sym (records_behind bytes s records is) ∙ split) in
    subst (λ (l : List ℕ). NoRecord l e) (sym walk.1) wrong
no_batch_error bytes s records e is (wrong_count others long read split said differ) =
    let walk = one_walk records others [] [] is.readable read none_in_nothing none_in_nothing
    (append-nil (body records) ∙ sym (records_behind bytes s records is) ∙ split ∙ sym (append-nil (body others))) in
    differ (said ∙ count_before bytes s records is ∙ ap count_of walk.0)

-- where bytes are those of readable records, no record breaks off with an error
no_break : (bytes : List ℕ) (a b : List Record) (x : List ℕ) (e : BatchError) → AllByRecursion IsReadable a → AllByRecursion IsReadable b → bytes ≡ body a ++ x → bytes ≡ body b → NoRecord x e → ⊥
no_break bytes a b x e read_a read_b is_a is_b wrong =
    let walk = one_walk a b x [] read_a read_b (none_in_error x e wrong) none_in_nothing (sym is_a ∙ is_b ∙ sym (append-nil (body b))) in
    subst (λ (l : List ℕ). NoRecord l e) walk.1 wrong

-- Bytes have one error at most.
pub one_batch_error : (bytes : List ℕ) (d e : BatchError) → IsBatchError bytes d → IsBatchError bytes e → d ≡ e
one_batch_error bytes d e (no_header few) (no_header fewer) = refl
one_batch_error bytes d e (no_header few) (no_record b y long read split wrong) = absurd (omega (arith, few, long))
one_batch_error bytes d e (no_header few) (wrong_count b long read split said differ) = absurd (omega (arith, few, long))
one_batch_error bytes d e (no_record a x long read split wrong) (no_header few) = absurd (omega (arith, few, long))
one_batch_error bytes d e (no_record a x long read split wrong) (no_record b y long_b read_b split_b wrong_b) =
    let walk = one_walk a b x y read read_b (none_in_error x d wrong) (none_in_error y e wrong_b) (sym split ∙ split_b) in
    one_record_error y d e (subst (λ (l : List ℕ). NoRecord l d) walk.1 wrong) wrong_b
one_batch_error bytes d e (no_record a x long read split wrong) (wrong_count b long_b read_b split_b said differ) = absurd (no_break (drop 12 bytes) a b x d read read_b split split_b wrong)
one_batch_error bytes d e (wrong_count a long read split said differ) (no_header few) = absurd (omega (arith, few, long))
one_batch_error bytes d e (wrong_count a long read split said differ) (no_record b y long_b read_b split_b wrong_b) = absurd (no_break (drop 12 bytes) b a y e read_b read split_b split wrong_b)
one_batch_error bytes d e (wrong_count {said = m} a long read split said differ) (wrong_count {said = n} b long_b read_b split_b said_b differ_b) =
    let walk = one_walk a b [] [] read read_b none_in_nothing none_in_nothing (append-nil (body a) ∙ sym split ∙ split_b ∙ sym (append-nil (body b))) in
    ap (λ (k : ℕ). Count k (count_of a)) (said ∙ sym said_b) ∙ ap (λ (l : List Record). Count n (count_of l)) walk.0
