-- Bytes are a batch, or there is an error.
use Rattle.std.proofs.Common.{◌≡◌, ◌⊎◌, inl, inr, ⊎_elim, ℕ, zero, suc, ◌^◌, ◌<◌, ◌≤◌, List, [], ◌∷◌, ◌++◌, length, take, drop, refl, sym, ◌∙◌, ap, arith, nat_lt, ◌==◌, append_assoc, length-append, length-take, length-drop}
use Rattle.std.proofs.lemmas.Bool.{ltb-true, ltb-false, eqb-true, eqb-false}
use Rattle.std.proofs.lemmas.Nat.{le_bytes_4, le_bytes_8}
use Rattle.std.specs.Int.{w32, w64, from_le_bytes}
use Rattle.std.specs.List.{AllByRecursion}
use Rattle.model_base.specs.declared.batch.BatchError.{BatchError}
use Rattle.model_base.specs.declared.batch.BatchError.TheVariants.{Short, Count}
use Rattle.model_base.specs.Batch.{Record, count_of, record_bytes, body, IsReadable, IsBatch, NoRecord, IsBatchError, no_header, no_record, wrong_count}
use Rattle.log_batch.proofs.OneAnswer.{is_batch}
use Rattle.log_laws.proofs.Next.{cases_bool}
use Rattle.log_recovery_laws.specs.Reads.{AreBytes}
use Rattle.log_recovery_laws.proofs.Bytes.{bytes_take, bytes_drop, bytes_at}
use Rattle.log_recovery_laws.proofs.Records.{OneRecord, record_or_error}

-- the bytes are records and nothing else, or some records and then a rest that begins with none
data Walked (bytes : List ℕ) : Type 0 where
  all : (records : List Record) → AllByRecursion IsReadable records → bytes ≡ body records → Walked bytes
  broken : (records : List Record) (rest : List ℕ) (error : BatchError) → AllByRecursion IsReadable records → bytes ≡ body records ++ rest → NoRecord rest error → Walked bytes

one_more : (bytes : List ℕ) (one : OneRecord bytes) → Walked one.rest → Walked bytes
one_more bytes one (all records read is) = all (one.first ∷ records) (one.readable, read) (one.split ∙ ap (λ (l : List ℕ). record_bytes one.first ++ l) is)
one_more bytes one (broken records rest error read is wrong) =
    broken (one.first ∷ records) rest error (one.readable, read) (one.split ∙ (ap (λ (l : List ℕ). record_bytes one.first ++ l) is ∙ sym (append_assoc (record_bytes one.first) (body records) rest))) wrong

walk : (fuel : ℕ) (bytes : List ℕ) → AreBytes bytes → length bytes ≤ fuel → Walked bytes
walk fuel [] are enough = all [] tt refl
walk zero (t ∷ bytes) are enough = absurd (omega (arith, enough))
walk (suc fuel) (t ∷ bytes) are enough = ⊎_elim
    (λ (one : OneRecord (t ∷ bytes)). one_more (t ∷ bytes) one (walk fuel one.rest one.rest_bytes (omega (arith, enough, ap length one.split, length-append (record_bytes one.first) one.rest))))
    (λ e. broken [] (t ∷ bytes) e.0 tt refl e.1)
    (record_or_error t bytes are.1)

-- four bytes make a number below 2 ^ 32, and eight one below 2 ^ 64
four_fit : (bytes : List ℕ) → AreBytes bytes → from_le_bytes w32 bytes < 2 ^ 32
four_fit bytes are = omega (arith, bytes_at bytes are 0, bytes_at bytes are 1, bytes_at bytes are 2, bytes_at bytes are 3)

eight_fit : (bytes : List ℕ) → AreBytes bytes → from_le_bytes w64 bytes < 2 ^ 64
eight_fit bytes are =
    omega (arith, bytes_at bytes are 0, bytes_at bytes are 1, bytes_at bytes are 2, bytes_at bytes are 3, bytes_at bytes are 4, bytes_at bytes are 5, bytes_at bytes are 6, bytes_at bytes are 7)

abbrev pub BatchOrError : List ℕ → Type 0
BatchOrError bytes = ((first : ℕ) × (records : List Record) × IsBatch bytes first records) ⊎ ((error : BatchError) × IsBatchError bytes error)

of_body : (bytes : List ℕ) → AreBytes bytes → 12 ≤ length bytes → Walked (drop 12 bytes) → BatchOrError bytes
of_body bytes are long (broken records rest error read is wrong) = inr (error, no_record records rest long read is wrong)
of_body bytes are long (all records read is) =
    let eight : List ℕ = take 8 bytes in
    let four : List ℕ = take 4 (drop 8 bytes) in
    let first : ℕ = from_le_bytes w64 eight in
    let said : ℕ = from_le_bytes w32 four in
    let are_8 : AreBytes eight = bytes_take 8 bytes are in
    let are_4 : AreBytes four = bytes_take 4 (drop 8 bytes) (bytes_drop 8 bytes are) in
    cases_bool (said == count_of records)
    (λ same. inl (
      first,
      records,
      is_batch bytes first said records
          (le_bytes_8 eight first (omega (arith, length-take 8 bytes, long)) (bytes_at eight are_8) refl)
          (le_bytes_4 four said (omega (arith, length-take 4 (drop 8 bytes), length-drop 8 bytes, long)) (bytes_at four are_4) refl)
          is read (eqb-true said (count_of records) same) (eight_fit eight are_8) (four_fit four are_4),
    ))
    (λ differ. inr (Count said (count_of records), wrong_count records long read is refl (eqb-false said (count_of records) differ)))

pub batch_or_error : (bytes : List ℕ) → AreBytes bytes → BatchOrError bytes
batch_or_error bytes are = cases_bool (nat_lt (length bytes) 12)
    (λ few. inr (Short, no_header (ltb-true (length bytes) 12 few)))
    (λ long. of_body bytes are (ltb-false (length bytes) 12 long) (walk (length (drop 12 bytes)) (drop 12 bytes) (bytes_drop 12 bytes are) (omega arith)))
