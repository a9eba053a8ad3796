-- A batch that recovery reads is shown as its records, and what it refuses one for is shown too.
use Rattle.std.proofs.Common.{◌≡◌, ℕ, ◌+◌, ◌≤◌, ◌==◌, Bool, true, false, cond, Some, None, List, [], ◌∷◌, ◌++◌, length, take, drop, map, fold, refl, sym, ◌∙◌, ap, arith, append-nil}
use Rattle.std.proofs.lemmas.Bool.{eq-eqb}
use Rattle.std.proofs.lemmas.Nat.{from_le_bytes-to_le_bytes_4, from_le_bytes-to_le_bytes_8}
use Rattle.std.specs.Int.{w32, w64, from_le_bytes}
use Rattle.std.specs.List.{AllByRecursion}
use Rattle.model_base.specs.declared.batch.BatchError.TheVariants.{Count}
use Rattle.model_base.specs.Batch as batch
use Rattle.model_base.specs.Batch.{Record, value, deletion, single_deletion, log_data, record_bytes, IsReadable, IsBatch}
use Rattle.batch_operations.specs.Operations.{IsOperation, body, count_of, is_counted}
use Rattle.batch_operations.specs.Shown.{Have, Shows, whole, with_count, sequence_in, count_in}
use Rattle.batch_operations.specs.Batches.{shown_operation, shown_batch}

is_operation : (r : Record) → IsReadable r → IsOperation (shown_operation r)
is_operation (value None k v) is = record { layout = record { names_family = false; strings = 2; counts = true }; known = refl; named = refl; family = is.family; as_many = refl; short = is.lengths }
is_operation (value (Some f) k v) is = record { layout = record { names_family = true; strings = 2; counts = true }; known = refl; named = refl; family = is.family; as_many = refl; short = is.lengths }
is_operation (deletion None k) is = record { layout = record { names_family = false; strings = 1; counts = true }; known = refl; named = refl; family = is.family; as_many = refl; short = is.lengths }
is_operation (deletion (Some f) k) is = record { layout = record { names_family = true; strings = 1; counts = true }; known = refl; named = refl; family = is.family; as_many = refl; short = is.lengths }
is_operation (single_deletion None k) is = record { layout = record { names_family = false; strings = 1; counts = true }; known = refl; named = refl; family = is.family; as_many = refl; short = is.lengths }
is_operation (single_deletion (Some f) k) is = record { layout = record { names_family = true; strings = 1; counts = true }; known = refl; named = refl; family = is.family; as_many = refl; short = is.lengths }
is_operation (log_data b) is = record { layout = record { names_family = false; strings = 1; counts = false }; known = refl; named = refl; family = is.family; as_many = refl; short = is.lengths }

pub all_are : (records : List Record) → AllByRecursion IsReadable records → AllByRecursion IsOperation (map shown_operation records)
all_are [] read = tt
all_are (r ∷ records) read = (is_operation r read.0, all_are records read.1)

pub body_same : (records : List Record) → body (map shown_operation records) ≡ batch.body records
body_same [] = refl
body_same (r ∷ records) = ap (λ (l : List ℕ). record_bytes r ++ l) (body_same records)

counted_same : (r : Record) → is_counted (shown_operation r) ≡ batch.is_counted r
counted_same (value None k v) = refl
counted_same (value (Some f) k v) = refl
counted_same (deletion None k) = refl
counted_same (deletion (Some f) k) = refl
counted_same (single_deletion None k) = refl
counted_same (single_deletion (Some f) k) = refl
counted_same (log_data b) = refl

counted_from : (records : List Record) (n : ℕ) → fold (λ a o. a + cond (is_counted o) 1 0) n (map shown_operation records) ≡ fold (λ a r. a + cond (batch.is_counted r) 1 0) n records
counted_from [] n = refl
counted_from (r ∷ records) n =
    ap (λ (b : Bool). fold (λ a o. a + cond (is_counted o) 1 0) (n + cond b 1 0) (map shown_operation records)) (counted_same r) ∙ counted_from records (n + cond (batch.is_counted r) 1 0)

pub count_same : (records : List Record) → count_of (map shown_operation records) ≡ batch.count_of records
count_same records = counted_from records 0

pub batch_shown : (bytes : List ℕ) (sequence : ℕ) (records : List Record) → IsBatch bytes sequence records → Shows bytes (shown_batch sequence records)
batch_shown bytes sequence records is =
    let operations = map shown_operation records in
    let said : count_in bytes ≡ batch.count_of records = ap (λ (l : List ℕ). from_le_bytes w32 (take 4 (drop 8 l))) is.spelled ∙ from_le_bytes-to_le_bytes_4 (batch.count_of records) is.count_fits in
    let first : sequence_in bytes ≡ sequence = ap (λ (l : List ℕ). from_le_bytes w64 (take 8 l)) is.spelled ∙ from_le_bytes-to_le_bytes_8 sequence is.sequence_fits in
    let long : 12 ≤ length bytes = omega (arith, ap length is.spelled) in
    let have : Have (drop 12 bytes) operations None = record {
      rest = [];
      are = all_are records is.readable;
      spelled = ap (drop 12) is.spelled ∙ (sym (body_same records) ∙ sym (append-nil (body operations)));
      ends = refl;
    } in
    let counts : (batch.count_of records == count_of operations) ≡ true = eq-eqb (batch.count_of records) (count_of operations) (sym (count_same records)) in
    let no_fault : with_count (batch.count_of records) operations None ≡ None = ap (λ (b : Bool). cond b None (Some (Count (batch.count_of records) (count_of operations)))) counts in
    let shown : Shows bytes (record {
      head = Some (record { sequence = sequence_in bytes; count = count_in bytes });
      operations = operations;
      fault = with_count (count_in bytes) operations None;
    }) = whole {fault = None} long have in
    rw (first, said, no_fault) at shown
