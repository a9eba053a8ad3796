-- What an addition changes in a batch.
use Rattle.std.proofs.Common.{◌≡◌, ℕ, ◌+◌, ◌≤◌, ◌<◌, ◌^◌, IsTrue, flat_map, List, [], ◌∷◌, ◌++◌, length, take, drop, refl, sym, ◌∙◌, ap, arith, length-append, append_assoc, append-nil}
use Rattle.std.proofs.lemmas.Grind.{flat_map-append, common_steps}
use Rattle.std.proofs.lemmas.List.Sums.{count_by-le-length}
use Rattle.std.specs.Int.{w32, w64, to_le_bytes}
use Rattle.model_base.specs.declared.limits.TheConstants.{MAX_SIZE}
use Rattle.model_base.specs.Batch.{Record, value, deletion, single_deletion, log_data, is_counted, is_tag, tag_of, named_by, strings_of, varstring, count_of, header, record_bytes, family_bytes, body, IsReadable, size_of_batch}
use Rattle.model_base.specs.Varint.{varint}
use Rattle.std.specs.List.{AllByRecursion}
use Rattle.std.specs.Prelude.{Some, None}
use Rattle.base_bytes.proofs.Records.{AreShort, IsSmall}
use Rattle.log_batch.specs.Contents.{IsBatch}
use Rattle.log_batch.specs.OneBatch.{same_records}

-- If a batch's bytes are those of some additions, these are the batch's additions.
pub records_are : (bytes : List ℕ) (sequence count : ℕ) (h : IsBatch bytes sequence count) (records : List Record) → AllByRecursion IsReadable records → count ≡ count_of records → bytes ≡ header sequence count ++ body records → h.records ≡ records
records_are bytes sequence count h records readable count_is bytes_are =
    same_records bytes sequence count h (record { records = records; count_is = count_is; readable = readable; bytes_are = bytes_are; fits = h.fits })

-- The body with one more record.
pub body-added : (records : List Record) (r : Record) → body (records ++ r ∷ []) ≡ body records ++ record_bytes r
body-added records r = flat_map-append record_bytes records (r ∷ []) ∙ ap (λ (l : List ℕ). body records ++ l) (append-nil (record_bytes r))

-- The count with one more record.
pub count_of-added : (records : List Record) (r : Record) → count_of (records ++ r ∷ []) ≡ count_of records + count_of (r ∷ [])
count_of-added records r = grind (arith, common_steps)

-- A record counts once at most.
pub counts_once : (r : Record) → count_of (r ∷ []) ≤ 1
counts_once (value f k v) = omega arith
counts_once (deletion f k) = omega arith
counts_once (single_deletion f k) = omega arith
counts_once (log_data k) = omega arith

-- strings whose bytes, with their lengths, are fewer than 2 ^ 32 are short
few_strings : (strings : List (List ℕ)) → length (flat_map varstring strings) < 2 ^ 32 → AreShort strings
few_strings [] few = tt
few_strings (s ∷ strings) few =
    let all = length-append (varstring s) (flat_map varstring strings) in
    (omega (arith, few, all, length-append (varint (length s)) s), few_strings strings (omega (arith, few, all)))

each_tag : (r : Record) → IsTrue (is_tag (tag_of r))
each_tag (value None k v) = refl
each_tag (value (Some f) k v) = refl
each_tag (deletion None k) = refl
each_tag (deletion (Some f) k) = refl
each_tag (single_deletion None k) = refl
each_tag (single_deletion (Some f) k) = refl
each_tag (log_data b) = refl

-- A record of few bytes whose family is small is readable.
pub few_readable : (r : Record) → IsSmall (named_by r) → length (record_bytes r) < 2 ^ 32 → IsReadable r
few_readable r small few = record {
  tag = each_tag r;
  family = small;
  lengths = few_strings (strings_of r) (omega (arith, few, length-append (family_bytes (named_by r)) (flat_map varstring (strings_of r))));
}

-- What holds of each of a list and of others holds of all.
pub all_both : {X : Type 0} (P : X → Type 0) (xs ys : List X) → AllByRecursion P xs → AllByRecursion P ys → AllByRecursion P (xs ++ ys)
all_both P [] ys all more = more
all_both P (x ∷ xs) ys all more = (all.0, all_both P xs ys all.1 more)

-- Each record has at least one byte, so there are no more records than bytes.
pub few_records : (records : List Record) → length records ≤ length (body records)
few_records [] = omega arith
few_records (r ∷ records) = omega (arith, few_records records, length-append (record_bytes r) (body records))

-- Setting another sequence in the header changes nothing else.
pub sequence_set : (bytes : List ℕ) (s t n : ℕ) (tail : List ℕ) → bytes ≡ header s n ++ tail → take 0 bytes ++ to_le_bytes w64 t ++ drop (0 + length (to_le_bytes w64 t)) bytes ≡ header t n ++ tail
sequence_set bytes s t n tail e = rw e refl

-- Setting another count in the header changes nothing else.
pub count_set : (bytes : List ℕ) (s n m : ℕ) (tail : List ℕ) → bytes ≡ header s n ++ tail → take 8 bytes ++ to_le_bytes w32 m ++ drop (8 + length (to_le_bytes w32 m)) bytes ≡ header s m ++ tail
count_set bytes s n m tail e = rw e refl

-- If the bytes are cut after the header, nothing follows the header.
pub cut : (bytes : List ℕ) (s n : ℕ) (tail : List ℕ) → bytes ≡ header s n ++ tail → drop 12 (take 12 bytes) ≡ []
cut bytes s n tail e = rw e refl

-- A batch's count is at most `MAX_SIZE`.
pub small_count : (bytes : List ℕ) (s n : ℕ) (h : IsBatch bytes s n) → n ≤ MAX_SIZE
small_count bytes s n h =
    omega (arith, h.count_is, count_by-le-length is_counted h.records, few_records h.records, h.fits, ap length h.bytes_are, length-append (header s n) (body h.records))

-- The body of more records.
pub body-appended : (records more : List Record) → body (records ++ more) ≡ body records ++ body more
body-appended records more = flat_map-append record_bytes records more

-- The count with more records.
pub count_of-appended : (records more : List Record) → count_of (records ++ more) ≡ count_of records + count_of more
count_of-appended records more = grind (arith, common_steps)

-- No more records count than there are bytes.
pub counts_no_more : (records : List Record) → count_of records ≤ length (body records)
counts_no_more records = omega (arith, count_by-le-length is_counted records, few_records records)

-- Appending the bodies to the old bytes, and then setting the new count in the header, makes the batch with these
-- additions.
pub appended_bytes : (old all now : List ℕ) (s n m : ℕ) (records more : List Record) → old ≡ header s n ++ body records → all ≡ old ++ body more
    → now ≡ take 8 all ++ to_le_bytes w32 m ++ drop (8 + length (to_le_bytes w32 m)) all → now ≡ header s m ++ body (records ++ more)
appended_bytes old all now s n m records more is_old is_all is_now =
    let behind : all ≡ header s n ++ (body records ++ body more) =
    is_all ∙ ap (λ (l : List ℕ). l ++ body more) is_old ∙ append_assoc (header s n) (body records) (body more) in
    is_now ∙ count_set all s n m (body records ++ body more) behind ∙ ap (λ (l : List ℕ). header s m ++ l) (sym (body-appended records more))

-- The batch with these additions has as many bytes as the old batch and the bodies together.
pub appended_fits : (now : List ℕ) (s n limit : ℕ) (records more : List Record) → now ≡ header s n ++ body (records ++ more) → size_of_batch records + length (body more) ≤ limit
    → length now ≤ limit
appended_fits now s n limit records more is_now fits =
    omega (arith, fits, ap length is_now, ap length (body-appended records more), length-append (body records) (body more))

-- Appending the record to the old bytes, and then setting the new count in the header, makes the batch with this
-- addition.
pub added_bytes : (old more now : List ℕ) (s n m : ℕ) (records : List Record) (r : Record) → old ≡ header s n ++ body records → more ≡ old ++ record_bytes r
    → now ≡ take 8 more ++ to_le_bytes w32 m ++ drop (8 + length (to_le_bytes w32 m)) more → now ≡ header s m ++ body (records ++ r ∷ [])
added_bytes old more now s n m records r is_old is_more is_now =
    let behind : more ≡ header s n ++ (body records ++ record_bytes r) =
    is_more ∙ ap (λ (l : List ℕ). l ++ record_bytes r) is_old ∙ append_assoc (header s n) (body records) (record_bytes r) in
    is_now ∙ count_set more s n m (body records ++ record_bytes r) behind ∙ ap (λ (l : List ℕ). header s m ++ l) (sym (body-added records r))

-- The batch with this addition has as many bytes as the old batch and the record together.
pub added_fits : (now : List ℕ) (s n limit : ℕ) (records : List Record) (r : Record) → now ≡ header s n ++ body (records ++ r ∷ []) → size_of_batch records + length (record_bytes r) ≤ limit
    → length now ≤ limit
added_fits now s n limit records r is_now fits =
    omega (arith, fits, ap length is_now, ap length (body-added records r), length-append (body records) (record_bytes r))
