-- How large a group's batches are together.
use Rattle.std.proofs.Common.{◌≡◌, ℕ, suc, ◌+◌, ◌*◌, ◌≤◌, Bool, true, false, cond, nat_le, List, [], ◌∷◌, ◌++◌, length, refl, arith, length-append}
use Rattle.std.proofs.lemmas.Bool.{leb-true}
use Rattle.std.proofs.lemmas.List.Sums.{sum_by-cons}
use Rattle.model_base.specs.declared.limits.TheConstants.{MAX_SIZE}
use Rattle.model_base.specs.Batch.{Record, value, deletion, single_deletion, log_data, is_counted, count_of, record_bytes, body}
use Rattle.model_base.specs.History.{max_sequence}
use Rattle.log_batch.specs.Contents.{Contents}
use Rattle.log_writer.specs.Groups.{counts_of, body_lens_of}
use Rattle.engine_parts.specs.declared.requests.Request.{Request}
use Rattle.engine_parts.specs.Handled.{commit_requests_of}
use Rattle.engine_parts.specs.Numbering.{batches_of}
use Rattle.engine_rule.specs.Plans.{last_with_all}

abbrev counts : Record → ℕ
counts r = cond (is_counted r) 1 0

one_byte : (r : Record) → counts r ≤ length (record_bytes r)
one_byte (value family key v) = omega arith
one_byte (deletion family key) = omega arith
one_byte (single_deletion family key) = omega arith
one_byte (log_data blob) = omega arith

pub count_small : (records : List Record) → count_of records ≤ length (body records)
count_small [] = omega arith
count_small (r ∷ records) =
    let e : count_of (r ∷ records) ≡ counts r + count_of records = sum_by-cons counts r records in
    let l : length (body (r ∷ records)) ≡ length (record_bytes r) + length (body records) = length-append (record_bytes r) (body records) in
    let one = one_byte r in let more = count_small records in
    omega (arith, e, l, one, more)

abbrev many : Contents → ℕ
many c = count_of c.records

abbrev long : Contents → ℕ
long c = length (body c.records)

small_by : (last : ℕ) (x : ℕ × Request) (xs : List (ℕ × Request)) (b : Bool) → ((m : ℕ) → (counts_of (batches_of m xs) ≤ MAX_SIZE * length xs) × (body_lens_of (batches_of m xs) ≤ MAX_SIZE * length xs))
    → (counts_of (cond b (record x.1.batch { sequence = last + 1 } ∷ []) [] ++ batches_of (cond b (last + count_of x.1.batch.records) last) xs) ≤ MAX_SIZE * suc (length xs)) × (body_lens_of (cond b (record x.1.batch { sequence = last + 1 } ∷ []) [] ++ batches_of (cond b (last + count_of x.1.batch.records) last) xs) ≤ MAX_SIZE * suc (length xs))
small_by last x xs true more =
    let m = last + count_of x.1.batch.records in let t = more m in
    let e = sum_by-cons many (record x.1.batch { sequence = last + 1 }) (batches_of m xs) in let l = sum_by-cons long (record x.1.batch { sequence = last + 1 }) (batches_of m xs) in
    let c = count_small x.1.batch.records in let s = x.1.small in
    (omega (arith, e, c, s, t.0), omega (arith, l, s, t.1))
small_by last x xs false more = let t = more last in (omega (arith, t.0), omega (arith, t.1))

pub are_small : (last : ℕ) (xs : List (ℕ × Request)) → (counts_of (batches_of last xs) ≤ MAX_SIZE * length xs) × (body_lens_of (batches_of last xs) ≤ MAX_SIZE * length xs)
are_small last [] = (omega arith, omega arith)
are_small last (x ∷ xs) = small_by last x xs (nat_le (last + count_of x.1.batch.records) max_sequence) (λ m. are_small m xs)

reach_by : (last : ℕ) (x : ℕ × Request) (xs : List (ℕ × Request)) (b : Bool) → (b ≡ true → last + count_of x.1.batch.records ≤ max_sequence) → ((m : ℕ) → m ≤ max_sequence → (m + counts_of (batches_of m xs) ≡ last_with_all m (commit_requests_of xs)) × (last_with_all m (commit_requests_of xs) ≤ max_sequence)) → last ≤ max_sequence
    → (last + counts_of (cond b (record x.1.batch { sequence = last + 1 } ∷ []) [] ++ batches_of (cond b (last + count_of x.1.batch.records) last) xs) ≡ last_with_all (cond b (last + count_of x.1.batch.records) last) (commit_requests_of xs)) × (last_with_all (cond b (last + count_of x.1.batch.records) last) (commit_requests_of xs) ≤ max_sequence)
reach_by last x xs true fits more low =
    let m = last + count_of x.1.batch.records in let t = more m (fits refl) in
    let e = sum_by-cons many (record x.1.batch { sequence = last + 1 }) (batches_of m xs) in
    (omega (arith, e, t.0), t.1)
reach_by last x xs false fits more low = more last low

pub counts_reach : (last : ℕ) (xs : List (ℕ × Request)) → last ≤ max_sequence → (last + counts_of (batches_of last xs) ≡ last_with_all last (commit_requests_of xs)) × (last_with_all last (commit_requests_of xs) ≤ max_sequence)
counts_reach last [] low = (omega arith, low)
counts_reach last (x ∷ xs) low = reach_by last x xs (nat_le (last + count_of x.1.batch.records) max_sequence) (λ e. leb-true (last + count_of x.1.batch.records) max_sequence e) (λ m. counts_reach m xs) low
