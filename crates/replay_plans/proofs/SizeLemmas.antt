-- The sizes of batches, record by record.
use Rattle.std.proofs.Common.{◌≡◌, ℕ, ◌+◌, ◌≤◌, nat_le, Bool, true, false, List, [], ◌∷◌, ◌++◌, length, Option, Some, None, refl, sym, ap, ◌∙◌, arith}
use Rattle.std.specs.Prelude.{if◌then◌else◌}
use Rattle.std.specs.List.{cons_option}
use Rattle.std.specs.Option.{option_or}
use Rattle.std.proofs.lemmas.List.{length-append}
use Rattle.std.proofs.lemmas.List.Folds.{find-append}
use Rattle.std.proofs.lemmas.List.Sums.{sum_by-append}
use Rattle.model_base.specs.Batch.{Record, value, deletion, single_deletion, log_data, count_of, is_counted, record_bytes, header, body, size_of_batch}
use Rattle.model_base.specs.Map.{family_of}
use Rattle.model_base.specs.Progress.{families_in, first_missing}
use Rattle.replay_plans.specs.Small.{record_size, record_count, missing_in}

body_push : (rs : List Record) (r : Record) → length (body (rs ++ r ∷ [])) ≡ length (body rs) + length (record_bytes r)
body_push [] r = length-append (record_bytes r) [] ∙ (let e : length (record_bytes r) + 0 ≡ 0 + length (record_bytes r) = omega arith in e)
body_push (x ∷ rs) r = length-append (record_bytes x) (body (rs ++ r ∷ [])) ∙ (let e : length (record_bytes x) + length (body (rs ++ r ∷ [])) ≡ length (record_bytes x ++ body rs) + length (record_bytes r) = omega (arith, body_push rs r, length-append (record_bytes x) (body rs)) in e)

pub size_is : (rs : List Record) → size_of_batch rs ≡ 12 + length (body rs)
size_is rs = length-append (header 0 (count_of rs)) (body rs)

pub size_push : (rs : List Record) (r : Record) → size_of_batch (rs ++ r ∷ []) ≡ size_of_batch rs + length (record_bytes r)
size_push rs r = omega (arith, size_is rs, size_is (rs ++ r ∷ []), body_push rs r)

append_none : (rs : List Record) → rs ++ [] ≡ rs
append_none [] = refl
append_none (r ∷ rs) = ap (λ xs. r ∷ xs) (append_none rs)

pub size_more : (rs : List Record) (o : Option Record) → size_of_batch (rs ++ cons_option o []) ≡ size_of_batch rs + record_size o
size_more rs None = ap size_of_batch (append_none rs) ∙ (let e : size_of_batch rs ≡ size_of_batch rs + 0 = omega arith in e)
size_more rs (Some r) = size_push rs r

count_one : (r : Record) → count_of (r ∷ []) ≡ record_count (Some r)
count_one (value family key v) = refl
count_one (deletion family key) = refl
count_one (single_deletion family key) = refl
count_one (log_data blob) = refl

pub count_more : (rs : List Record) (o : Option Record) → count_of (rs ++ cons_option o []) ≡ count_of rs + record_count o
count_more rs None = ap count_of (append_none rs) ∙ (let e : count_of rs ≡ count_of rs + 0 = omega arith in e)
count_more rs (Some r) = sum_by-append (λ (x : Record). if is_counted x then 1 else 0) rs (r ∷ []) ∙ ap (λ n. count_of rs + n) (count_one r)

pub count_below : (o : Option Record) → record_count o ≤ record_size o
count_below None = omega arith
count_below (Some r) = by_test (is_counted r)
  where
    by_test : (b : Bool) → (if b then 1 else 0) ≤ length (record_bytes r)
    by_test true = omega arith
    by_test false = omega arith

families_both : (xs ys : List Record) → families_in (xs ++ ys) ≡ families_in xs ++ families_in ys
families_both [] ys = refl
families_both (value family key v ∷ xs) ys = ap (λ (l : List ℕ). family_of family ∷ l) (families_both xs ys)
families_both (deletion family key ∷ xs) ys = ap (λ (l : List ℕ). family_of family ∷ l) (families_both xs ys)
families_both (single_deletion family key ∷ xs) ys = ap (λ (l : List ℕ). family_of family ∷ l) (families_both xs ys)
families_both (log_data blob ∷ xs) ys = families_both xs ys

-- the first missing family of a batch with one more record
pub missing_more : (families : ℕ) (rs : List Record) (o : Option Record)
    → first_missing families (families_in (rs ++ cons_option o [])) ≡ option_or (first_missing families (families_in rs)) (missing_in families o)
missing_more families rs None = ap (λ xs. first_missing families (families_in xs)) (append_none rs) ∙ sym (or_none (first_missing families (families_in rs)))
  where
    or_none : (o : Option ℕ) → option_or o None ≡ o
    or_none None = refl
    or_none (Some n) = refl
missing_more families rs (Some r) =
    ap (first_missing families) (families_both rs (r ∷ [])) ∙ find-append (λ family. nat_le families family) (families_in rs) (families_in (r ∷ []))
