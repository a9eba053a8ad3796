-- The versions that entries make: there are as many as their runs are long, and they make the same map.
use Rattle.std.proofs.Common.{◌≡◌, ℕ, ◌+◌, if◌then◌else◌, List, [], ◌∷◌, ◌++◌, length, map, refl, ap, sym, ◌∙◌, arith, length-append}
use Rattle.std.proofs.lemmas.List.Sums.{sum_by-cons}
use Rattle.model_base.specs.Batch.{Record, value, deletion, single_deletion, log_data, is_counted, count_of}
use Rattle.model_base.specs.Map.{Pairs, after_record, after_records}
use Rattle.model_base.specs.History.{Entry, IsHistory, last_of, last_sequence, map_over}
use Rattle.table_rule.specs.declared.content.Version.{Version}
use Rattle.table_rule.specs.Histories.{record_of}
use Rattle.table_rule.specs.Batches.{new_versions, number_from}
use Rattle.model_accounts.specs.Versions.{versions_of_entry, versions_of_entries}

-- Their number

abbrev counts : Record → ℕ
counts r = if is_counted r then 1 else 0

made_length : (records : List Record) → length (new_versions records) ≡ count_of records
made_length [] = refl
made_length (value f key v ∷ records) = let e : count_of (value f key v ∷ records) ≡ 1 + count_of records = sum_by-cons counts (value f key v) records in let h = made_length records in omega (arith, e, h)
made_length (deletion f key ∷ records) = let e : count_of (deletion f key ∷ records) ≡ 1 + count_of records = sum_by-cons counts (deletion f key) records in let h = made_length records in omega (arith, e, h)
made_length (single_deletion f key ∷ records) =
    let e : count_of (single_deletion f key ∷ records) ≡ 1 + count_of records = sum_by-cons counts (single_deletion f key) records in let h = made_length records in omega (arith, e, h)
made_length (log_data blob ∷ records) = let e : count_of (log_data blob ∷ records) ≡ 0 + count_of records = sum_by-cons counts (log_data blob) records in let h = made_length records in omega (arith, e, h)

numbered_length : (first : ℕ) (versions : List Version) → length (number_from first versions) ≡ length versions
numbered_length first [] = refl
numbered_length first (v ∷ versions) = let h = numbered_length (first + 1) versions in omega (arith, h)

-- they go from the sequence before the first entry to the one that was given last
pub versions_reach : (start : ℕ) (entries : List Entry) → IsHistory start entries → start + length (versions_of_entries entries) ≡ last_sequence start entries
versions_reach start [] is = omega arith
versions_reach start (e ∷ entries) is =
    let rest = versions_reach (last_of e) entries is.1 in
    let many : length (versions_of_entry e) ≡ e.count = numbered_length e.first (new_versions e.records) ∙ made_length e.records ∙ sym (is.0).counted in
    let both = length-append (versions_of_entry e) (versions_of_entries entries) in
    let first = is.0.first in
    let some = is.0.some in
    omega (arith, rest, many, both, first, some)

-- Their map

pub after_append : (m : Pairs) (some more : List Version) → after_records m (map record_of (some ++ more)) ≡ after_records (after_records m (map record_of some)) (map record_of more)
after_append m [] more = refl
after_append m (v ∷ some) more = after_append (after_record m (record_of v)) some more

after_made : (m : Pairs) (first : ℕ) (records : List Record) → after_records m (map record_of (number_from first (new_versions records))) ≡ after_records m records
after_made m first [] = refl
after_made m first (value f key v ∷ records) = after_made (after_record m (value f key v)) (first + 1) records
after_made m first (deletion f key ∷ records) = after_made (after_record m (deletion f key)) (first + 1) records
after_made m first (single_deletion f key ∷ records) = after_made (after_record m (single_deletion f key)) (first + 1) records
after_made m first (log_data blob ∷ records) = after_made m first records

pub after_entries : (m : Pairs) (entries : List Entry) → after_records m (map record_of (versions_of_entries entries)) ≡ map_over m entries
after_entries m [] = refl
after_entries m (e ∷ entries) =
    after_append m (versions_of_entry e) (versions_of_entries entries)
    ∙ ap (λ n. after_records n (map record_of (versions_of_entries entries))) (after_made m e.first e.records)
    ∙ after_entries (after_records m e.records) entries
