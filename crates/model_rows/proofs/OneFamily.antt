-- Definitions with families, where none is named.
use Rattle.std.proofs.Common.{◌≡◌, ℕ, ◌≤◌, nat_le, Bool, true, false, cond, Option, List, [], ◌∷◌, ◌++◌, map, filter, flat_map, length, MatchOption, refl, ap, suc, ◌∙◌, arith}
use Rattle.std.specs.Prelude.{Some, None}
use Rattle.std.specs.List.{AllByRecursion}
use Rattle.std.specs.Map.{remove_entry}
use Rattle.std.specs.BTreeMap.{insert_entry, is_at}
use Rattle.std.specs.Ordering.{match_ordering, is_eq}
use Rattle.std.specs.declared.cmp.Ordering.TheVariants.{Less, Equal, Greater}
use Rattle.std.proofs.lemmas.Bool.{leb-true}
use Rattle.model_base.specs.declared.key.Key.{Key}
use Rattle.model_base.specs.Batch.{Record, value, deletion, single_deletion, log_data, record_bytes, tag_of, strings_of, varstring}
use Rattle.model_base.specs.Map.{Rows, Pairs, after_record, after_records, byte_order, is_between, key_at, key_order, row_at, rows_of, rows_within, value_at}
use Rattle.model_base.specs.Progress.{families_in, first_missing}
use Rattle.model_base.specs.Text.{key_words, line}
use Rattle.model_rows.specs.OneFamily.{NamesNone, default_pairs, row_after, rows_after}

pub its_bytes : (r : Record) → NamesNone r → record_bytes r ≡ tag_of r ∷ flat_map varstring (strings_of r)
its_bytes (value None key v) none = refl
its_bytes (value (Some f) key v) none = absurd (cc none)
its_bytes (deletion None key) none = refl
its_bytes (deletion (Some f) key) none = absurd (cc none)
its_bytes (single_deletion None key) none = refl
its_bytes (single_deletion (Some f) key) none = absurd (cc none)
its_bytes (log_data blob) none = refl

-- ---- maps

put_default : (rows : Rows) (k v : List ℕ) → insert_entry key_order (default_pairs rows) (key_at 0 k) v ≡ default_pairs (insert_entry byte_order rows k v)
put_default [] k v = refl
put_default (r ∷ rows) k v =
    elim (byte_order k r.0) as (λ o. match_ordering o ((key_at 0 k, v) ∷ (key_at 0 r.0, r.1) ∷ default_pairs rows) ((key_at 0 r.0, v) ∷ default_pairs rows)
    ((key_at 0 r.0, r.1) ∷ insert_entry key_order (default_pairs rows) (key_at 0 k) v)
    ≡ default_pairs (match_ordering o ((k, v) ∷ r ∷ rows) ((r.0, v) ∷ rows) (r ∷ insert_entry byte_order rows k v))) [
      | Less ↦ refl
      | Equal ↦ refl
      | Greater ↦ ap (λ (l : Pairs). (key_at 0 r.0, r.1) ∷ l) (put_default rows k v)
    ]

cut_default : (rows : Rows) (k : List ℕ) → remove_entry (is_at (key_order (key_at 0 k))) (default_pairs rows) ≡ default_pairs (remove_entry (is_at (byte_order k)) rows)
cut_default [] k = refl
cut_default (r ∷ rows) k =
    elim (is_eq (byte_order k r.0)) as (λ b. cond b (default_pairs rows) ((key_at 0 r.0, r.1) ∷ remove_entry (is_at (key_order (key_at 0 k))) (default_pairs rows))
    ≡ default_pairs (cond b rows (r ∷ remove_entry (is_at (byte_order k)) rows))) [
      | true ↦ refl
      | false ↦ ap (λ (l : Pairs). (key_at 0 r.0, r.1) ∷ l) (cut_default rows k)
    ]

one_after : (rows : Rows) (r : Record) → NamesNone r → after_record (default_pairs rows) r ≡ default_pairs (row_after rows r)
one_after rows (value None key v) none = put_default rows key v
one_after rows (value (Some f) key v) none = absurd (cc none)
one_after rows (deletion None key) none = cut_default rows key
one_after rows (deletion (Some f) key) none = absurd (cc none)
one_after rows (single_deletion None key) none = cut_default rows key
one_after rows (single_deletion (Some f) key) none = absurd (cc none)
one_after rows (log_data blob) none = refl

pub all_after : (rows : Rows) (records : List Record) → AllByRecursion NamesNone records → after_records (default_pairs rows) records ≡ default_pairs (rows_after rows records)
all_after rows [] none = refl
all_after rows (r ∷ records) none = ap (λ (m : Pairs). after_records m records) (one_after rows r none.0) ∙ all_after (row_after rows r) records none.1

pub found_default : (rows : Rows) (key : List ℕ) → value_at (default_pairs rows) (key_at 0 key) ≡ row_at rows key
found_default [] key = refl
found_default (r ∷ rows) key = ap (λ (found : Option (List ℕ)). cond (is_eq (byte_order key r.0)) (Some r.1) found) (found_default rows key)

its_rows : (rows : Rows) → rows_of 0 (default_pairs rows) ≡ rows
its_rows [] = refl
its_rows (r ∷ rows) = ap (λ (l : Rows). r ∷ l) (its_rows rows)

pub within_default : (rows : Rows) (lo hi : List ℕ) → rows_within 0 lo hi (default_pairs rows) ≡ filter (λ r. is_between lo hi r.0) rows
within_default rows lo hi = ap (filter (λ r. is_between lo hi r.0)) (its_rows rows)

-- ---- checks

pub first_there : (families : ℕ) (fs : List ℕ) → 1 ≤ families → first_missing families fs ≡ None → first_missing families (0 ∷ fs) ≡ None
first_there families fs some rest = by (nat_le families 0) refl
  where
    by : (b : Bool) → nat_le families 0 ≡ b → cond b (Some 0) (first_missing families fs) ≡ None
    by true is = absurd (omega (arith, some, leb-true families 0 is))
    by false is = rest

pub none_missing : (families : ℕ) (records : List Record) → 1 ≤ families → AllByRecursion NamesNone records → first_missing families (families_in records) ≡ None
none_missing families [] some none = refl
none_missing families (value None key v ∷ records) some none = first_there families (families_in records) some (none_missing families records some none.1)
none_missing families (value (Some f) key v ∷ records) some none = absurd (cc none.0)
none_missing families (deletion None key ∷ records) some none = first_there families (families_in records) some (none_missing families records some none.1)
none_missing families (deletion (Some f) key ∷ records) some none = absurd (cc none.0)
none_missing families (single_deletion None key ∷ records) some none = first_there families (families_in records) some (none_missing families records some none.1)
none_missing families (single_deletion (Some f) key ∷ records) some none = absurd (cc none.0)
none_missing families (log_data blob ∷ records) some none = none_missing families records some none.1

pub default_keys : (families : ℕ) (keys : List (List ℕ)) → 1 ≤ families → first_missing families (map (λ (k : Key). k.family) (map (key_at 0) keys)) ≡ None
default_keys families [] some = refl
default_keys families (key ∷ keys) some = first_there families (map (λ (k : Key). k.family) (map (key_at 0) keys)) some (default_keys families keys some)

-- what is said where no family is missing, and back
pub answered : {A : Type 0} (B : ℕ → Type 0) (missing : Option ℕ) → missing ≡ None → MatchOption missing A B → A
answered B None none says = says
answered B (Some f) none says = absurd (cc none)

pub as_answered : {A : Type 0} (B : ℕ → Type 0) (missing : Option ℕ) → missing ≡ None → A → MatchOption missing A B
as_answered B None none says = says
as_answered B (Some f) none says = absurd (cc none)

-- ---- texts

-- a pair's line, where `word` says how a key or a value is printed
abbrev pub pair_line : (List ℕ → List ℕ) → Key × List ℕ → List ℕ
pair_line word p = line (key_words word p.0 ++ word p.1 ∷ [])

pub its_lines : (word : List ℕ → List ℕ) (rows : Rows) → flat_map (pair_line word) (default_pairs rows) ≡ flat_map (λ r. line (word r.0 ∷ word r.1 ∷ [])) rows
its_lines word [] = refl
its_lines word (r ∷ rows) = ap (λ (l : List ℕ). line (word r.0 ∷ word r.1 ∷ []) ++ l) (its_lines word rows)

pub counted_rows : (rows : Rows) → length (default_pairs rows) ≡ length rows
counted_rows [] = refl
counted_rows (r ∷ rows) = ap suc (counted_rows rows)
