-- What a right read of the log of the three commits gives.
use Rattle.std.proofs.Common.{◌≡◌, ℕ, ◌<◌, Bool, false, cond, List, [], ◌∷◌, ◌++◌, map, filter, flat_map, length, slice_index, refl, sym, subst, ap, ◌∙◌, arith}
use Rattle.std.proofs.Math.Dec.{lit<}
use Rattle.model_base.specs.Varint.{varint_within}
use Rattle.model_base.specs.Batch.{count_of}
use Rattle.model_base.specs.History.{Entry, last_of, last_sequence, logged_entries}
use Rattle.model_base.specs.Recovery.{Logged}
use Rattle.model_base.specs.Replies.{IsLogRead}
use Rattle.model_base.specs.Since.{LogRecord, since, is_since, records_in, record_of_batch}
use Rattle.model_base.specs.Text.{hex}
use Rattle.model_rows.specs.LogReads.{entry_a, entry_b, entry_c, three_commits, two_groups, both_records, hex_a, hex_c, over_new_log, read_from, read_up_to}

-- a record that takes no sequence is passed over
pub passed_over : (s at : ℕ) (b : Logged) (kept : List Logged) (groups : List (List Entry)) → count_of b.records ≡ 0 → since s at (records_in (b ∷ kept) groups) ≡ since s at (records_in kept groups)
passed_over s at b kept groups none =
    let empty : is_since s at (record_of_batch b) ≡ false = rw none refl in
    ap (λ (d : Bool). map (λ (r : LogRecord). r.bytes) (cond d (record_of_batch b ∷ filter (is_since s at) (records_in kept groups)) (filter (is_since s at) (records_in kept groups)))) empty

-- the commits up to the sequence 3 are all three
all_of_them : (front rest : List Entry) → three_commits ≡ front ++ rest → 3 ≡ last_sequence 0 front → front ≡ three_commits
all_of_them [] rest split ends = cc ends
all_of_them (d ∷ []) rest split ends = let first : entry_a ≡ d = cc split in absurd (omega (arith, ends, ap last_of first))
all_of_them (d ∷ e ∷ []) rest split ends = let second : entry_b ≡ e = cc split in absurd (omega (arith, ends, ap last_of second))
all_of_them (d ∷ e ∷ f ∷ []) rest split ends = cc split
all_of_them (d ∷ e ∷ f ∷ g ∷ front) rest split ends = absurd (cc split)

-- no boundary is above 3
none_later : (at : ℕ) (front rest : List Entry) → 3 < at → three_commits ≡ front ++ rest → at ≡ last_sequence 0 front → ⊥
none_later at [] rest above split ends = omega (arith, above, ends)
none_later at (d ∷ []) rest above split ends = let first : entry_a ≡ d = cc split in omega (arith, above, ends, ap last_of first)
none_later at (d ∷ e ∷ []) rest above split ends = let second : entry_b ≡ e = cc split in omega (arith, above, ends, ap last_of second)
none_later at (d ∷ e ∷ f ∷ []) rest above split ends = let third : entry_c ≡ f = cc split in omega (arith, above, ends, ap last_of third)
none_later at (d ∷ e ∷ f ∷ g ∷ front) rest above split ends = cc split

pub not_later : (s at : ℕ) (records : List (List ℕ)) → 3 < at → IsLogRead over_new_log (read_from s at records) → ⊥
not_later s at records above read = none_later at read.front read.is_front.rest above read.is_front.split read.is_front.ends

-- the log's first groups that have all logged commits are both groups
both_groups : (groups rest : List (List Entry)) → groups ++ rest ≡ two_groups → entry_a ∷ entry_c ∷ [] ≡ flat_map (λ g. g) groups → groups ≡ two_groups
both_groups [] rest are cut = absurd (cc cut)
both_groups (g ∷ []) rest are cut =
    let first : g ≡ entry_a ∷ [] = cc are in
    absurd (cc (subst (λ (x : List Entry). entry_a ∷ entry_c ∷ [] ≡ x ++ []) first cut))
both_groups (g ∷ h ∷ []) rest are cut = cc are
both_groups (g ∷ h ∷ i ∷ groups) rest are cut = absurd (cc are)

-- a right read gives what the log's two records are
pub only_those : (s : ℕ) (records : List (List ℕ)) → IsLogRead over_new_log (read_from s 3 records) → records ≡ since s 3 both_records
only_those s records read =
    let whole = all_of_them read.front read.is_front.rest read.is_front.split read.is_front.ends in
    let cut = subst (λ (es : List Entry). logged_entries es ≡ flat_map (λ g. g) read.groups) whole read.up_to.cut in
    let groups = both_groups read.groups read.in_log.0 read.in_log.1 cut in
    read.answer ∙ ap (λ (gs : List (List Entry)). since s 3 (records_in [] gs)) groups

pub only : (records : List (List ℕ)) → IsLogRead over_new_log (read_up_to 3 records) → map hex records ≡ hex_a ∷ hex_c ∷ []
unfolding varint_within
only records read = ap (map hex) (only_those 0 records read)

-- no right read gives another number of records
pub none_of_others : (records : List (List ℕ)) (digits : List (List ℕ)) → (2 ≡ length digits → ⊥) → map hex records ≡ digits → IsLogRead over_new_log (read_up_to 3 records) → ⊥
none_of_others records digits other are read = other (ap length (sym (only records read) ∙ are))

-- the second digit of the first record: the low one of its sequence
low_digit : List (List ℕ) → ℕ
low_digit [] = 0
low_digit (digits ∷ records) = slice_index digits 1

pub not_swapped : (records : List (List ℕ)) → map hex records ≡ hex_c ∷ hex_a ∷ [] → IsLogRead over_new_log (read_up_to 3 records) → ⊥
unfolding low_digit
not_swapped records are read =
    let same : 49 ≡ 51 = ap low_digit (sym (only records read) ∙ are) in
    omega (arith, same)

pub both : IsLogRead over_new_log (read_up_to 3 (since 0 3 both_records))
both = record {
  front = three_commits;
  is_front = record { rest = []; split = refl; ends = refl };
  groups = two_groups;
  in_log = ([], refl);
  up_to = record { cut = refl; none_empty = (lit< tt, (lit< tt, tt)); runs = (tt, (tt, tt)) };
  answer = refl;
}
