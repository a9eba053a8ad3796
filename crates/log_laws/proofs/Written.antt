-- The text that the writer makes spells the records that it was given.
use Rattle.std.proofs.Common.{Option, Some, None, ◌≡◌, ℕ, zero, suc, ◌+◌, ◌-◌, ◌*◌, ◌%◌, ◌<◌, ◌≤◌, Bool, true, false, List, [], ◌∷◌, ◌++◌, length, take, drop, map, refl, sym, ◌∙◌, ap, subst, arith, cond, nat_lt, nat_le, length-take, length-drop, add-zero, zero-add}
use Rattle.std.proofs.lemmas.List.{take-append-drop, append-nil, map-append}
use Rattle.std.proofs.lemmas.Bool.{ltb-false, leb-true, leb-false}
use Rattle.std.proofs.lemmas.Grind.{div_ceil_times, flat_map-append}
use Rattle.std.proofs.Math.Dec.{lit<}
use Rattle.std.specs.Simd.{first_chunks}
use Rattle.std.specs.Int.{div_ceil}
use Rattle.std.specs.List.{AllByRecursion, flat_map}
use Rattle.model_base.specs.Log.{header_len, part_len, first, middle, Fragment, room, next_place, fragments_text, FitFrom, GoesToLast, AreOneRecord, kinds_of, all_fragments, record_of, SpellsWhole, pieces_of, parts_of, later_fragments, as_fragments, record_text, text_from, text, plain_log}
use Rattle.model_base.specs.Reading.{end_of}
use Rattle.log_laws.proofs.Seen.{header_small, with_header}
use Rattle.log_laws.proofs.Placed.{behind, end_none, end_more, placed_append}
use Rattle.log_laws.proofs.Agree.{Whole}
use Rattle.log_laws.proofs.Next.{cases_bool}

-- the parts make one record, whatever bytes they have
later_is_one : (p : List ℕ) (ps : List (List ℕ)) → GoesToLast (kinds_of (later_fragments (p ∷ ps)))
later_is_one p [] = refl
later_is_one p (q ∷ ps) = later_is_one q ps

as_one : (p : List ℕ) (ps : List (List ℕ)) → AreOneRecord (kinds_of (as_fragments (p ∷ ps)))
as_one p [] = refl
as_one p (q ∷ ps) = later_is_one q ps

joined : List (List ℕ) → List ℕ
joined ps = flat_map (λ p. p) ps

later_record : (ps : List (List ℕ)) → record_of (later_fragments ps) ≡ joined ps
unfolding joined
later_record [] = refl
later_record (p ∷ []) = refl
later_record (p ∷ q ∷ ps) = ap (λ (l : List ℕ). p ++ l) (later_record (q ∷ ps))

as_record : (ps : List (List ℕ)) → record_of (as_fragments ps) ≡ joined ps
unfolding joined
as_record [] = refl
as_record (p ∷ []) = refl
as_record (p ∷ q ∷ ps) = ap (λ (l : List ℕ). p ++ l) (later_record (q ∷ ps))

-- the list cut into pieces of n; only the last piece may be shorter
ArePieces : ℕ → List (List ℕ) → Type 0
ArePieces n [] = Unit {0}
ArePieces n (p ∷ []) = length p ≤ n
ArePieces n (p ∷ q ∷ ps) = (length p ≡ n) × ArePieces n (q ∷ ps)

chunks_joined : (n k : ℕ) (xs : List ℕ) → length xs ≤ k * n → joined (first_chunks n k xs) ≡ xs
unfolding joined
chunks_joined n zero [] le = refl
chunks_joined n zero (x ∷ xs) le = absurd (omega arith)
chunks_joined n (suc k) xs le = ap (λ (l : List ℕ). take n xs ++ l) (chunks_joined n k (drop n xs) (omega (arith, length-drop n xs, le))) ∙ take-append-drop n xs

chunks_are_pieces : (n k : ℕ) (xs : List ℕ) → k * n < length xs → ArePieces n (first_chunks n (suc k) xs)
unfolding ArePieces
chunks_are_pieces n zero xs more = omega (arith, length-take n xs)
chunks_are_pieces n (suc k) xs more = (omega (arith, length-take n xs, more), chunks_are_pieces n k (drop n xs) (omega (arith, length-drop n xs, more)))

-- at the start of a block no zeros come before a fragment
start_of_block : (number : Option ℕ) → (offset : ℕ) → offset % 32768 ≡ 0 → next_place number offset ≡ offset
start_of_block None offset e = ap (λ (r : ℕ). offset + cond (nat_lt (32768 - r) 7) (32768 - r) 0) e ∙ add-zero offset
start_of_block (Some m) offset e = ap (λ (r : ℕ). offset + cond (nat_lt (32768 - r) 11) (32768 - r) 0) e ∙ add-zero offset

later_fit : (number : Option ℕ) → (offset : ℕ) (ps : List (List ℕ)) → offset % 32768 ≡ 0 → ArePieces (part_len number) ps → FitFrom number offset (later_fragments ps)
unfolding ArePieces
later_fit number offset [] e are = tt
later_fit number offset (p ∷ []) e are = let here = start_of_block number offset e in (omega (arith, here, e, are, with_header number), tt)
later_fit number offset (p ∷ q ∷ ps) e are =
    let here = start_of_block number offset e in
    (omega (arith, here, e, are.0, with_header number), later_fit number (behind number offset (record { kind = middle; part = p })) (q ∷ ps) (omega (arith, here, e, are.0, with_header number)) are.1)

-- the next fragment has room for its header
room_for_header : (number : Option ℕ) → (offset : ℕ) → (header_len number) ≤ room (next_place number offset)
room_for_header number offset = cases_bool (nat_lt (room offset) (header_len number))
    (λ few. let here : next_place number offset ≡ offset + room offset = ap (λ (b : Bool). offset + cond b (room offset) 0) few in omega (arith, here, header_small number))
    (λ none. let here : next_place number offset ≡ offset = ap (λ (b : Bool). offset + cond b (room offset) 0) none ∙ add-zero offset in omega (arith, here, header_small number, ltb-false (room offset) (header_len number) none))

-- a record's parts, written from an offset on, are one record, fit into their blocks, and joined are the record's bytes
pub record AreParts (number : Option ℕ) (offset : ℕ) (bytes : List ℕ) (parts : List (List ℕ)) : Type 0 where
  pub whole : AreOneRecord (kinds_of (as_fragments parts))
  pub same : record_of (as_fragments parts) ≡ bytes
  pub fit : FitFrom number offset (as_fragments parts)

one_part : (number : Option ℕ) → (offset : ℕ) (bytes : List ℕ) → (header_len number) + length bytes ≤ room (next_place number offset) → AreParts number offset bytes (bytes ∷ [])
one_part number offset bytes fits = record { whole = refl; same = append-nil bytes; fit = (fits, tt) }

several_parts : (number : Option ℕ) → (offset : ℕ) (bytes : List ℕ) (space k : ℕ) → (header_len number) + space ≡ room (next_place number offset) → k * (part_len number) + space < length bytes → length bytes ≤ suc k * (part_len number) + space
    → AreParts number offset bytes (take space bytes ∷ first_chunks (part_len number) (suc k) (drop space bytes))
unfolding joined
several_parts number offset bytes space k fills more all =
    let p : List ℕ = take space bytes in
    let rest : List ℕ = drop space bytes in
    let ps : List (List ℕ) = first_chunks (part_len number) (suc k) rest in
    let f : Fragment = record { kind = first; part = p } in
    let len : length p ≡ space = omega (arith, length-take space bytes, more) in
    let rest_len : length rest + space ≡ length bytes = omega (arith, length-drop space bytes, more) in
    let start : behind number offset f % 32768 ≡ 0 = omega (arith, len, fills, with_header number) in
    record {
      whole = as_one p ps;
      same = as_record (p ∷ ps) ∙ ap (λ (l : List ℕ). p ++ l) (chunks_joined (part_len number) (suc k) rest (omega (arith, rest_len, all))) ∙ take-append-drop space bytes;
      fit = (omega (arith, len, fills, with_header number), later_fit number (behind number offset f) ps start (chunks_are_pieces (part_len number) k rest (omega (arith, rest_len, more))));
    }

long_parts : (number : Option ℕ) → (offset : ℕ) (bytes : List ℕ) (space : ℕ) → (header_len number) + space ≡ room (next_place number offset) → space < length bytes → AreParts number offset bytes (take space bytes ∷ pieces_of (part_len number) (drop space bytes))
long_parts None offset bytes space fills more =
    let rest : List ℕ = drop space bytes in
    let rest_len : length rest + space ≡ length bytes = omega (arith, length-drop space bytes, more) in
    let d : ℕ = div_ceil (length rest) 32761 in
    let bounds = div_ceil_times (length rest) 32761 (lit< tt) in
    let low : length rest ≤ d * 32761 = bounds.0 in
    let high : d * 32761 < length rest + 32761 = bounds.1 in
    let is_suc : suc (d - 1) ≡ d = omega (arith, low, rest_len, more) in
    subst (λ k. AreParts plain_log offset bytes (take space bytes ∷ first_chunks 32761 k rest)) is_suc
    (several_parts plain_log offset bytes space (d - 1) fills (omega (arith, high, is_suc, rest_len)) (omega (arith, low, is_suc, rest_len)))
long_parts (Some m) offset bytes space fills more =
    let rest : List ℕ = drop space bytes in
    let rest_len : length rest + space ≡ length bytes = omega (arith, length-drop space bytes, more) in
    let d : ℕ = div_ceil (length rest) 32757 in
    let bounds = div_ceil_times (length rest) 32757 (lit< tt) in
    let low : length rest ≤ d * 32757 = bounds.0 in
    let high : d * 32757 < length rest + 32757 = bounds.1 in
    let is_suc : suc (d - 1) ≡ d = omega (arith, low, rest_len, more) in
    subst (λ k. AreParts (Some m) offset bytes (take space bytes ∷ first_chunks 32757 k rest)) is_suc
    (several_parts (Some m) offset bytes space (d - 1) fills (omega (arith, high, is_suc, rest_len)) (omega (arith, low, is_suc, rest_len)))

pub parts_are : (number : Option ℕ) → (offset : ℕ) (bytes : List ℕ) → AreParts number offset bytes (parts_of number offset bytes)
parts_are number offset bytes =
    let space : ℕ = room (next_place number offset) - (header_len number) in
    let rest : List ℕ = drop space bytes in
    elim (nat_le (length bytes) space) as (λ b. nat_le (length bytes) space ≡ b → AreParts number offset bytes (cond b (bytes ∷ []) (take space bytes ∷ pieces_of (part_len number) rest))) [
      | true ↦ λ e. one_part number offset bytes (let le : length bytes ≤ space = leb-true (length bytes) space e in omega (arith, le, room_for_header number offset))
      | false ↦ λ e. long_parts number offset bytes space (omega (arith, room_for_header number offset)) (leb-false (length bytes) space e)
    ] refl

all_joined : {A : Type 0} (P : A → Type 0) (xs ys : List A) → AllByRecursion P xs → AllByRecursion P ys → AllByRecursion P (xs ++ ys)
all_joined P [] ys all_x all_y = all_y
all_joined P (x ∷ xs) ys all_x all_y = (all_x.0, all_joined P xs ys all_x.1 all_y)

-- the fragments of several records that are written from an offset on
groups_from : (number : Option ℕ) → ℕ → List (List ℕ) → List (List Fragment)
groups_from number offset [] = []
groups_from number offset (r ∷ rs) = as_fragments (parts_of number offset r) ∷ groups_from number (offset + length (record_text number offset r)) rs

text_is_placed : (number : Option ℕ) → (offset : ℕ) (rs : List (List ℕ)) → text_from number offset rs ≡ fragments_text number offset (all_fragments (groups_from number offset rs))
unfolding groups_from
text_is_placed number offset [] = refl
text_is_placed number offset (r ∷ rs) =
    let fs : List Fragment = as_fragments (parts_of number offset r) in
    ap (λ (l : List ℕ). fragments_text number offset fs ++ l) (text_is_placed number (end_of number offset fs) rs) ∙ sym (placed_append number offset fs (all_fragments (groups_from number (end_of number offset fs) rs)))

pub fit_joined : (number : Option ℕ) → (offset : ℕ) (xs ys : List Fragment) → FitFrom number offset xs → FitFrom number (end_of number offset xs) ys → FitFrom number offset (xs ++ ys)
fit_joined number offset [] ys fit_x fit_y = subst (λ n. FitFrom number n ys) (end_none number offset) fit_y
fit_joined number offset (x ∷ xs) ys fit_x fit_y = (fit_x.0, fit_joined number (behind number offset x) xs ys fit_x.1 (subst (λ n. FitFrom number n ys) (end_more number offset x xs) fit_y))

groups_fit : (number : Option ℕ) → (offset : ℕ) (rs : List (List ℕ)) → FitFrom number offset (all_fragments (groups_from number offset rs))
unfolding groups_from
groups_fit number offset [] = tt
groups_fit number offset (r ∷ rs) =
    let fs : List Fragment = as_fragments (parts_of number offset r) in
    fit_joined number offset fs (all_fragments (groups_from number (end_of number offset fs) rs)) (parts_are number offset r).fit (groups_fit number (end_of number offset fs) rs)

groups_whole : (number : Option ℕ) → (offset : ℕ) (rs : List (List ℕ)) → Whole (groups_from number offset rs)
unfolding groups_from
groups_whole number offset [] = tt
groups_whole number offset (r ∷ rs) = ((parts_are number offset r).whole, groups_whole number (offset + length (record_text number offset r)) rs)

groups_same : (number : Option ℕ) → (offset : ℕ) (rs : List (List ℕ)) → rs ≡ map record_of (groups_from number offset rs)
unfolding groups_from
groups_same number offset [] = refl
groups_same number offset (r ∷ rs) =
    ap (λ (b : List ℕ). b ∷ rs) (sym (parts_are number offset r).same) ∙ ap (λ (l : List (List ℕ)). record_of (as_fragments (parts_of number offset r)) ∷ l) (groups_same number (offset + length (record_text number offset r)) rs)

-- The text of records spells them.
pub text_spells : (number : Option ℕ) → (rs : List (List ℕ)) → SpellsWhole number (text number rs) rs
text_spells number rs = record { groups = groups_from number 0 rs; whole = groups_whole number 0 rs; same = groups_same number 0 rs; fit = groups_fit number 0 rs; spelled = text_is_placed number 0 rs }

-- So does a text that goes on after bytes that spell other records.
pub spells_on : (number : Option ℕ) → (kept : List ℕ) (old new : List (List ℕ)) → SpellsWhole number kept old → SpellsWhole number (kept ++ text_from number (length kept) new) (old ++ new)
spells_on number kept old new spells =
    let groups = groups_from number (length kept) new in
    let end : end_of number 0 (all_fragments spells.groups) ≡ length kept = zero-add (length (fragments_text number 0 (all_fragments spells.groups))) ∙ ap length (sym spells.spelled) in
    let flat : all_fragments (spells.groups ++ groups) ≡ all_fragments spells.groups ++ all_fragments groups = flat_map-append (λ (fs : List Fragment). fs) spells.groups groups in
    record {
      groups = spells.groups ++ groups;
      whole = all_joined (λ fs. AreOneRecord (kinds_of fs)) spells.groups groups spells.whole (groups_whole number (length kept) new);
      same = ap (λ (l : List (List ℕ)). l ++ new) spells.same ∙ ap (λ (l : List (List ℕ)). map record_of spells.groups ++ l) (groups_same number (length kept) new) ∙ sym (map-append record_of spells.groups groups);
      fit = subst (FitFrom number 0) (sym flat)
          (fit_joined number 0 (all_fragments spells.groups) (all_fragments groups) spells.fit (subst (λ n. FitFrom number n (all_fragments groups)) (sym end) (groups_fit number (length kept) new)));
      spelled = ap (λ (l : List ℕ). l ++ text_from number (length kept) new) spells.spelled
          ∙ ap (λ (l : List ℕ). fragments_text number 0 (all_fragments spells.groups) ++ l) (text_is_placed number (length kept) new ∙ ap (λ (n : ℕ). fragments_text number n (all_fragments groups)) (sym end))
          ∙ sym (placed_append number 0 (all_fragments spells.groups) (all_fragments groups))
          ∙ ap (fragments_text number 0) (sym flat);
    }
