-- Where reading is tried again, by what the reader has of a block.
use Rattle.std.proofs.Common.{◌≡◌, ◌⊎◌, inl, inr, ℕ, ◌+◌, ◌-◌, ◌%◌, ◌<◌, ◌≤◌, min, Bool, true, false, not, ◌&&◌, cond, List, length, take, drop, slice_range, bytes_eq, Option, Some, None, IfSome, Result, Ok, Err, IfOk, nat_le, nat_lt, ◌==◌, option_and_then, refl, sym, ◌∙◌, ap, subst, arith, length-take, length-drop}
use Rattle.std.proofs.lemmas.Bool.{lt-ltb, le-ltb, le-leb, leb-true, ltb-true, eqb-true, cases_lt}
use Rattle.std.proofs.lemmas.List.{take_all}
use Rattle.model_base.specs.declared.log.Damage.{Damage}
use Rattle.model_base.specs.declared.log.EndReason.TheVariants as ends
use Rattle.model_base.specs.Log.{Kind, Fragment, header, header_len, kind_code, room, plain_log}
use Rattle.model_base.specs.Reading.{fragment, nothing, damage, seen_at, kind_of_code, length_field, type_field, part_field, ReadingEnds, broken, bad_order, end_of}
use Rattle.log_laws.proofs.Next.{seen_past}
use Rattle.log_reader.specs.Damaged.{is_damaged}
use Rattle.log_scan.specs.Resuming.{fragment_len, begins_record, next_block, there, after_header, after_damage, after_misplaced, sets_compression, is_compressed, resumes_at}
use Rattle.log_scan.proofs.Places.{some_header, seen_there, damage_there, type_in_front, length_in_front, fragment_there, type_there}

-- Where a fragment is in a wrong place, there is one.
pub misplaced_fragment : (number : Option ℕ) (file : List ℕ) (from at : ℕ) → ReadingEnds number file from at ends.BadOrder → (f : Fragment) × (seen_at number file at ≡ fragment f)
misplaced_fragment number file from at (bad_order {f = f} fs c not_begun not_one) = (f, seen_there number file (end_of number from fs) at f c.is_next)

-- the file has these places
pub misplaced_inside : (number : Option ℕ) (file : List ℕ) (from at : ℕ) → ReadingEnds number file from at ends.BadOrder → at ≤ length file
misplaced_inside number file from at end =
    let it = misplaced_fragment number file from at end in
    let is = fragment_there number file at it.0 it.1 in
    omega (arith, is.there, some_header number, length-take (room at) (drop at file), length-drop at file)

pub broken_inside : (number : Option ℕ) (file : List ℕ) (from at : ℕ) (d : Damage) → ReadingEnds number file from at (ends.Broken d) → at ≤ length file
broken_inside number file from at d (broken fs c) = by_cases (cases_lt (length file) at)
  where
    by_cases : (length file < at) ⊎ (at ≤ length file) → at ≤ length file
    by_cases (inl past) =
        let wrong : nothing ≡ damage d = sym (seen_past number file at (omega (arith, past))) ∙ damage_there number file (end_of number from fs) at d c.is_next in
        absurd (cc)
    by_cases (inr inside) = inside

-- these are the bytes of a block from a place of the file on
abbrev pub IsRest : List ℕ → ℕ → List ℕ → Type 0
IsRest file at rest = rest ≡ take (room at) (drop at file)

pub rest_len : (file rest : List ℕ) (at : ℕ) → IsRest file at rest → length rest ≡ min (room at) (length file - at)
rest_len file rest at is = omega (arith, ap length is, length-take (room at) (drop at file), length-drop at file)

-- they have the same fields as the file
rest_type : (file rest : List ℕ) (at : ℕ) → IsRest file at rest → 7 ≤ room at → type_field rest ≡ type_field (drop at file)
rest_type file rest at is enough = ap type_field is ∙ type_in_front (room at) (drop at file) enough

rest_field : (file rest : List ℕ) (at : ℕ) → IsRest file at rest → 6 ≤ room at → length_field rest ≡ length_field (drop at file)
rest_field file rest at is enough = ap length_field is ∙ length_in_front (room at) (drop at file) enough

same_after : (number : Option ℕ) (file header : List ℕ) (at : ℕ) → type_field header ≡ type_field (drop at file) → length_field header ≡ length_field (drop at file) → after_header number header at ≡ after_misplaced number file at
same_after number file header at kind len =
    ap (λ (t : ℕ). cond (begins_record (kind_of_code number t)) at (at + (header_len number + length_field header))) kind
    ∙ ap (λ (n : ℕ). cond (begins_record (kind_of_code number (type_field (drop at file)))) at (at + (header_len number + n))) len

-- where reading goes on after a fragment in a wrong place
pub misplaced_is : (number : Option ℕ) (file rest : List ℕ) (from at : ℕ) (place : Option ℕ) → ReadingEnds number file from at ends.BadOrder → IsRest file at rest
    → ((kind : Kind) → type_field rest ≡ kind_code number kind → fragment_len number rest ≤ length rest → place ≡ Some (after_header number rest at))
    → option_and_then (there file) place ≡ there file (after_misplaced number file at)
misplaced_is number file rest from at place end is by_kind =
    let it = misplaced_fragment number file from at end in
    let has = fragment_there number file at it.0 it.1 in
    let enough : 7 ≤ room at = omega (arith, has.room, some_header number) in
    let kind = rest_type file rest at is enough in
    let whole = subst (λ (l : List ℕ). fragment_len number l ≤ length l) (sym is) has.there in
    ap (option_and_then (there file)) (by_kind it.0.kind (kind ∙ type_there number file at it.0 it.1) whole)
    ∙ ap (there file) (same_after number file rest at kind (rest_field file rest at is (omega (arith, enough))))

-- the choice after damage, by its three tests
abbrev len_at : Option ℕ → List ℕ → ℕ → ℕ
len_at number file at = fragment_len number (drop at file)

abbrev choice : Option ℕ → List ℕ → ℕ → Bool → Bool → Bool → ℕ
choice number file at a b d = cond (a && b && not d) (at + len_at number file at) (next_block at)

goes_on : (number : Option ℕ) (file : List ℕ) (at : ℕ) → at + header_len number ≤ length file → len_at number file at < room at → is_damaged number file (at + len_at number file at) ≡ false
    → after_damage number file at ≡ at + len_at number file at
goes_on number file at header less whole =
    ap (λ (a : Bool). choice number file at a (nat_lt (len_at number file at) (room at)) (is_damaged number file (at + len_at number file at))) (le-leb (at + header_len number) (length file) header)
    ∙ (ap (λ (b : Bool). choice number file at true b (is_damaged number file (at + len_at number file at))) (lt-ltb (len_at number file at) (room at) less)
    ∙ ap (choice number file at true true) whole)

-- it is the next block, or all three hold
record GoesOn (number : Option ℕ) (file : List ℕ) (at : ℕ) : Type 0 where
  less : len_at number file at < room at
  whole : is_damaged number file (at + len_at number file at) ≡ false
  there_is : after_damage number file at ≡ at + len_at number file at

chosen : (number : Option ℕ) (file : List ℕ) (at : ℕ) → (after_damage number file at ≡ next_block at) ⊎ GoesOn number file at
chosen number file at = by_tests (nat_le (at + header_len number) (length file)) (nat_lt (len_at number file at) (room at)) (is_damaged number file (at + len_at number file at)) refl refl refl
  where
    by_tests : (a b d : Bool) → nat_le (at + header_len number) (length file) ≡ a → nat_lt (len_at number file at) (room at) ≡ b → is_damaged number file (at + len_at number file at) ≡ d
        → (after_damage number file at ≡ next_block at) ⊎ GoesOn number file at
    by_tests true true false x y z = inr (record {
      less = ltb-true (len_at number file at) (room at) y;
      whole = z;
      there_is = goes_on number file at (leb-true (at + header_len number) (length file) x) (ltb-true (len_at number file at) (room at) y) z;
    })
    by_tests true true true x y z = inl (rw (x, y, z) refl)
    by_tests true false d x y z = inl (rw (x, y) refl)
    by_tests false b d x y z = inl (rw x refl)

-- After damage, with what the block has from there on: `len` bytes of it are the fragment's, as its header says.
module _ (number : Option ℕ) (file rest : List ℕ) (at len : ℕ) (is : IsRest file at rest) (len_is : len ≡ min (fragment_len number rest) (length rest)) where
  len_there : len_at number file at < length rest → len ≡ len_at number file at
  len_there less =
      let field = rest_field file rest at is (omega (arith, less, some_header number, rest_len file rest at is)) in
      omega (arith, len_is, field, less)

  -- there is more of the block, and no damage after the fragment
  pub damage_past : len < length rest → is_damaged number file (at + len) ≡ false → option_and_then (there file) (Some (at + len)) ≡ there file (after_damage number file at)
  damage_past less whole =
      let field = rest_field file rest at is (omega (arith, len_is, less, some_header number, rest_len file rest at is)) in
      let same : len ≡ len_at number file at = omega (arith, len_is, less, field) in
      let header : at + header_len number ≤ length file = omega (arith, same, less, rest_len file rest at is) in
      ap (λ (n : ℕ). there file (at + n)) same
      ∙ sym (ap (there file) (goes_on number file at header (omega (arith, same, less, rest_len file rest at is)) (subst (λ (n : ℕ). is_damaged number file (at + n) ≡ false) same whole)))

  -- there isn't
  module _ (none : (len ≡ length rest) ⊎ (is_damaged number file (at + len) ≡ true)) where
    not_past : len_at number file at < length rest → is_damaged number file (at + len_at number file at) ≡ false → ⊥
    not_past less whole = by_none none
      where
        same : len ≡ len_at number file at
        same = len_there less

        by_none : (len ≡ length rest) ⊎ (is_damaged number file (at + len) ≡ true) → ⊥
        by_none (inl all) = omega (arith, all, same, less)
        by_none (inr damaged) = let wrong : true ≡ false = sym damaged ∙ (ap (λ (n : ℕ). is_damaged number file (at + n)) same ∙ whole) in cc

    pub damage_next : option_and_then (there file) (cond (nat_lt (at % 32768 + length rest) 32768) None (Some (at + length rest))) ≡ there file (after_damage number file at)
    damage_next = by_len (cases_lt (at % 32768 + length rest) 32768)
      where
        by_len : (at % 32768 + length rest < 32768) ⊎ (32768 ≤ at % 32768 + length rest)
            → option_and_then (there file) (cond (nat_lt (at % 32768 + length rest) 32768) None (Some (at + length rest))) ≡ there file (after_damage number file at)
        by_len (inl short) =
            ap (λ (b : Bool). option_and_then (there file) (cond b None (Some (at + length rest)))) (lt-ltb (at % 32768 + length rest) 32768 short)
            ∙ sym (ap (λ (b : Bool). cond b (Some (after_damage number file at)) None) (le-ltb (after_damage number file at) (length file) (past (chosen number file at))))
          where
            past : (after_damage number file at ≡ next_block at) ⊎ GoesOn number file at → length file ≤ after_damage number file at
            past (inl next) = omega (arith, next, short, rest_len file rest at is)
            past (inr goes) = by_place (cases_lt (at + len_at number file at) (length file))
              where
                by_place : (at + len_at number file at < length file) ⊎ (length file ≤ at + len_at number file at) → length file ≤ after_damage number file at
                by_place (inl less) = absurd (not_past (omega (arith, less, short, rest_len file rest at is)) goes.whole)
                by_place (inr no_more) = omega (arith, goes.there_is, no_more)
        by_len (inr whole) =
            ap (λ (b : Bool). option_and_then (there file) (cond b None (Some (at + length rest)))) (le-ltb (at % 32768 + length rest) 32768 whole)
            ∙ ap (there file) (by_choice (chosen number file at))
          where
            by_choice : (after_damage number file at ≡ next_block at) ⊎ GoesOn number file at → at + length rest ≡ after_damage number file at
            by_choice (inl next) = omega (arith, next, whole, rest_len file rest at is)
            by_choice (inr goes) = absurd (not_past (omega (arith, goes.less, whole, rest_len file rest at is)) goes.whole)

-- whether the log is compressed, by what the first block has
compressed_is : (file rest : List ℕ) (at : ℕ) → IsRest file at rest → (at == 0 && sets_compression rest) ≡ (at == 0 && is_compressed file)
compressed_is file rest at is = by_test (at == 0) refl
  where
    by_test : (b : Bool) → (at == 0) ≡ b → (b && sets_compression rest) ≡ (b && is_compressed file)
    by_test true e = ap sets_compression (is ∙ ap (λ (n : ℕ). take (room n) (drop n file)) (eqb-true at 0 e))
    by_test false e = refl

pub broken_ends : (number : Option ℕ) (file rest : List ℕ) (at : ℕ) (d : Damage) → IsRest file at rest → (at == 0 && sets_compression rest) ≡ true → None ≡ resumes_at number file at (ends.Broken d)
broken_ends number file rest at d is begins =
    sym (ap (λ (b : Bool). cond b None (there file (after_damage number file at))) (sym (compressed_is file rest at is) ∙ begins))

pub broken_goes : (number : Option ℕ) (file rest : List ℕ) (at : ℕ) (d : Damage) (place : Option ℕ) → IsRest file at rest → (at == 0 && sets_compression rest) ≡ false
    → place ≡ there file (after_damage number file at) → place ≡ resumes_at number file at (ends.Broken d)
broken_goes number file rest at d place is other goes =
    goes ∙ sym (ap (λ (b : Bool). cond b None (there file (after_damage number file at))) (sym (compressed_is file rest at is) ∙ other))

-- whether these bytes begin with the fragment of a compressed log, by what the code compares
pub compressed_by : (rest part sum : List ℕ) (place len : ℕ) (is : Bool) → place ≡ 0 → 7 ≤ length rest → len ≡ min (fragment_len plain_log rest) (length rest) → part ≡ slice_range rest 7 len → sum ≡ header plain_log 9 part
    → is ≡ bytes_eq (take 7 rest) sum → is ≡ (place == 0 && sets_compression rest)
compressed_by rest part sum place len is first enough len_is part_is sum_is is_eq =
    let field : slice_range rest 7 len ≡ part_field plain_log rest = by_cases (cases_lt (length rest) (fragment_len plain_log rest)) in
    is_eq ∙ (ap (bytes_eq (take 7 rest)) (sum_is ∙ ap (header plain_log 9) (part_is ∙ field)) ∙ ap (λ (n : ℕ). n == 0 && sets_compression rest) (sym first))
  where
    by_cases : (length rest < fragment_len plain_log rest) ⊎ (fragment_len plain_log rest ≤ length rest) → slice_range rest 7 len ≡ part_field plain_log rest
    by_cases (inl cut) =
        let left = length-drop 7 rest in
        take_all (len - 7) (drop 7 rest) (omega (arith, left, len_is, cut, enough)) ∙ sym (take_all (length_field rest) (drop 7 rest) (omega (arith, left, cut)))
    by_cases (inr whole) = let same : len - 7 ≡ length_field rest = omega (arith, len_is, whole) in ap (λ (n : ℕ). take n (drop 7 rest)) same

-- a fact about each content that a disk may tell
pub if_all : (told : Option (List ℕ)) (P : List ℕ → Type 0) → ((file : List ℕ) → P file) → IfSome told P
if_all None P f = tt
if_all (Some file) P f = f file

pub if_ok : (r : Result (Option ℕ) ℕ) (P Q : Option ℕ → Type 0) → IfOk r P → ((o : Option ℕ) → P o → Q o) → IfOk r Q
if_ok (Ok o) P Q p f = f o p
if_ok (Err e) P Q p f = tt
