-- The bytes of a group, member by member.
use Rattle.std.proofs.Common.{◌≡◌, ℕ, zero, suc, ◌+◌, ◌-◌, ◌^◌, ◌<◌, ◌≤◌, List, [], ◌∷◌, ◌++◌, length, take, drop, get_or, refl, sym, ◌∙◌, ap, subst, arith, append_assoc, cond}
use Rattle.std.proofs.Math.Seq.{take-append-add, drop-append-add}
use Rattle.std.proofs.lemmas.Grind.{flat_map-append}
use Rattle.std.proofs.lemmas.List.Sums.{sum_by-append, sum_by-cons}
use Rattle.std.proofs.lemmas.List.{take_all, append-nil}
use Rattle.std.specs.List.{AllByRecursion, flat_map}
use Rattle.model_base.specs.Batch.{Record, record_bytes, is_counted, count_of, body, header, batch, IsReadable, IsBatch}
use Rattle.model_base.specs.History.{max_sequence}
use Rattle.log_batch.specs.Contents.{Contents}
use Rattle.log_writer.specs.Groups.{batches_of, counts_of, bodies_of, record_of_group}

-- the first member's bytes, and those of the members after it
pub next_member : (members : List Contents) (first : Contents) → 1 ≤ length members → first ≡ get_or members 0 first → body first.records ++ bodies_of (take (length members - 1) (drop 1 members)) ≡ bodies_of members
next_member [] first some e = absurd (omega arith)
next_member (m ∷ ms) first some e =
    ap (λ (l : List Contents). body first.records ++ bodies_of l) (take_all (length (m ∷ ms) - 1) ms (omega arith))
    ∙ ap (λ (x : Contents). body x.records ++ bodies_of ms) e

-- if more is to be moved than the front, then after the whole front was moved the remaining bytes are moved from the
-- rest
pub moved_front : (block front rest all : List ℕ) (left : ℕ) → length front < left → block ++ take left (front ++ rest) ≡ all → (block ++ front) ++ take (left - length front) rest ≡ all
moved_front block front rest all left more e =
    let split : left ≡ length front + (left - length front) = omega (arith, more) in
    append_assoc block front (take (left - length front) rest)
    ∙ (ap (λ (l : List ℕ). block ++ l) (sym (ap (λ (n : ℕ). take n (front ++ rest)) split ∙ take-append-add front rest (left - length front))) ∙ e)

pub left_behind : (front rest all : List ℕ) (left : ℕ) → length front < left → drop left (front ++ rest) ≡ all → drop (left - length front) rest ≡ all
left_behind front rest all left more e =
    let split : left ≡ length front + (left - length front) = omega (arith, more) in
    sym (ap (λ (n : ℕ). drop n (front ++ rest)) split ∙ drop-append-add front rest (left - length front)) ∙ e

-- the additions of all members, one after another; and, below, their bytes and how many of them count
joined : List Contents → List Record
joined members = flat_map (λ records. records) (batches_of members)

bodies_joined : (members : List Contents) → body (joined members) ≡ bodies_of members
unfolding joined
bodies_joined [] = refl
bodies_joined (m ∷ ms) = flat_map-append record_bytes m.records (joined ms) ∙ ap (λ (l : List ℕ). body m.records ++ l) (bodies_joined ms)

counts_joined : (members : List Contents) → count_of (joined members) ≡ counts_of members
unfolding joined
counts_joined [] = refl
counts_joined (m ∷ ms) =
    sum_by-append (λ r. cond (is_counted r) 1 0) m.records (joined ms)
    ∙ (ap (λ (n : ℕ). count_of m.records + n) (counts_joined ms) ∙ sym (sum_by-cons (λ (x : Contents). count_of x.records) m ms))

-- the group's record is a header with the sum of the counts, and the members' bytes
pub record_is : (first : ℕ) (members : List Contents) → header first (counts_of members) ++ bodies_of members ≡ record_of_group first members
unfolding joined
record_is first members =
    ap (λ (n : ℕ). header first n ++ bodies_of members) (sym (counts_joined members)) ∙ ap (λ (l : List ℕ). header first (count_of (joined members)) ++ l) (sym (bodies_joined members))

-- the record of a group of one batch that has this sequence already is the batch
pub only_member : (members : List Contents) (m : Contents) (first : ℕ) → length members ≡ 1 → m ≡ get_or members 0 m → m.sequence ≡ first → batch m.sequence m.records ≡ record_of_group first members
only_member [] m first one e s = absurd (omega (arith, one))
only_member (x ∷ []) m first one e s =
    ap (λ (n : ℕ). batch n m.records) s ∙ (ap (λ (c : Contents). batch first c.records) e ∙ ap (batch first) (sym (append-nil x.records)))
only_member (x ∷ y ∷ ms) m first one e s = absurd (omega (arith, one))

-- Each addition of the member can be read back.
abbrev pub IsReadableMember : Contents → Type 0
IsReadableMember m = AllByRecursion IsReadable m.records

-- what holds of the first elements of a list holds of one more
pub all_take_more : {A : Type 0} (P : A → Type 0) (xs : List A) (i : ℕ) (x : A) → AllByRecursion P (take i xs) → i < length xs → x ≡ get_or xs i x → P x → AllByRecursion P (take (i + 1) xs)
all_take_more P [] i x all within is one = absurd (omega (arith, within))
all_take_more P (y ∷ ys) zero x all within is one = (subst P is one, tt)
all_take_more P (y ∷ ys) (suc i) x all within is one =
    let e : suc (i + 1) ≡ suc i + 1 = omega arith in
    subst (λ (n : ℕ). AllByRecursion P (take n (y ∷ ys))) e (all.0, all_take_more P ys i x all.1 (omega (arith, within)) is one)

both_all : {A : Type 0} (P : A → Type 0) (xs ys : List A) → AllByRecursion P xs → AllByRecursion P ys → AllByRecursion P (xs ++ ys)
both_all P [] ys first second = second
both_all P (x ∷ xs) ys first second = (first.0, both_all P xs ys first.1 second)

readable_joined : (members : List Contents) → AllByRecursion IsReadableMember members → AllByRecursion IsReadable (joined members)
unfolding joined
readable_joined [] all = tt
readable_joined (m ∷ ms) all = both_all IsReadable m.records (joined ms) all.0 (readable_joined ms all.1)

-- so the group's record is a batch
pub group_is_batch : (first : ℕ) (members : List Contents) → counts_of members < 2 ^ 32 → first + counts_of members - 1 ≤ max_sequence → AllByRecursion IsReadableMember members
    → IsBatch (record_of_group first members) first (flat_map (λ (records : List Record). records) (batches_of members))
unfolding joined
group_is_batch first members few run all = record {
  spelled = refl;
  readable = readable_joined members all;
  sequence_fits = omega (arith, run);
  count_fits = omega (arith, counts_joined members, few);
}
