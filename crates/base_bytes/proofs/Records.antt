-- Bytes of records are those of one list of records only.
use Rattle.std.proofs.Common.{◌≡◌, ℕ, ◌^◌, ◌<◌, ◌≤◌, List, [], ◌∷◌, ◌++◌, length, get_or, drop, ◌==◌, refl, sym, ◌∙◌, ap, arith, append_assoc, flat_map, Option}
use Rattle.std.specs.Prelude.{Some, None, is_some, IfSome, if◌then◌else◌}
use Rattle.std.proofs.lemmas.Bool.{true≢false, false≢true}
use Rattle.std.proofs.lemmas.List.{append_cancel_left}
use Rattle.std.specs.List.{AllByRecursion, list_any}
use Rattle.model_base.specs.Varint.{varint}
use Rattle.model_base.specs.Batch.{Record, value, deletion, single_deletion, log_data, tag_of, names_family, strings_after, named_by, strings_of, family_bytes, varstring, record_bytes, body, IsReadable}
use Rattle.base_bytes.proofs.Spellings.{varint_spells, one_varint}

-- if two lists that begin the same bytes are equally long, they are equal, and so is what follows them
same_fronts : (a b x y : List ℕ) → length a ≡ length b → a ++ x ≡ b ++ y → (a ≡ b) × (x ≡ y)
same_fronts [] [] x y e same = (refl, same)
same_fronts [] (c ∷ b) x y e same = absurd (omega (arith, e))
same_fronts (c ∷ a) [] x y e same = absurd (omega (arith, e))
same_fronts (c ∷ a) (d ∷ b) x y e same =
    let first : c ≡ d = cc in
    let tails : a ++ x ≡ b ++ y = cc in
    let rest = same_fronts a b x y (omega (arith, e)) tails in
    (ap (λ (v : ℕ). v ∷ a) first ∙ ap (λ (l : List ℕ). d ∷ l) rest.0, rest.1)

-- the length of each of these strings fits in a varint32
abbrev pub AreShort : List (List ℕ) → Type 0
AreShort strings = AllByRecursion (λ s. length s < 2 ^ 32) strings

-- Bytes that begin with the length of a string and the string determine the string and what follows it.
pub one_string : (a b x y : List ℕ) → length a < 2 ^ 32 → length b < 2 ^ 32 → varstring a ++ x ≡ varstring b ++ y → (a ≡ b) × (x ≡ y)
one_string a b x y short_a short_b same =
    let front : varint (length a) ++ (a ++ x) ≡ varint (length b) ++ (b ++ y) = sym (append_assoc (varint (length a)) a x) ∙ same ∙ append_assoc (varint (length b)) b y in
    let lengths = one_varint (varint (length a)) (varint (length b)) (a ++ x) (b ++ y) (length a) (length b) (varint_spells (length a) short_a) (varint_spells (length b) short_b) front in
    let behind : a ++ x ≡ b ++ y = append_cancel_left (varint (length b)) (a ++ x) (b ++ y) (sym (ap (λ (l : List ℕ). l ++ (a ++ x)) lengths.0) ∙ front) in
    same_fronts a b x y lengths.1 behind

-- The same holds of several strings, each with its length before it, where their number is known.
pub one_strings : (a b : List (List ℕ)) (x y : List ℕ) → length a ≡ length b → AreShort a → AreShort b → flat_map varstring a ++ x ≡ flat_map varstring b ++ y → (a ≡ b) × (x ≡ y)
one_strings [] [] x y as_many short_a short_b same = (refl, same)
one_strings [] (t ∷ b) x y as_many short_a short_b same = absurd (omega (arith, as_many))
one_strings (s ∷ a) [] x y as_many short_a short_b same = absurd (omega (arith, as_many))
one_strings (s ∷ a) (t ∷ b) x y as_many short_a short_b same =
    let front : varstring s ++ (flat_map varstring a ++ x) ≡ varstring t ++ (flat_map varstring b ++ y) =
    sym (append_assoc (varstring s) (flat_map varstring a) x) ∙ same ∙ append_assoc (varstring t) (flat_map varstring b) y in
    let first = one_string s t (flat_map varstring a ++ x) (flat_map varstring b ++ y) short_a.0 short_b.0 front in
    let rest = one_strings a b x y (omega (arith, as_many)) short_a.1 short_b.1 first.1 in
    (ap (λ (v : List ℕ). v ∷ a) first.0 ∙ ap (λ (l : List (List ℕ)). t ∷ l) rest.0, rest.1)

-- the number of a family fits in a varint32, if one is named
abbrev pub IsSmall : Option ℕ → Type 0
IsSmall named = IfSome named (λ family. family < 2 ^ 32)

-- Bytes that begin with a family's number, if one is named, determine it and what follows it.
pub one_family : (a b : Option ℕ) (x y : List ℕ) → is_some a ≡ is_some b → IsSmall a → IsSmall b → family_bytes a ++ x ≡ family_bytes b ++ y → (a ≡ b) × (x ≡ y)
one_family None None x y both small_a small_b same = (refl, same)
one_family None (Some g) x y both small_a small_b same = absurd (false≢true both)
one_family (Some f) None x y both small_a small_b same = absurd (true≢false both)
one_family (Some f) (Some g) x y both small_a small_b same =
    let numbers = one_varint (varint f) (varint g) x y f g (varint_spells f small_a) (varint_spells g small_b) same in
    (ap (λ (n : ℕ). Some n) numbers.1, append_cancel_left (varint g) x y (sym (ap (λ (l : List ℕ). l ++ x) numbers.0) ∙ same))

-- The tag says whether a family is named, and how many strings there are.
pub named_is : (r : Record) → names_family (tag_of r) ≡ is_some (named_by r)
named_is (value None k v) = refl
named_is (value (Some f) k v) = refl
named_is (deletion None k) = refl
named_is (deletion (Some f) k) = refl
named_is (single_deletion None k) = refl
named_is (single_deletion (Some f) k) = refl
named_is (log_data k) = refl

pub strings_are : (r : Record) → length (strings_of r) ≡ strings_after (tag_of r)
strings_are (value None k v) = refl
strings_are (value (Some f) k v) = refl
strings_are (deletion None k) = refl
strings_are (deletion (Some f) k) = refl
strings_are (single_deletion None k) = refl
strings_are (single_deletion (Some f) k) = refl
strings_are (log_data k) = refl

-- the tag says of which kind the record is
kind_of : Record → ℕ
kind_of (value f k v) = 0
kind_of (deletion f k) = 1
kind_of (single_deletion f k) = 2
kind_of (log_data k) = 3

kind_at : ℕ → ℕ
kind_at t = if list_any (λ u. u == t) (1 ∷ 5 ∷ []) then 0 else if list_any (λ u. u == t) (0 ∷ 4 ∷ []) then 1
    else if list_any (λ u. u == t) (7 ∷ 8 ∷ []) then 2 else 3

kind_is : (r : Record) → kind_at (tag_of r) ≡ kind_of r
unfolding kind_at kind_of
kind_is (value None k v) = refl
kind_is (value (Some f) k v) = refl
kind_is (deletion None k) = refl
kind_is (deletion (Some f) k) = refl
kind_is (single_deletion None k) = refl
kind_is (single_deletion (Some f) k) = refl
kind_is (log_data k) = refl

-- a record is determined by its kind, its family and its strings
kind_and_parts : (r s : Record) → kind_of r ≡ kind_of s → named_by r ≡ named_by s → strings_of r ≡ strings_of s → r ≡ s
unfolding kind_of
kind_and_parts (value f k v) (value g l w) same named strings = cc
kind_and_parts (deletion f k) (deletion g l) same named strings = cc
kind_and_parts (single_deletion f k) (single_deletion g l) same named strings = cc
kind_and_parts (log_data k) (log_data l) same named strings = cc
kind_and_parts r s same named strings = absurd (omega (arith, same))

-- Bytes that begin with a readable record determine the record and what follows it.
pub one_record : (r s : Record) (x y : List ℕ) → IsReadable r → IsReadable s → record_bytes r ++ x ≡ record_bytes s ++ y → (r ≡ s) × (x ≡ y)
one_record r s x y read_r read_s same =
    let tags : tag_of r ≡ tag_of s = ap (λ (bytes : List ℕ). get_or bytes 0 0) same in
    let behind : family_bytes (named_by r) ++ (flat_map varstring (strings_of r) ++ x) ≡ family_bytes (named_by s) ++ (flat_map varstring (strings_of s) ++ y) =
    sym (append_assoc (family_bytes (named_by r)) (flat_map varstring (strings_of r)) x) ∙ ap (λ (bytes : List ℕ). drop 1 bytes) same ∙ append_assoc (family_bytes (named_by s)) (flat_map varstring (strings_of s)) y in
    let families = one_family (named_by r) (named_by s) (flat_map varstring (strings_of r) ++ x) (flat_map varstring (strings_of s) ++ y) (sym (named_is r) ∙ ap names_family tags ∙ named_is s) read_r.family read_s.family behind in
    let strings = one_strings (strings_of r) (strings_of s) x y (strings_are r ∙ ap strings_after tags ∙ sym (strings_are s)) read_r.lengths read_s.lengths families.1 in
    (kind_and_parts r s (sym (kind_is r) ∙ ap kind_at tags ∙ kind_is s) families.0 strings.0, strings.1)

-- Readable records are determined by their bytes.
pub one_read : (a b : List Record) → AllByRecursion IsReadable a → AllByRecursion IsReadable b → body a ≡ body b → a ≡ b
one_read [] [] read_a read_b same = refl
one_read [] (s ∷ b) read_a read_b same = absurd (omega (arith, ap length same))
one_read (r ∷ a) [] read_a read_b same = absurd (omega (arith, ap length same))
one_read (r ∷ a) (s ∷ b) read_a read_b same =
    let first = one_record r s (body a) (body b) read_a.0 read_b.0 same in
    let rest = one_read a b read_a.1 read_b.1 first.1 in
    ap (λ (v : Record). v ∷ a) first.0 ∙ ap (λ (l : List Record). s ∷ l) rest
