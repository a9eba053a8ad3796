-- What holds of bytes in front of which a reader sees a fragment.
use Rattle.std.proofs.Common.{◌≡◌, ℕ, ◌+◌, ◌≤◌, Bool, true, false, not, List, [], ◌∷◌, ◌++◌, length, take, drop, bytes_eq, Option, Some, None, refl, sym, ◌∙◌, ap, subst, arith, cond, nat_lt, ◌==◌, length-take, length-drop, append_assoc}
use Rattle.std.proofs.lemmas.Bool.{ltb-false, eqb-true}
use Rattle.std.proofs.lemmas.List.{take-append-drop, drop-drop}
use Rattle.std.proofs.lemmas.Nat.{le_bytes_2, le_bytes_4}
use Rattle.std.proofs.lemmas.Slice.Eq.{bytes_eq-Decides}
use Rattle.std.proofs.Math.Seq.{drop-cons}
use Rattle.std.specs.Int.{w16, w32, to_le_bytes}
use Rattle.model_base.specs.declared.log.Damage.TheVariants.{BadTrailer}
use Rattle.model_base.specs.Checksum.{crc32c, masked}
use Rattle.model_base.specs.Log.{Kind, full, first, middle, last, kind_code, header_len, Fragment, header, fragment_bytes, plain_log}
use Rattle.model_base.specs.Reading.{fragment, nothing, damage, seen_within, seen_of_kind, seen_of_kind_numbered, kind_of_code, are_zeros, checksum_field, length_field, type_field, part_field}
use Rattle.log_recovery_laws.specs.Reads.{AreBytes}
use Rattle.log_recovery_laws.proofs.Bytes.{bytes_take, bytes_drop, bytes_at}

-- if a choice doesn't give its first branch, the condition is false and it gives its second one
pub other : {A : Type 0} (b : Bool) (x y z : A) → cond b x y ≡ z → (x ≡ z → ⊥) → (b ≡ false) × (y ≡ z)
other true x y z e not = absurd (not e)
other false x y z e not = (refl, e)

pub one_is : {A : Type 0} (b : Bool) (x y z : A) → cond b x y ≡ z → (y ≡ z → ⊥) → (b ≡ true) × (x ≡ z)
one_is true x y z e not = (refl, e)
one_is false x y z e not = absurd (not e)

no_trailer : (b : Bool) (f : Fragment) → cond b nothing (damage BadTrailer) ≡ fragment f → ⊥
no_trailer true f h = cc
no_trailer false f h = cc

-- A header's checksum, and what a header has after its kind: the log's number, if it has one.
pub sum_of : Option ℕ → ℕ → List ℕ → ℕ
sum_of None code part = masked (crc32c (code ∷ part))
sum_of (Some n) code part = masked (crc32c (code ∷ to_le_bytes w32 n ++ part))

pub tail_of : Option ℕ → List ℕ
tail_of None = []
tail_of (Some n) = to_le_bytes w32 n

header_is : (number : Option ℕ) (code : ℕ) (part : List ℕ) → header number code part ≡ to_le_bytes w32 (sum_of number code part) ++ to_le_bytes w16 (length part) ++ code ∷ tail_of number
unfolding sum_of tail_of
header_is None code part = refl
header_is (Some n) code part = refl

-- a code that is read as this kind is the code of this kind
code_of : (number : Option ℕ) (code : ℕ) (kind : Kind) → kind_of_code number code ≡ Some kind → code ≡ kind_code number kind
code_of None code kind e = by_tests (code == 1) (code == 2) (code == 3) (code == 4) refl refl refl refl e
  where
    by_tests : (a b c d : Bool) → (code == 1) ≡ a → (code == 2) ≡ b → (code == 3) ≡ c → (code == 4) ≡ d
        → cond a (Some full) (cond b (Some first) (cond c (Some middle) (cond d (Some last) None))) ≡ Some kind → code ≡ kind_code plain_log kind
    by_tests true b c d one two three four h = let same : full ≡ kind = cc in eqb-true code 1 one ∙ ap (kind_code plain_log) same
    by_tests false true c d one two three four h = let same : first ≡ kind = cc in eqb-true code 2 two ∙ ap (kind_code plain_log) same
    by_tests false false true d one two three four h = let same : middle ≡ kind = cc in eqb-true code 3 three ∙ ap (kind_code plain_log) same
    by_tests false false false true one two three four h = let same : last ≡ kind = cc in eqb-true code 4 four ∙ ap (kind_code plain_log) same
    by_tests false false false false one two three four h = absurd (cc)
code_of (Some n) code kind e = by_tests (code == 5) (code == 6) (code == 7) (code == 8) refl refl refl refl e
  where
    by_tests : (a b c d : Bool) → (code == 5) ≡ a → (code == 6) ≡ b → (code == 7) ≡ c → (code == 8) ≡ d
        → cond a (Some full) (cond b (Some first) (cond c (Some middle) (cond d (Some last) None))) ≡ Some kind → code ≡ kind_code (Some n) kind
    by_tests true b c d one two three four h = let same : full ≡ kind = cc in eqb-true code 5 one ∙ ap (kind_code (Some n)) same
    by_tests false true c d one two three four h = let same : first ≡ kind = cc in eqb-true code 6 two ∙ ap (kind_code (Some n)) same
    by_tests false false true d one two three four h = let same : middle ≡ kind = cc in eqb-true code 7 three ∙ ap (kind_code (Some n)) same
    by_tests false false false true one two three four h = let same : last ≡ kind = cc in eqb-true code 8 four ∙ ap (kind_code (Some n)) same
    by_tests false false false false one two three four h = absurd (cc)

-- what holds of bytes in front of which this fragment is seen
pub record IsFragment (number : Option ℕ) (space : ℕ) (bytes : List ℕ) (f : Fragment) : Type 0 where
  pub room : header_len number ≤ space
  pub there : header_len number + length_field bytes ≤ length bytes
  pub code : type_field bytes ≡ kind_code number f.kind
  pub tail : drop 7 bytes ≡ tail_of number ++ drop (header_len number) bytes
  pub sum_is : checksum_field bytes ≡ sum_of number (type_field bytes) (part_field number bytes)
  pub part_is : f.part ≡ part_field number bytes

-- the kind and the part that these bytes have are the fragment's, and their checksum is right
record IsChecked (number : Option ℕ) (bytes : List ℕ) (f : Fragment) : Type 0 where
  code : type_field bytes ≡ kind_code number f.kind
  sum_is : checksum_field bytes ≡ sum_of number (type_field bytes) (part_field number bytes)
  part_is : f.part ≡ part_field number bytes

checked_is : (bytes : List ℕ) (f : Fragment) (o : Option Kind) → kind_of_code plain_log (type_field bytes) ≡ o → seen_of_kind bytes o ≡ fragment f → IsChecked None bytes f
unfolding sum_of
checked_is bytes f None read e = absurd (cc)
checked_is bytes f (Some k) read e =
    let s = one_is (checksum_field bytes == masked (crc32c (type_field bytes ∷ part_field plain_log bytes))) _ _ (fragment f) e (λ h. cc) in
    let same : record { kind = k; part = part_field plain_log bytes } ≡ f = let h : fragment (record { kind = k; part = part_field plain_log bytes }) ≡ fragment f = s.1 in cc in
    record {
      code = code_of None (type_field bytes) k read ∙ ap (λ (g : Fragment). kind_code plain_log g.kind) same;
      sum_is = eqb-true _ _ s.0;
      part_is = ap (λ (g : Fragment). g.part) (sym same);
    }

-- the same in a log with a number: the header has that number too, and the bytes are long enough for the part
record IsNumbered (n : ℕ) (bytes : List ℕ) (f : Fragment) : Type 0 where
  fields : IsChecked (Some n) bytes f
  there : 11 + length_field bytes ≤ length bytes
  number : take 4 (drop 7 bytes) ≡ to_le_bytes w32 n

numbered_is : (n : ℕ) (bytes : List ℕ) (f : Fragment) (o : Option Kind) → kind_of_code (Some n) (type_field bytes) ≡ o → seen_of_kind_numbered n bytes o ≡ fragment f → IsNumbered n bytes f
unfolding sum_of
numbered_is n bytes f None read e = absurd (cc)
numbered_is n bytes f (Some k) read e =
    let s1 = other (not (bytes_eq (take 4 (drop 7 bytes)) (to_le_bytes w32 n))) _ _ (fragment f) e (λ h. cc) in
    let s2 = other (nat_lt (length bytes) (11 + length_field bytes)) _ _ (fragment f) s1.1 (λ h. cc) in
    let s = one_is (checksum_field bytes == masked (crc32c (type_field bytes ∷ to_le_bytes w32 n ++ part_field (Some n) bytes))) _ _ (fragment f) s2.1 (λ h. cc) in
    let same : record { kind = k; part = part_field (Some n) bytes } ≡ f = let h : fragment (record { kind = k; part = part_field (Some n) bytes }) ≡ fragment f = s.1 in cc in
    record {
      fields = record {
        code = code_of (Some n) (type_field bytes) k read ∙ ap (λ (g : Fragment). kind_code (Some n) g.kind) same;
        sum_is = eqb-true _ _ s.0;
        part_is = ap (λ (g : Fragment). g.part) (sym same);
      };
      there = ltb-false (length bytes) (11 + length_field bytes) s2.0;
      number = (bytes_eq-Decides (take 4 (drop 7 bytes)) (to_le_bytes w32 n)).0 (not_false _ s1.0);
    }
  where
    not_false : (b : Bool) → not b ≡ false → b ≡ true
    not_false true h = refl
    not_false false h = absurd (cc)

pub fragment_is : (number : Option ℕ) (space : ℕ) (bytes : List ℕ) (f : Fragment) → seen_within number space bytes ≡ fragment f → IsFragment number space bytes f
unfolding seen_within tail_of
fragment_is None space bytes f e =
    let s1 = other (nat_lt space 7) _ _ (fragment f) e (λ h. no_trailer (are_zeros bytes) f h) in
    let s2 = other (length bytes == 0) _ _ (fragment f) s1.1 (λ h. cc) in
    let s3 = other (nat_lt (length bytes) 7) _ _ (fragment f) s2.1 (λ h. cc) in
    let s4 = other (are_zeros (take 7 bytes)) _ _ (fragment f) s3.1 (λ h. cc) in
    let s5 = other (nat_lt (length bytes) (7 + length_field bytes)) _ _ (fragment f) s4.1 (λ h. cc) in
    let is = checked_is bytes f (kind_of_code plain_log (type_field bytes)) refl s5.1 in
    record {
      room = ltb-false space 7 s1.0;
      there = ltb-false (length bytes) (7 + length_field bytes) s5.0;
      code = is.code;
      tail = refl;
      sum_is = is.sum_is;
      part_is = is.part_is;
    }
fragment_is (Some n) space bytes f e =
    let s1 = other (nat_lt space 11) _ _ (fragment f) e (λ h. no_trailer (are_zeros bytes) f h) in
    let s2 = other (length bytes == 0) _ _ (fragment f) s1.1 (λ h. cc) in
    let s3 = other (nat_lt (length bytes) 11) _ _ (fragment f) s2.1 (λ h. cc) in
    let s4 = other (are_zeros (take 11 bytes)) _ _ (fragment f) s3.1 (λ h. cc) in
    let is = numbered_is n bytes f (kind_of_code (Some n) (type_field bytes)) refl s4.1 in
    record {
      room = ltb-false space 11 s1.0;
      there = is.there;
      code = is.fields.code;
      tail = sym (take-append-drop 4 (drop 7 bytes)) ∙ ap (λ (l : List ℕ). l ++ drop 4 (drop 7 bytes)) is.number ∙ ap (λ (l : List ℕ). to_le_bytes w32 n ++ l) (drop-drop 4 7 bytes);
      sum_is = is.fields.sum_is;
      part_is = is.fields.part_is;
    }

-- a header has at least seven bytes
seven : (number : Option ℕ) → 7 ≤ header_len number
seven None = omega arith
seven (Some n) = omega arith

-- the bytes are a header, made of the fields that are read from it, and what follows the header
header_bytes : (number : Option ℕ) (bytes : List ℕ) (n : ℕ) → AreBytes bytes → 7 ≤ length bytes → length_field bytes ≡ n → drop 7 bytes ≡ tail_of number ++ drop (header_len number) bytes
    → (to_le_bytes w32 (checksum_field bytes) ++ to_le_bytes w16 n ++ type_field bytes ∷ tail_of number) ++ drop (header_len number) bytes ≡ bytes
header_bytes number bytes n are long len tail =
    let later : List ℕ = drop (header_len number) bytes in
    let sum : to_le_bytes w32 (checksum_field bytes) ≡ take 4 bytes = le_bytes_4 (take 4 bytes) (checksum_field bytes) (omega (arith, length-take 4 bytes)) (bytes_at (take 4 bytes) (bytes_take 4 bytes are)) refl in
    let two : to_le_bytes w16 n ≡ take 2 (drop 4 bytes) =
    le_bytes_2 (take 2 (drop 4 bytes)) n (omega (arith, length-take 2 (drop 4 bytes), length-drop 4 bytes)) (bytes_at (take 2 (drop 4 bytes)) (bytes_take 2 (drop 4 bytes) (bytes_drop 4 bytes are))) (sym len) in
    let last : type_field bytes ∷ drop 7 bytes ≡ drop 2 (drop 4 bytes) = sym (drop-drop 2 4 bytes ∙ drop-cons bytes 6 0 (omega arith)) in
    let behind : to_le_bytes w16 n ++ type_field bytes ∷ drop 7 bytes ≡ drop 4 bytes =
    ap (λ (l : List ℕ). l ++ type_field bytes ∷ drop 7 bytes) two ∙ (ap (λ (l : List ℕ). take 2 (drop 4 bytes) ++ l) last ∙ take-append-drop 2 (drop 4 bytes)) in
    append_assoc (to_le_bytes w32 (checksum_field bytes) ++ to_le_bytes w16 n) (type_field bytes ∷ tail_of number) later
    ∙ (append_assoc (to_le_bytes w32 (checksum_field bytes)) (to_le_bytes w16 n) (type_field bytes ∷ (tail_of number ++ later))
    ∙ (ap (λ (l : List ℕ). to_le_bytes w32 (checksum_field bytes) ++ (to_le_bytes w16 n ++ type_field bytes ∷ l)) (sym tail)
    ∙ (ap (λ (l : List ℕ). l ++ (to_le_bytes w16 n ++ type_field bytes ∷ drop 7 bytes)) sum ∙ (ap (λ (l : List ℕ). take 4 bytes ++ l) behind ∙ take-append-drop 4 bytes))))

-- The bytes are those of the fragment that is seen, and then what follows it.
pub fragment_bytes_are : (number : Option ℕ) (space : ℕ) (bytes : List ℕ) (f : Fragment) → AreBytes bytes → seen_within number space bytes ≡ fragment f
    → bytes ≡ fragment_bytes number f ++ drop (header_len number + length f.part) bytes
fragment_bytes_are number space bytes f are e =
    let is = fragment_is number space bytes f e in
    let part = part_field number bytes in
    let code : ℕ = kind_code number f.kind in
    let later : List ℕ = drop (header_len number) bytes in
    let len : length part ≡ length_field bytes = omega (arith, is.there, length-take (length_field bytes) later, length-drop (header_len number) bytes) in
    let behind : later ≡ part ++ drop (header_len number + length part) bytes =
    sym (take-append-drop (length_field bytes) later) ∙ ap (λ (l : List ℕ). part ++ l) (drop-drop (length_field bytes) (header_len number) bytes ∙ ap (λ (n : ℕ). drop (header_len number + n) bytes) (sym len)) in
    let front : checksum_field bytes ≡ sum_of number code part = is.sum_is ∙ ap (λ (t : ℕ). sum_of number t part) is.code in
    subst (λ (p : List ℕ). bytes ≡ fragment_bytes number (record { kind = f.kind; part = p }) ++ drop (header_len number + length p) bytes) (sym is.part_is)
    (sym (header_bytes number bytes (length part) are (omega (arith, is.there, seven number)) (sym len) is.tail)
    ∙ (ap (λ (t : ℕ). (to_le_bytes w32 (checksum_field bytes) ++ to_le_bytes w16 (length part) ++ t ∷ tail_of number) ++ later) is.code
    ∙ (ap (λ (n : ℕ). (to_le_bytes w32 n ++ to_le_bytes w16 (length part) ++ code ∷ tail_of number) ++ later) front
    ∙ (ap (λ (l : List ℕ). l ++ later) (sym (header_is number code part))
    ∙ (ap (λ (l : List ℕ). header number code part ++ l) behind ∙ sym (append_assoc (header number code part) part (drop (header_len number + length part) bytes)))))))
