-- Bytes can be read as one list of readable records at most. Bytes that are all read have no error.
use Rattle.std.proofs.Common.{◌≡◌, ℕ, ◌+◌, ◌<◌, List, [], ◌∷◌, ◌++◌, refl, sym, ◌∙◌, ap, arith, append_assoc, append-nil, length}
use Rattle.std.specs.List.{AllByRecursion}
use Rattle.model_base.specs.declared.batch.BatchError.{BatchError}
use Rattle.model_base.specs.Batch.{Record, count_of, record_bytes, body, IsReadable, NoRecord}
use Rattle.base_bytes.proofs.Records.{one_record, one_read}
use Rattle.log_batch.specs.Body.{IsBody}
use Rattle.log_batch.proofs.Additions.{body-added, count_of-added}
use Rattle.log_batch.proofs.OneRecord.{no_record_error}

-- the bytes begin with no readable record
abbrev pub BeginNone : List ℕ → Type 0
BeginNone bytes = (r : Record) (x : List ℕ) → IsReadable r → bytes ≡ record_bytes r ++ x → ⊥

-- Empty bytes begin with no record.
pub none_in_nothing : BeginNone []
none_in_nothing r x readable is = absurd (omega (arith, ap length is))

-- Bytes with an error begin with no readable record.
pub none_in_error : (bytes : List ℕ) (e : BatchError) → NoRecord bytes e → BeginNone bytes
none_in_error bytes e wrong r x readable is = no_record_error bytes x r e readable is wrong

-- the body of one more record is the bytes of this record and then the body of the others
in_front : (r : Record) (records : List Record) (x : List ℕ) → body (r ∷ records) ++ x ≡ record_bytes r ++ (body records ++ x)
in_front r records x = append_assoc (record_bytes r) (body records) x

-- Reading bytes as far as they can be read gives only one list of records and one rest.
pub one_walk : (a b : List Record) (x y : List ℕ) → AllByRecursion IsReadable a → AllByRecursion IsReadable b → BeginNone x → BeginNone y → body a ++ x ≡ body b ++ y → (a ≡ b) × (x ≡ y)
one_walk [] [] x y read_a read_b none_x none_y same = (refl, same)
one_walk [] (s ∷ b) x y read_a read_b none_x none_y same = absurd (none_x s (body b ++ y) read_b.0 (same ∙ in_front s b y))
one_walk (r ∷ a) [] x y read_a read_b none_x none_y same = absurd (none_y r (body a ++ x) read_a.0 (sym same ∙ in_front r a x))
one_walk (r ∷ a) (s ∷ b) x y read_a read_b none_x none_y same =
    let first = one_record r s (body a ++ x) (body b ++ y) read_a.0 read_b.0 (sym (in_front r a x) ∙ same ∙ in_front s b y) in
    let rest = one_walk a b x y read_a.1 read_b.1 none_x none_y first.1 in
    (ap (λ (v : Record). v ∷ a) first.0 ∙ ap (λ (l : List Record). s ∷ l) rest.0, rest.1)

-- Empty bytes are those of no records.
pub no_bytes : (bytes : List ℕ) (h : IsBody bytes) → length bytes ≡ 0 → h.records ≡ []
no_bytes bytes h none = one_read h.records [] h.readable tt (sym h.spelled ∙ nothing bytes none) where
  nothing : (bytes : List ℕ) → length bytes ≡ 0 → bytes ≡ []
  nothing [] none = refl
  nothing (b ∷ bytes) none = absurd (omega (arith, none))

-- if readable records have these bytes, what follows the first record is the bytes of the others
behind_first_of : (bytes : List ℕ) (records : List Record) (r : Record) (rest : List ℕ) → AllByRecursion IsReadable records → bytes ≡ body records → IsReadable r → bytes ≡ record_bytes r ++ rest
    → (later : IsBody rest) × (records ≡ r ∷ later.records)
behind_first_of bytes [] r rest read is readable first = absurd (none_in_nothing r rest readable (sym is ∙ first))
behind_first_of bytes (s ∷ records) r rest read is readable first =
    let same = one_record s r (body records) rest read.0 readable (sym is ∙ first) in
    (record { records = records; readable = read.1; spelled = sym same.1 }, ap (λ (v : Record). v ∷ records) same.0)

-- After the first record come the bytes of the others.
pub behind_first : (bytes : List ℕ) (h : IsBody bytes) (r : Record) (rest : List ℕ) → IsReadable r → bytes ≡ record_bytes r ++ rest → (later : IsBody rest) × (h.records ≡ r ∷ later.records)
behind_first bytes h r rest readable first = behind_first_of bytes h.records r rest h.readable h.spelled readable first

-- Bytes of readable records don't begin with an error.
pub no_error_inside : (bytes : List ℕ) (records : List Record) (e : BatchError) → AllByRecursion IsReadable records → bytes ≡ body records → 0 < length bytes → NoRecord bytes e → ⊥
no_error_inside bytes [] e read is some wrong = omega (arith, ap length is, some)
no_error_inside bytes (r ∷ records) e read is some wrong = no_record_error bytes (body records) r e read.0 is wrong

-- what holds of each of a list and of one more element
all_more : {X : Type 0} (P : X → Type 0) (xs : List X) (x : X) → AllByRecursion P xs → P x → AllByRecursion P (xs ++ x ∷ [])
all_more P [] x all one = (one, tt)
all_more P (y ∷ xs) x all one = (all.0, all_more P xs x all.1 one)

-- The bytes are readable records, of which `found` count, and then the rest.
pub record Walks (bytes rest : List ℕ) (found : ℕ) : Type 0 where
  pub records : List Record
  pub readable : AllByRecursion IsReadable records
  pub spelled : bytes ≡ body records ++ rest
  pub counted : found ≡ count_of records

-- `Walks` with one more record.
pub walks_more : (bytes rest : List ℕ) (found : ℕ) (r : Record) (behind : List ℕ) → Walks bytes rest found → IsReadable r → rest ≡ record_bytes r ++ behind → Walks bytes behind (found + count_of (r ∷ []))
walks_more bytes rest found r behind walks readable first = record {
  records = walks.records ++ r ∷ [];
  readable = all_more IsReadable walks.records r walks.readable readable;
  spelled = walks.spelled ∙ ap (λ (l : List ℕ). body walks.records ++ l) first ∙ sym (append_assoc (body walks.records) (record_bytes r) behind) ∙ ap (λ (l : List ℕ). l ++ behind) (sym (body-added walks.records r));
  counted = ap (λ n. n + count_of (r ∷ [])) walks.counted ∙ sym (count_of-added walks.records r);
}

-- If nothing is left, the bytes are those of the records, of which `found` count.
pub walked_all : (bytes rest : List ℕ) (found : ℕ) → Walks bytes rest found → length rest ≡ 0 → (h : IsBody bytes) × (found ≡ count_of h.records)
walked_all bytes [] found walks none =
    (record { records = walks.records; readable = walks.readable; spelled = walks.spelled ∙ append-nil (body walks.records) }, walks.counted)
walked_all bytes (b ∷ rest) found walks none = absurd (omega (arith, none))
